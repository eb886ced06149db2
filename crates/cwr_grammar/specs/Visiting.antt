-- A file that is given to a visitor line by line: what the visitor was given, and what one more line adds to that.
use Rattle.std.specs.Prelude.{ℕ, ◌+◌, ◌≤◌, ◌≡◌, Bool, true, false, List, [], ◌∷◌, ◌++◌, length, Option, Some, None, option_map, is_some}
use Rattle.std.specs.Str.Lines.{lines}
use Rattle.cwr_field.specs.Number.{max_count}
use Rattle.cwr_record.specs.declared.control.Header.{Header}
use Rattle.cwr_grammar.specs.declared.role.Role.{Role}
use Rattle.cwr_grammar.specs.declared.role.Role.TheVariants.{TransactionHeader, Detail}
use Rattle.cwr_grammar.specs.File.{File, IsFile}
use Rattle.cwr_grammar.specs.RawParts.{RawParts}
use Rattle.cwr_grammar.specs.Submitted.{IsSubmission, IsBounded}

-- a transaction with one line more
abbrev pub with_line : List ℕ → RawParts → RawParts
with_line line t = record t { lines = t.lines ++ line ∷ [] }

-- These bytes are a well-formed file that was given whole: a visitor keeps exactly its header and its transactions, in
-- order.
pub record WasGiven (keeps : Option Header → List RawParts → Option RawParts → Type 0) (bytes : List ℕ) (head : Header) (group_count record_count : ℕ) : Type 0 where
  pub file : File
  pub transactions : List RawParts
  pub formed : IsFile (lines bytes) file
  pub kept : keeps (Some head) transactions None
  pub submission : IsSubmission file head transactions group_count record_count
  pub bounds : IsBounded (length bytes) head transactions

-- the line is a detail of a transaction
abbrev pub is_detail : Role → Bool
is_detail (Detail transaction place) = true
is_detail _ = false

-- a transaction is open after a line with this role
abbrev pub leaves_open : Role → Bool
leaves_open (Detail transaction place) = true
leaves_open (TransactionHeader (Some kind) transaction place) = true
leaves_open _ = false

-- the whole transactions once the open one ends; it comes last
abbrev pub closed : List RawParts → Option RawParts → List RawParts
closed whole None = whole
closed whole (Some t) = whole ++ t ∷ []

-- the transactions that are whole after a line: a detail continues the open one, and any other line ends it
abbrev pub whole_after : Role → List RawParts → Option RawParts → List RawParts
whole_after (Detail transaction place) whole current = whole
whole_after _ whole current = closed whole current

-- the open transaction after a line, where a header opens the transaction t of group g
abbrev pub open_after : Role → List ℕ → ℕ → ℕ → Option RawParts → Option RawParts
open_after (Detail transaction place) line g t current = option_map (with_line line) current
open_after (TransactionHeader (Some kind) transaction place) line g t current = Some (record { group = g; sequence = t; kind = kind; lines = line ∷ [] })
open_after _ line g t current = None

-- the open transaction, if there is one, has at most n lines
abbrev pub HasAtMost : ℕ → Option RawParts → Type 0
HasAtMost n None = Unit {0}
HasAtMost n (Some t) = length t.lines ≤ n

-- a line with this role may be given: a detail needs an open transaction, which has fewer details than eight digits
-- count
pub record MayBeGiven (role : Role) (is_open : Bool) (current : Option RawParts) : Type 0 where
  pub open_is : is_some current ≡ is_open
  -- a detail needs a transaction that is open
  pub detail : is_detail role ≡ true → is_open ≡ true
  -- which has at most 99,999,999 lines so far
  pub room : is_detail role ≡ true → HasAtMost max_count current
  pub few : HasAtMost (max_count + 1) current
