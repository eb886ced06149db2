-- The faults G1 to G4 of a text that is read as a register, and the first of them: the least line, then the least
-- number.
use Rattle.std.specs.Prelude.{◌≡◌, ℕ, ◌+◌, ◌<◌, ◌≤◌, ◌^◌, ◌==◌, ◌⊎◌, Bool, List, [], ◌∷◌, ◌++◌, length, if◌then◌else◌}
use Rattle.std.specs.List.{list_any}
use Rattle.cwr_record.specs.FaultOrder.{IsNoLater}
use Rattle.work_registry.specs.declared.reply.Reply.{Reply}
use Rattle.work_registry.specs.declared.register.refusal.RegisterRefusal.{RegisterRefusal}
use Rattle.work_registry.specs.declared.register.refusal.RegisterRefusal.TheVariants.{Memory, Fault}
use Rattle.work_registry.specs.EntryValue.{EntryValue}
use Rattle.work_registry.specs.Rows.{rows_of}
use Rattle.work_registry.specs.Reply.{reply_to}
use Rattle.work_registry.specs.RegisterLine.{EntryLine, IsEntryLine}
use Rattle.work_registry.specs.ReplyParts.{status_in}
use Rattle.work_registry.specs.Register.{work_of, version_of, line_for, count_line}

-- the lines of a text with one byte more before the first of them
abbrev pub in_front : ℕ → List (List ℕ) → List (List ℕ)
in_front b [] = (b ∷ []) ∷ []
in_front b (line ∷ rest) = (b ∷ line) ∷ rest

-- the lines of a text, each with the LF that ends it; the last may lack one
abbrev pub lines : List ℕ → List (List ℕ)
lines [] = []
lines (b ∷ text) = if b == 10 then (10 ∷ []) ∷ lines text else in_front b (lines text)

-- there is an LF in the text
abbrev pub has_end : List ℕ → Bool
has_end text = list_any (λ b. b == 10) text

-- G1 of the first line: it is not the line of any number of entries
abbrev pub IsNoCount : List ℕ → Type 0
IsNoCount line = (count : ℕ) → count < 10 ^ 8 → line ≡ count_line count → ⊥

-- G1 of another line: it is not the line of any entry
abbrev pub IsNoEntry : List ℕ → Type 0
IsNoEntry line = (x : EntryLine) → IsEntryLine line x → ⊥

-- G2: the line is that of an entry with another index
abbrev pub IsMisplaced : ℕ → List ℕ → Type 0
IsMisplaced index line = (x : EntryLine) × IsEntryLine line x × (x.index ≡ index → ⊥)

-- the line of an entry has the status, the work and the version of this reply
pub record Tells (x : EntryLine) (reply : Reply) : Type 0 where
  pub status : x.status ≡ status_in reply
  pub work : x.work ≡ work_of reply
  pub version : x.version ≡ version_of reply

-- G3: the line does not have the reply of the registry to its call after the entries before
abbrev pub IsUnlawful : List EntryValue → List ℕ → Type 0
IsUnlawful before line = (x : EntryLine) × IsEntryLine line x × (Tells x (reply_to (rows_of before) x.call) → ⊥)

-- A line that stands after these entries, in a register that says it has `count`, has fault n. A line behind the last
-- entry has G2 alone.
abbrev pub HasNumber : ℕ → List EntryValue → List ℕ → ℕ → Type 0
HasNumber count before line n =
    ((length before < count) × (((n ≡ 1) × IsNoEntry line) ⊎ (((n ≡ 2) × IsMisplaced (length before + 1) line) ⊎ ((n ≡ 3) × IsUnlawful before line))))
    ⊎ ((count ≤ length before) × (n ≡ 2))

-- the line is that of this entry with this index, and the entry is of the opening
pub record IsLineOf (index : ℕ) (line : List ℕ) (e : EntryValue) : Type 0 where
  pub says : IsEntryLine line (line_for index e.call e.reply)
  pub session : e.session ≡ 0

-- Line k has fault n, where these lines stand after these entries in a register that says it has `count`. Lines are
-- counted from 1 from the first line of the register. Where an entry is missing, the line after the last has G2. A
-- line is judged as long as those before it are lines of entries.
abbrev pub HasFaultAfter : ℕ → List EntryValue → List (List ℕ) → ℕ → ℕ → Type 0
HasFaultAfter count before [] k n = (k ≡ length before + 2) × (n ≡ 2) × (length before < count)
HasFaultAfter count before (line ∷ rest) k n =
    ((k ≡ length before + 2) × HasNumber count before line n)
    ⊎ ((length before < count) × ((e : EntryValue) × IsLineOf (length before + 1) line e × HasFaultAfter count (before ++ e ∷ []) rest k n))

-- line k of a register has fault n, where it may have at most `limit` entries; a register that says it has more has G4
abbrev pub HasFault : ℕ → List (List ℕ) → ℕ → ℕ → Type 0
HasFault limit [] k n = (k ≡ 1) × (n ≡ 2)
HasFault limit (first ∷ rest) k n =
    ((k ≡ 1) × (n ≡ 1) × IsNoCount first)
    ⊎ ((count : ℕ) × (count < 10 ^ 8) × (first ≡ count_line count) × (((k ≡ 1) × (n ≡ 4) × (limit < count)) ⊎ HasFaultAfter count [] rest k n))

-- line k of a text, from 1, has fault n as a register of at most `limit` entries
abbrev pub IsFault : ℕ → List ℕ → ℕ → ℕ → Type 0
IsFault limit text k n = HasFault limit (lines text) k n

-- the first fault of a register: line k has fault n, and no fault has a lower line, or a lower number at that line
pub record IsLeastFault (limit : ℕ) (text : List ℕ) (k n : ℕ) : Type 0 where
  pub has : IsFault limit text k n
  -- no fault comes before it
  pub least : (j m : ℕ) → IsFault limit text j m → IsNoLater k n j m

-- why a text is refused as a register: an allocation failed, which says nothing of the text, or it has this first
-- fault
abbrev pub IsRefusal : ℕ → List ℕ → RegisterRefusal → Type 0
IsRefusal limit text Memory = Unit {0}
IsRefusal limit text (Fault number line) = IsLeastFault limit text line number
