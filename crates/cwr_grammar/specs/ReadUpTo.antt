-- What is known of a text while a file is read, up to a position.
use Rattle.std.specs.Prelude.{ℕ, ◌+◌, ◌≡◌, ◌≤◌, ◌<◌, ◌^◌, Bool, true, false, ◌&&◌, List, [], ◌∷◌, ◌++◌, length, map, drop, Option, Some, None, is_some, IfSome}
use Rattle.std.specs.Str.Lines.{lines}
use Rattle.cwr_field.specs.Number.{max_count}
use Rattle.cwr_record.specs.Control as table
use Rattle.cwr_record.specs.Layout.{StandsFor}
use Rattle.cwr_record.specs.declared.control.Header.{Header}
use Rattle.cwr_grammar.specs.declared.file_counts.FileCounts.{FileCounts}
use Rattle.cwr_grammar.specs.declared.role.Role.{Role}
use Rattle.cwr_grammar.specs.declared.role.Role.TheVariants.{FileHeader}
use Rattle.cwr_grammar.specs.Collected.{details, raws, group_count, record_count}
use Rattle.cwr_grammar.specs.Counted.{counts_of}
use Rattle.cwr_grammar.specs.FaultTests.{is_after_end}
use Rattle.cwr_grammar.specs.File.{File, IsFile}
use Rattle.cwr_grammar.specs.FirstFault.{first_fault, first_fault_after, tail_fault, with_eleven}
use Rattle.cwr_grammar.specs.RawParts.{RawParts}
use Rattle.cwr_grammar.specs.Roles.{role_of}
use Rattle.cwr_grammar.specs.Submitted.{AreParts}
use Rattle.cwr_grammar.specs.Visiting.{HasAtMost, leaves_open}

-- The lines before a position have no fault and no TRL, and are counted. The first fault of the text, and its numbers
-- of groups and records, are those that the rest of the text gives after them.
pub record Going (text : List ℕ) (counts : FileCounts) (at : ℕ) (before : List (List ℕ)) : Type 0 where
  -- the position lies in the text
  pub inside : at ≤ length text
  -- each line takes at least one byte
  pub few : length before ≤ at
  -- the number of groups has at most five digits
  pub few_groups : counts.groups < 10 ^ 5
  pub counted : counts ≡ counts_of (map role_of before)
  -- no TRL has been read
  pub goes : is_after_end before ≡ false
  -- the first fault of the text is that of the rest after these lines
  pub fault : first_fault_after before (lines (drop at text)) ≡ first_fault_after [] (lines text)
  -- the groups so far and those of the rest are those of the text
  pub group_total : counts.groups + group_count (lines (drop at text)) ≡ group_count (lines text)
  -- the lines so far and those of the rest, up to TRL, are those of the text
  pub record_total : counts.lines + record_count (lines (drop at text)) ≡ record_count (lines text)

-- what was read of a text before a position
pub record Progress : Type 0 where
  -- what a reader has counted in the lines before the position
  pub counts : FileCounts
  -- these lines, the newest first
  pub before : List (List ℕ)
  -- whether a transaction is open
  pub is_open : Bool
  -- the transactions that were given whole, in order
  pub whole : List RawParts
  -- the transaction that is open, with its lines so far
  pub current : Option RawParts

-- a transaction is open where the counts say so, and it has as many lines as they say
pub record IsOpen (progress : Progress) : Type 0 where
  pub open_is : is_some progress.current ≡ progress.is_open
  pub counted : progress.is_open ≡ (progress.counts.in_group && progress.counts.in_transaction)
  -- its lines are its header and the details
  pub long : IfSome progress.current (λ t. length t.lines ≡ progress.counts.details + 1)
  -- its details are at most as many as eight digits count
  pub few : HasAtMost (max_count + 1) progress.current

-- the open transaction, with the details that stand first in the rest
abbrev pub going_on : Option RawParts → List (List ℕ) → List RawParts
going_on None rest = []
going_on (Some t) rest = record t { lines = t.lines ++ details rest } ∷ []

-- all transactions of the text are those that were given whole, the open one with its further details, and those of
-- the rest
abbrev pub IsGiven : List RawParts → Progress → List (List ℕ) → Type 0
IsGiven all progress rest = progress.whole ++ going_on progress.current rest ++ raws rest progress.counts.groups progress.counts.transactions ≡ all

-- what holds before a line: no fault so far, and the visitor has been given the transactions read so far
pub record Visiting (keeps : List RawParts → Option RawParts → Type 0) (text : List ℕ) (at : ℕ) (progress : Progress) : Type 0 where
  pub going : Going text progress.counts at progress.before
  -- what the visitor keeps of whole and open transactions
  pub kept : keeps progress.whole progress.current
  pub is : IsOpen progress
  pub few : length progress.whole ≤ length progress.before
  -- with the rest, they are all transactions of the text
  pub given : IsGiven (raws (lines text) 0 0) progress (lines (drop at text))

-- ---- the state of a reader

-- what a reader of a file keeps between lines
pub record ReaderState : Type 0 where
  pub counts : FileCounts
  -- whether a transaction is open
  pub is_open : Bool
  -- the file's header; `None` before its line is read
  pub header : Option Header
  -- the number of lines read after the TRL
  pub tail : ℕ

-- the state before the first line
abbrev pub at_start : ReaderState
at_start = record { counts = counts_of []; is_open = false; header = None; tail = 0 }

-- the header that is kept after a line with this role: an HDR's, or else the one that was kept before
abbrev pub HeadAfter : Option Header → Role → List ℕ → Option Header → Type 0
HeadAfter head (FileHeader valid) line next = (header : Header) × (next ≡ Some header) × StandsFor table.header line header
HeadAfter head _ line next = next ≡ head

-- the reader has read one line more, which has this role
pub record IsPast (s next : ReaderState) (line : List ℕ) (role : Role) : Type 0 where
  -- the counts have one line more
  pub counted : (before : List Role) → s.counts ≡ counts_of before → next.counts ≡ counts_of (role ∷ before)
  pub is_open : next.is_open ≡ leaves_open role
  pub header : HeadAfter s.header role line next.header
  pub tail : next.tail ≡ s.tail

-- no TRL stands before this position, and the lines before it have no fault
pub record GoesOnAt (keeps : List RawParts → Option RawParts → Type 0) (s : ReaderState) (text : List ℕ) (at : ℕ) : Type 0 where
  -- the lines before the position, the newest first
  pub before : List (List ℕ)
  -- the transactions that were given whole
  pub whole : List RawParts
  -- the transaction that is open
  pub current : Option RawParts
  pub visiting : Visiting keeps text at (record { counts = s.counts; before = before; is_open = s.is_open; whole = whole; current = current })
  pub no_tail : s.tail ≡ 0

-- A TRL stands before this position, and no line up to there has a fault. What follows decides alone whether the text
-- is a file; if it is one, these are its parts.
pub record EndedBefore (keeps : List RawParts → Option RawParts → Type 0) (s : ReaderState) (text : List ℕ) (at : ℕ) : Type 0 where
  pub whole : List RawParts
  pub kept : keeps whole None
  -- the transactions and counts of the text, if it is a file
  pub parts : (f : File) → IsFile (lines text) f → AreParts f whole s.counts.groups s.counts.lines
  pub inside : at ≤ length text
  pub some : 0 < s.counts.lines
  pub few : s.counts.lines + s.tail ≤ at
  pub few_groups : s.counts.groups < 10 ^ 5
  pub few_records : s.counts.lines < 10 ^ 8
  -- a first fault of the text is F11 at the first line of the rest that may not follow TRL
  pub fault : first_fault (lines text) ≡ with_eleven (tail_fault (s.counts.lines + s.tail + 1) (lines (drop at text)))

-- the header that was read is that of the text, if the text is a well-formed file
pub record IsHeadOf (head : Option Header) (text : List ℕ) : Type 0 where
  pub header : Header
  pub header_is : head ≡ Some header
  pub stands : (f : File) → IsFile (lines text) f → StandsFor table.header f.header header

-- A reader has read the lines of a text before a position, with no fault so far, and a visitor keeps of their header
-- and of their transactions what `keeps` says.
pub record IsReadUpTo (keeps : Option Header → List RawParts → Option RawParts → Type 0) (s : ReaderState) (text : List ℕ) (at : ℕ) : Type 0 where
  -- while no TRL was read
  pub goes : s.counts.is_ended ≡ false → GoesOnAt (keeps s.header) s text at
  -- once a TRL was read
  pub ended : s.counts.is_ended ≡ true → EndedBefore (keeps s.header) s text at
  -- before the first line is read the position is 0
  pub first : s.counts.lines ≡ 0 → at ≡ 0
  -- before the first line no header is kept
  pub headless : s.counts.lines ≡ 0 → s.header ≡ None
  -- after it the header is that of the text
  pub headed : 0 < s.counts.lines → IsHeadOf s.header text

-- the line at a position of a text, which with its line end has n bytes
pub record IsNextLine (line text : List ℕ) (at n : ℕ) : Type 0 where
  -- the lines from the position on are this one, and those from n bytes later on
  pub split : lines (drop at text) ≡ line ∷ lines (drop (at + n) text)
  pub some : 0 < n
  pub inside : at + n ≤ length text

-- the bytes stand in the text at this position, counted from 0
pub record StandsAt (bytes text : List ℕ) (at : ℕ) : Type 0 where
  -- the bytes that follow them
  pub after : List ℕ
  pub here : drop at text ≡ bytes ++ after
