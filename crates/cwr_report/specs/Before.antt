-- What the lines of a file before one of them say, and where that one stands in the file's groups and transactions.
use Rattle.std.specs.Prelude.{ℕ, ◌≡◌, ◌+◌, ◌-◌, ◌&&◌, List, [], ◌∷◌, map, drop, Option, Some, None, if◌then◌else◌}
use Rattle.cwr_grammar.specs.Counted.{counts_of}
use Rattle.cwr_grammar.specs.Roles.{role_of}
use Rattle.cwr_grammar.specs.declared.file_counts.FileCounts.{FileCounts}
use Rattle.cwr_record.specs.declared.record_type.RecordType.{RecordType}
use Rattle.cwr_record.specs.declared.record_type.RecordType.TheVariants.{Hdr, Grh, Grt, Trl, Nwr, Rev, Ack, Other, Bad}
use Rattle.cwr_report.specs.Walks.{lines_before}
use Rattle.cwr_report.specs.declared.file_finding.RecordPlace.{RecordPlace}
use Rattle.cwr_report.specs.declared.file_finding.RecordPlace.TheVariants.{Nameless, File, Group, Transaction}

-- the counts of these lines, which stand the newest first
abbrev pub before_of : List (List ℕ) → FileCounts
before_of before = counts_of (map role_of before)

-- the first `index` lines were read, b are their counts, and the rest is left
pub record IsPassed (b : FileCounts) (rest all : List (List ℕ)) (index : ℕ) : Type 0 where
  pub left : rest ≡ drop index all
  pub before_is : b ≡ before_of (lines_before all index)

-- the first of the lines, where there is one
abbrev pub first_here : List (List ℕ) → Option (List ℕ)
first_here [] = None
first_here (line ∷ more) = Some line

-- the line at an index, from 0, where there is one
abbrev pub here : List (List ℕ) → ℕ → Option (List ℕ)
here lines index = first_here (drop index lines)

-- where a GRT stands: in the open group, or outside groups where none is open
abbrev pub trailer_place : FileCounts → RecordPlace
trailer_place b = if b.in_group then Group b.groups else File

-- where a transaction's header stands: it begins the next transaction of the open group, counted from 0; outside
-- groups where none is open
abbrev pub header_place : FileCounts → RecordPlace
header_place b = if b.in_group then Transaction b.groups b.transactions 0 else File

-- where a detail stands: in the last transaction of the open group, with the next record sequence; outside groups
-- where there is none
abbrev pub detail_place : FileCounts → RecordPlace
detail_place b = if b.in_group && b.in_transaction then Transaction b.groups (b.transactions - 1) (b.details + 1) else File

-- where a line with a record of this type stands, given the counts of the lines before it
abbrev pub place_in : FileCounts → RecordType → RecordPlace
place_in b Bad = Nameless
place_in b Hdr = File
place_in b Trl = File
place_in b Grh = Group (b.groups + 1)
place_in b Grt = trailer_place b
place_in b Nwr = header_place b
place_in b Rev = header_place b
place_in b Ack = header_place b
place_in b Other = header_place b
place_in b _ = detail_place b
