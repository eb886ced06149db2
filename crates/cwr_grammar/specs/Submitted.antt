-- What the reader of a file returns: the file, or its first fault.
use Rattle.std.specs.Prelude.{ℕ, ◌*◌, ◌≡◌, ◌≤◌, List, length, IsTrue}
use Rattle.std.specs.List.{AllByRecursion}
use Rattle.cwr_record.specs.Control as table
use Rattle.cwr_record.specs.Layout.{StandsFor}
use Rattle.cwr_field.specs.Layout.{is_printable}
use Rattle.cwr_record.specs.declared.control.Header.{Header}
use Rattle.cwr_grammar.specs.declared.refusal.FileRefusal.{FileRefusal}
use Rattle.cwr_grammar.specs.declared.refusal.FileRefusal.TheVariants.{Memory, Fault}
use Rattle.cwr_grammar.specs.Faults.{IsLeastFault}
use Rattle.cwr_grammar.specs.File.{File, records_of}
use Rattle.cwr_grammar.specs.RawParts.{RawParts, IsPlaced, lines_in, raws_of}

-- the result of reading a file: its header, its transactions, and the numbers of its groups and records
pub record IsSubmission (f : File) (head : Header) (found : List RawParts) (group_count record_count : ℕ) : Type 0 where
  pub header : StandsFor table.header f.header head
  pub transactions : found ≡ raws_of 1 f.groups
  pub groups : group_count ≡ length f.groups
  pub records : record_count ≡ length (records_of f)

-- What is true of every well-formed file of `size` bytes: the numbers of its transactions have at most the digits of
-- their fields, its transactions have together at most half as many lines as the file has bytes, and its sender has no
-- byte below 32.
pub record IsBounded (size : ℕ) (head : Header) (found : List RawParts) : Type 0 where
  -- the numbers of each transaction have at most the digits of their fields
  pub placed : AllByRecursion IsPlaced found
  pub few : 2 * lines_in found ≤ size
  pub printable : IsTrue (is_printable head.sender)

-- why a text is refused: an allocation failed, or it has this first fault
abbrev pub IsRefusal : List (List ℕ) → FileRefusal → Type 0
IsRefusal text Memory = Unit {0}
IsRefusal text (Fault number line) = IsLeastFault text line number

-- the transactions and the numbers of groups and records are those of the file
pub record AreParts (f : File) (found : List RawParts) (group_count record_count : ℕ) : Type 0 where
  pub transactions : found ≡ raws_of 1 f.groups
  pub groups : group_count ≡ length f.groups
  pub records : record_count ≡ length (records_of f)
