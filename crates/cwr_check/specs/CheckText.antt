-- The text of a check: each transaction of a file with the rules that it breaks, or the file's first fault.
use Rattle.std.specs.Prelude.{◌≡◌, ℕ, ◌⊎◌, Bool, false, not, ◌==◌, List, [], ◌∷◌, ◌++◌, length, codes}
use Rattle.std.specs.List.{flat_map, count_by}
use Rattle.std.specs.Fmt.{decimal}
use Rattle.cwr_record.specs.Columns.{field_at, header_sender}
use Rattle.cwr_field.specs.Number.{number_text}
use Rattle.cwr_record.specs.Kinds.{work_kind_code}
use Rattle.cwr_grammar.specs.Faults.{IsLeastFault}
use Rattle.cwr_grammar.specs.FaultText.{refused_text}
use Rattle.cwr_grammar.specs.File.{File, IsFile}
use Rattle.cwr_grammar.specs.RawParts.{RawParts, raws_of}
use Rattle.cwr_call.specs.declared.transaction_fault.Fault.{Fault}
use Rattle.cwr_rules.specs.Calls.{call_of}
use Rattle.cwr_call.specs.Lawful.{is_none_found}

-- the submitter of a file: Sender Type and Sender ID of its HDR
abbrev pub submitter_of : File → List ℕ
submitter_of file = field_at file.header header_sender

-- every fault of a submitter's transaction, J1 to J15, in rising order
abbrev pub faults_in : List ℕ → RawParts → List Fault
faults_in submitter transaction = (call_of submitter transaction).faults

-- a blank, the faulty record's sequence, a colon, and the rule's number behind J
abbrev pub fault_text : Fault → List ℕ
fault_text fault = codes " " ++ decimal fault.sequence ++ codes ":J" ++ decimal fault.number

-- ok where there is no fault, else rejected and the faults
abbrev pub verdict_text : List Fault → List ℕ
verdict_text [] = codes "ok"
verdict_text (fault ∷ faults) = codes "rejected" ++ flat_map fault_text (fault ∷ faults)

-- group id, transaction sequence and kind, each with a blank after it
unfoldable pub place_text : RawParts → List ℕ
place_text t = number_text 5 t.group ++ codes " " ++ number_text 8 t.sequence ++ codes " " ++ work_kind_code t.kind ++ codes " "

-- the line of a transaction: its place and its faults
abbrev pub transaction_line : List ℕ → RawParts → List ℕ
transaction_line submitter t = place_text t ++ verdict_text (faults_in submitter t) ++ 10 ∷ []

-- the transaction has a fault
abbrev pub has_faults : List ℕ → RawParts → Bool
has_faults submitter t = not (is_none_found (faults_in submitter t))

-- the number of transactions that have faults
abbrev pub faulty_count : List ℕ → List RawParts → ℕ
faulty_count submitter transactions = count_by (has_faults submitter) transactions

-- the last line: the number of transactions, and of those that have faults
abbrev pub total_line : ℕ → ℕ → List ℕ
total_line all faulty = decimal all ++ codes " transactions, " ++ decimal faulty ++ codes " with faults\n"

-- the lines of a check of a well-formed file: one for each transaction, in order, and the last line
abbrev pub check_lines : List ℕ → List RawParts → List ℕ
check_lines submitter transactions =
    flat_map (transaction_line submitter) transactions ++ total_line (length transactions) (faulty_count submitter transactions)

-- what a check prints of a well-formed file; it is clean where none of its transactions has a fault
pub record IsCheckOfFile (text : List (List ℕ)) (told : List ℕ) (clean : Bool) : Type 0 where
  pub file : File
  pub formed : IsFile text file
  pub lines : told ≡ check_lines (submitter_of file) (raws_of 1 file.groups)
  pub clean_is : clean ≡ (faulty_count (submitter_of file) (raws_of 1 file.groups) == 0)

-- what a check prints of any other file: its first fault, with the line that has it
pub record IsCheckOfFault (text : List (List ℕ)) (told : List ℕ) (clean : Bool) : Type 0 where
  pub number : ℕ
  pub line : ℕ
  pub fault : IsLeastFault text line number
  pub lines : told ≡ refused_text number line ++ 10 ∷ []
  pub clean_is : clean ≡ false

-- what a check prints of a text, and whether the text is clean
abbrev pub IsCheck : List (List ℕ) → List ℕ → Bool → Type 0
IsCheck text told clean = IsCheckOfFile text told clean ⊎ IsCheckOfFault text told clean
