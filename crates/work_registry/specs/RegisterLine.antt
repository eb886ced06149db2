-- The lines of a register: their layouts, in the words of the layouts of records, and what the line of an entry
-- contains.
use Rattle.std.specs.Prelude.{◌≡◌, ℕ, ◌<◌, ◌^◌, IsTrue, List, [], ◌∷◌, ◌++◌, length, codes, slice_index}
use Rattle.std.specs.List.{flat_map, AllByRecursion}
use Rattle.cwr_record.specs.Layout.{Part}
use Rattle.cwr_record.specs.Lines.{line_of}
use Rattle.cwr_record.specs.Parts.{named, number, text, code}
use Rattle.cwr_record.specs.Kinds.{work_kind_code, status_text}
use Rattle.cwr_record.specs.declared.status.Status.{Status}
use Rattle.cwr_call.specs.declared.transaction_fault.Fault.{Fault}
use Rattle.cwr_call.specs.CallValue.{CallValue}
use Rattle.cwr_call.specs.Lawful.{is_lawful}
use Rattle.work_registry.specs.declared.register.head.Head.{Head}
use Rattle.work_registry.specs.RegisterColumns as column

-- the layout of the first line, which has the number of entries
abbrev pub entry_count : List (Part ℕ)
entry_count =
    named column.mark (codes "REG")
    ∷ number column.count (λ n. n)
    ∷ []

-- the layout of an entry's line up to its faults
abbrev pub head : List (Part Head)
head =
    named column.mark (codes "ENT")
    ∷ number column.index (λ x. x.index)
    ∷ text column.submitter (λ x. x.submitter)
    ∷ text column.kind (λ x. work_kind_code x.kind)
    ∷ text column.title (λ x. x.title)
    ∷ text column.number (λ x. x.number)
    ∷ code column.iswc (λ x. x.iswc)
    ∷ number column.performing_control (λ x. slice_index x.control 0)
    ∷ number column.mechanical_control (λ x. slice_index x.control 1)
    ∷ number column.synchronization_control (λ x. slice_index x.control 2)
    ∷ text column.status (λ x. status_text x.status)
    ∷ number column.work (λ x. x.work)
    ∷ number column.version (λ x. x.version)
    ∷ number column.faults (λ x. x.faults)
    ∷ []

-- the layout of one fault in an entry's line
abbrev pub fault : List (Part Fault)
fault =
    number column.fault_sequence (λ x. x.sequence)
    ∷ number column.fault_number (λ x. x.number)
    ∷ text column.fault_record_type (λ x. x.rtype)
    ∷ []

-- what the line of an entry contains
pub record EntryLine : Type 0 where
  -- the place of the entry in the register, from 1
  pub index : ℕ
  pub call : CallValue
  -- the status, the work and the version of the reply; 0 for a work or a version that it does not have
  pub status : Status
  pub work : ℕ
  pub version : ℕ

-- the fields of an entry's line that stand before its faults
abbrev pub head_of : EntryLine → Head
head_of x = record {
  index = x.index;
  submitter = x.call.submitter;
  kind = x.call.kind;
  title = x.call.title;
  number = x.call.number;
  iswc = x.call.iswc;
  control = x.call.control;
  status = x.status;
  work = x.work;
  version = x.version;
  faults = length x.call.faults;
}

-- what a line with these fields and these faults contains
abbrev pub line_from : Head → List Fault → EntryLine
line_from x faults = record {
  index = x.index;
  call = record {
    submitter = x.submitter;
    kind = x.kind;
    title = x.title;
    number = x.number;
    iswc = x.iswc;
    control = x.control;
    faults = faults;
  };
  status = x.status;
  work = x.work;
  version = x.version;
}

-- the bytes of an entry's line, with its LF
abbrev pub line_text : EntryLine → List ℕ
line_text x = line_of head (head_of x) ++ flat_map (line_of fault) x.call.faults ++ 10 ∷ []

-- the record type of a fault is three bytes
abbrev pub IsTyped : Fault → Type 0
IsTyped f = length f.rtype ≡ 3

-- what is true of every call in a program: it is lawful, and its texts have the widths that they have by their types
pub record IsWholeCall (c : CallValue) : Type 0 where
  pub lawful : IsTrue (is_lawful c)
  pub submitter : length c.submitter ≡ column.submitter.width
  pub title : length c.title ≡ column.title.width
  pub number : length c.number ≡ column.number.width
  pub control : length c.control ≡ 3
  pub types : AllByRecursion IsTyped c.faults

-- the line is that of an entry: its numbers fit their fields, and its call is one that a program can have
pub record IsEntryLine (line : List ℕ) (x : EntryLine) : Type 0 where
  pub text : line ≡ line_text x
  pub index : x.index < 10 ^ 8
  pub work : x.work < 10 ^ 8
  pub version : x.version < 10 ^ 8
  pub call : IsWholeCall x.call
