-- The table of every entry.
use Rattle.std.specs.Prelude.{ℕ, ◌+◌, List, [], ◌∷◌, ◌++◌, codes, slice_index, if◌then◌else◌}
use Rattle.std.specs.List.{flat_map}
use Rattle.std.specs.Fmt.{decimal}
use Rattle.cwr_call.specs.declared.transaction_fault.Fault.{Fault}
use Rattle.cwr_record.specs.Kinds.{status_text, work_kind_code}
use Rattle.work_registry.specs.EntryValue.{EntryValue}
use Rattle.work_registry.specs.ReplyParts.{status_in, work_in, version_in}
use Rattle.register_tables.specs.declared.form.Form.{Form}
use Rattle.register_tables.specs.declared.wanted.Wanted.{Wanted}
use Rattle.register_tables.specs.CsvRows.{csv_line, number_field, iswc_field}
use Rattle.register_tables.specs.Fields.{text_field, share_field, performing_name, mechanical_name, synchronization_name}
use Rattle.register_tables.specs.Wanted.{is_wanted}

-- a fault as text: the sequence of the faulty record, a colon, J and the rule's number
abbrev pub fault_text : Fault → List ℕ
fault_text fault = decimal fault.sequence ++ codes ":J" ++ decimal fault.number

-- a fault behind another one: a blank before its text
abbrev pub more_fault_text : Fault → List ℕ
more_fault_text fault = codes " " ++ fault_text fault

-- the faults of an entry, with a blank between two
abbrev pub faults_field : List Fault → List ℕ
faults_field [] = []
faults_field (fault ∷ faults) = fault_text fault ++ flat_map more_fault_text faults

-- the names of the columns
abbrev pub history_header : Form → List (List ℕ)
history_header form =
    codes "entry"
    ∷ codes "submitter"
    ∷ codes "kind"
    ∷ codes "number"
    ∷ codes "title"
    ∷ codes "iswc"
    ∷ performing_name form
    ∷ mechanical_name form
    ∷ synchronization_name form
    ∷ codes "status"
    ∷ codes "work"
    ∷ codes "version"
    ∷ codes "faults"
    ∷ []

-- the fields of the entry with this index, from 1: its call, and the reply
abbrev pub entry_fields : Form → ℕ → EntryValue → List (List ℕ)
entry_fields form index e =
    decimal index
    ∷ text_field form e.call.submitter
    ∷ work_kind_code e.call.kind
    ∷ text_field form e.call.number
    ∷ text_field form e.call.title
    ∷ iswc_field e.call.iswc
    ∷ share_field form (slice_index e.call.control 0)
    ∷ share_field form (slice_index e.call.control 1)
    ∷ share_field form (slice_index e.call.control 2)
    ∷ status_text (status_in e.reply)
    ∷ number_field (work_in e.reply)
    ∷ number_field (version_in e.reply)
    ∷ faults_field e.call.faults
    ∷ []

-- the CSV line of the entry with this index
abbrev pub entry_line : Form → ℕ → EntryValue → List ℕ
entry_line form index e = csv_line (entry_fields form index e)

-- the line of an entry, and nothing where the entry is not wanted
abbrev pub entry_row : (ℕ → EntryValue → List ℕ) → Wanted → ℕ → EntryValue → List ℕ
entry_row line wanted index e = if is_wanted wanted e then line index e else []

-- the lines of those of these entries that are wanted; the first entry has this index
abbrev pub entry_rows : (ℕ → EntryValue → List ℕ) → Wanted → ℕ → List EntryValue → List ℕ
entry_rows line wanted index [] = []
entry_rows line wanted index (e ∷ es) = entry_row line wanted index e ++ entry_rows line wanted (index + 1) es

-- the table of every entry: a header line, and a line for each that is wanted, in the order of the history
abbrev pub history_text : Form → Wanted → List EntryValue → List ℕ
history_text form wanted history = csv_line (history_header form) ++ entry_rows (entry_line form) wanted 1 history
