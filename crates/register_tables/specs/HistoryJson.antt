-- The history as JSON objects, one per line.
use Rattle.std.specs.Prelude.{ℕ, List, [], ◌∷◌, ◌++◌, map, codes, slice_index, Option, Some, None}
use Rattle.std.specs.Fmt.{decimal}
use Rattle.cwr_call.specs.declared.transaction_fault.Fault.{Fault}
use Rattle.cwr_field.specs.Iswc.{iswc_text}
use Rattle.cwr_record.specs.Kinds.{status_text, work_kind_code}
use Rattle.serde_json.specs.Data.{Data, null, array, object, no_members, put}
use Rattle.serde_json.specs.View.{items_of}
use Rattle.work_registry.specs.declared.reply.Reply.{Reply}
use Rattle.work_registry.specs.EntryValue.{EntryValue}
use Rattle.work_registry.specs.ReplyParts.{status_in, work_in, version_in}
use Rattle.register_tables.specs.declared.wanted.Wanted.{Wanted}
use Rattle.register_tables.specs.HistoryTable.{entry_rows}
use Rattle.register_tables.specs.JsonValues.{text_data, count_data, option_data, json_line}

-- the object of a fault: the type of the faulty record, the rule, and the record's sequence
abbrev pub named_data : List ℕ → List ℕ → ℕ → Data
named_data rtype rule sequence =
    object (put (codes "record") (text_data rtype) (put (codes "rule") (text_data rule) (put (codes "sequence") (count_data sequence) no_members)))

-- the object of a fault of a transaction; its rule is J and the number
abbrev pub fault_data : Fault → Data
fault_data fault = named_data fault.rtype (codes "J" ++ decimal fault.number) fault.sequence

-- an array of faults, in order
abbrev pub faults_data : List Fault → Data
faults_data faults = array (items_of (map fault_data faults))

-- an ISWC, and null for `None`
abbrev pub iswc_data : Option ℕ → Data
iswc_data None = null
iswc_data (Some n) = text_data (iswc_text n)

-- the object of the entry with this index, from 1: its call, and the reply
abbrev pub entry_data : ℕ → EntryValue → Data
entry_data index e =
    object (put (codes "entry") (count_data index)
    (put (codes "faults") (faults_data e.call.faults)
    (put (codes "iswc") (iswc_data e.call.iswc)
    (put (codes "kind") (text_data (work_kind_code e.call.kind))
    (put (codes "mechanical_control") (count_data (slice_index e.call.control 1))
    (put (codes "number") (text_data e.call.number)
    (put (codes "performing_control") (count_data (slice_index e.call.control 0))
    (put (codes "status") (text_data (status_text (status_in e.reply)))
    (put (codes "submitter") (text_data e.call.submitter)
    (put (codes "synchronization_control") (count_data (slice_index e.call.control 2))
    (put (codes "title") (text_data e.call.title)
    (put (codes "version") (option_data (version_in e.reply))
    (put (codes "work") (option_data (work_in e.reply)) no_members)))))))))))))

-- the entry with this index as one line of JSON
abbrev pub entry_json : ℕ → EntryValue → List ℕ
entry_json index e = json_line (entry_data index e)

-- a line for each entry that is wanted, in the order of the history
abbrev pub history_json : Wanted → List EntryValue → List ℕ
history_json wanted history = entry_rows entry_json wanted 1 history

-- what the object of an entry has between its ISWC and its version, in the order in which it is written
abbrev pub middle_members : EntryValue → List (List ℕ × Data)
middle_members e =
    (codes "kind", text_data (work_kind_code e.call.kind))
    ∷ (codes "mechanical_control", count_data (slice_index e.call.control 1))
    ∷ (codes "number", text_data e.call.number)
    ∷ (codes "performing_control", count_data (slice_index e.call.control 0))
    ∷ (codes "status", text_data (status_text (status_in e.reply)))
    ∷ (codes "submitter", text_data e.call.submitter)
    ∷ (codes "synchronization_control", count_data (slice_index e.call.control 2))
    ∷ (codes "title", text_data e.call.title)
    ∷ []

-- the version and the work of a reply; null where there is none
abbrev pub reply_members : Reply → List (List ℕ × Data)
reply_members reply = (codes "version", option_data (version_in reply)) ∷ (codes "work", option_data (work_in reply)) ∷ []

-- what the object of an entry has behind its faults, in the order in which it is written
abbrev pub other_members : EntryValue → List (List ℕ × Data)
other_members e = (codes "iswc", iswc_data e.call.iswc) ∷ (middle_members e ++ reply_members e.reply)
