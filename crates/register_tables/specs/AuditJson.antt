-- The result of an audit, as a JSON object.
use Rattle.std.specs.Prelude.{ℕ, List, ◌++◌, codes}
use Rattle.std.specs.Fmt.{decimal}
use Rattle.serde_json.specs.Data.{Data, null, object, no_members, put}
use Rattle.register_tables.specs.declared.audit_object.Audited.{Audited}
use Rattle.register_tables.specs.declared.audit_object.Audited.TheVariants.{Entries, Fault}
use Rattle.register_tables.specs.JsonValues.{count_data, json_line, text_data}

-- the object of an audit: the number of entries, and the fault; one of them is null
abbrev pub found_data : Data → Data → Data
found_data entries fault = object (put (codes "entries") entries (put (codes "fault") fault no_members))

-- a fault of a register: its line, from 1, and its rule
abbrev pub place_data : ℕ → List ℕ → Data
place_data line rule = object (put (codes "line") (count_data line) (put (codes "rule") (text_data rule) no_members))

-- the object of an audit's result: the number of entries of a register without a fault, or else the first fault
abbrev pub audited_data : Audited → Data
audited_data (Entries entries) = found_data (count_data entries) null
audited_data (Fault number line) = found_data null (place_data line (codes "G" ++ decimal number))

-- the result of an audit as one line of JSON
abbrev pub audit_json : Audited → List ℕ
audit_json audited = json_line (audited_data audited)
