-- What the call and the rules need of the header's line.
use Rattle.std.specs.Prelude.{ℕ, Bool, List, [], ◌∷◌}
use Rattle.cwr_field.specs.Iswc.{iswc_of}
use Rattle.cwr_record.specs.Columns as column
use Rattle.cwr_record.specs.Columns.{field_at}
use Rattle.cwr_record.specs.declared.works.WorkKind.{WorkKind}
use Rattle.cwr_rules.specs.declared.header.HeaderFields.{HeaderFields}
use Rattle.cwr_rules.specs.declared.record.Record.{Record}
use Rattle.cwr_rules.specs.Head.{has_no_title, has_no_number, has_wrong_iswc, has_wrong_date, has_no_writer, is_off, number_in}
use Rattle.cwr_rules.specs.Totals.{ownership, is_over_somewhere}

-- what is kept of a transaction's header: the fields that its call takes, and which of J2 to J5 hold of it
abbrev pub header_fields : WorkKind → List ℕ → HeaderFields
header_fields kind head = record {
  kind = kind;
  title = field_at head column.work_head_title;
  number = field_at head column.work_head_submitter_number;
  iswc = number_in (iswc_of (field_at head column.work_head_iswc));
  has_no_title = has_no_title head;
  has_no_number = has_no_number head;
  has_wrong_iswc = has_wrong_iswc head;
  has_wrong_date = has_wrong_date head;
}

-- the rules of a transaction as a whole, with those of its header already decided
abbrev pub whole_rules : HeaderFields → List Record → List (ℕ × Bool)
whole_rules header records =
    (2, header.has_no_title)
    ∷ (3, header.has_no_number)
    ∷ (4, header.has_wrong_iswc)
    ∷ (5, header.has_wrong_date)
    ∷ (10, has_no_writer records)
    ∷ (11, is_off (ownership records).performing)
    ∷ (12, is_off (ownership records).mechanical)
    ∷ (13, is_off (ownership records).synchronization)
    ∷ (15, is_over_somewhere records)
    ∷ []
