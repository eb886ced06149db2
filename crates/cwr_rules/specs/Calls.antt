-- The call of a transaction.
use Rattle.std.specs.Prelude.{ℕ, List, [], ◌∷◌}
use Rattle.cwr_field.specs.Iswc.{iswc_of}
use Rattle.cwr_record.specs.Columns as column
use Rattle.cwr_record.specs.Columns.{field_at}
use Rattle.cwr_record.specs.declared.works.WorkKind.{WorkKind}
use Rattle.cwr_grammar.specs.RawParts.{RawParts}
use Rattle.cwr_rules.specs.declared.record.Record.{Record}
use Rattle.cwr_rules.specs.declared.totals.Totals.{Totals}
use Rattle.cwr_call.specs.CallValue.{CallValue}
use Rattle.cwr_rules.specs.Records.{records_of}
use Rattle.cwr_rules.specs.Totals.{control}
use Rattle.cwr_rules.specs.Head.{number_in}
use Rattle.cwr_rules.specs.Faults.{faults_of}

-- totals as a list: performing, mechanical, synchronization
abbrev pub three : Totals → List ℕ
three totals = totals.performing ∷ totals.mechanical ∷ totals.synchronization ∷ []

-- the call of a transaction, given its submitter, its kind, its header's line and the records after it
abbrev pub call_from : List ℕ → WorkKind → List ℕ → List Record → CallValue
call_from submitter kind head records = record {
  submitter = submitter;
  kind = kind;
  title = field_at head column.work_head_title;
  number = field_at head column.work_head_submitter_number;
  iswc = number_in (iswc_of (field_at head column.work_head_iswc));
  control = three (control records);
  faults = faults_of kind head records;
}

-- the call of a transaction, given its lines, the header's first
abbrev pub call_in : List ℕ → WorkKind → List (List ℕ) → CallValue
call_in submitter kind [] = call_from submitter kind [] []
call_in submitter kind (head ∷ details) = call_from submitter kind head (records_of details)

-- the call of a transaction that this submitter sent
abbrev pub call_of : List ℕ → RawParts → CallValue
call_of submitter transaction = call_in submitter transaction.kind transaction.lines
