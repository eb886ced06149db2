-- The texts that are put together for a row.
use Rattle.std.specs.Prelude.{◌≡◌, ℕ, List, slice_index}
use Rattle.cwr_call.specs.CallValue.{CallValue}
use Rattle.register_tables.specs.declared.form.Form.{Form}
use Rattle.register_tables.specs.declared.texts.Texts.{Texts}
use Rattle.register_tables.specs.CsvRows.{iswc_field}
use Rattle.register_tables.specs.Fields.{share_field, text_field}

-- the texts for the control columns are those of this control
pub record HasControl {A : Type 0} (form : Form) (control : List ℕ) (t : Texts A) : Type 0 where
  pub performing : t.performing.items ≡ share_field form (slice_index control 0)
  pub mechanical : t.mechanical.items ≡ share_field form (slice_index control 1)
  pub synchronization : t.synchronization.items ≡ share_field form (slice_index control 2)

-- the texts are those of this call, without its faults
pub record HasCall {A : Type 0} (form : Form) (call : CallValue) (t : Texts A) : Type 0 where
  pub submitter : t.submitter.items ≡ text_field form call.submitter
  pub number : t.number.items ≡ text_field form call.number
  pub title : t.title.items ≡ text_field form call.title
  pub iswc : t.iswc.items ≡ iswc_field call.iswc
  pub control : HasControl form call.control t
