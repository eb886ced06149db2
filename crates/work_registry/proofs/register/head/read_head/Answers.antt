use Rattle.std.proofs.Common.{◌≡◌, ◌∙◌, Option, true, false, refl}
use Rattle.std.specs.Prelude.{slice_index, codes, IfSome, None, Some}
use Rattle.cwr_record.specs.Columns.{field_at}
use Rattle.cwr_field.specs.Iswc.{iswc_of}
use Rattle.cwr_record.specs.Layout.{code_value}
use Rattle.work_registry.specs.RegisterColumns as column
use Rattle.work_registry.proofs.HandedOn.{if_none}
use Rattle.work_registry.proofs.RegisterFields.{mark_read, is_marked, number_read, no_number, kind_read, no_kind, no_code, status_read, no_status}
use Rattle.work_registry.proofs.register.head.read_head.Goals as goal

-- nothing holds of what was not read
if_some : {T : Type 0} (o : Option T) (P : T → Type 0) → o ≡ None → IfSome o P
if_some None P is = tt
if_some (Some x) P is = cc

pub returns-then-ne-clause-none : goal.returns-then-ne-clause-none
returns-then-ne-clause-none c = λ x stands.
    let named : c.bytes.result ≡ codes "ENT" = c.bytes.ensures ∙ c.field_at.ensures.value ∙ is_marked _ (codes "ENT") _ stands.0 in
    let no : true ≡ false = rw named at c.if-ne.ensures in
    cc

pub returns-in_err-digits_at-4-clause-none : goal.returns-in_err-digits_at-4-clause-none
returns-in_err-digits_at-4-clause-none c = if_none c.from_residual-in_err-digits_at-4.result _ (λ x stands. no_number (field_at c.args.line.now column.index) x.index c.in_err-digits_at-4.ensures.value stands.1.0)

pub returns-in_err-named-clause-none : goal.returns-in_err-named-clause-none
returns-in_err-named-clause-none c = if_none c.from_residual.result _ (λ x stands. no_kind c.bytes-2.result _ x.kind (c.bytes-2.ensures ∙ c.field_at-2.ensures.value) c.in_err-named.ensures stands.1.1.1.0)

pub returns-in_err-digits_at-clause-none : goal.returns-in_err-digits_at-clause-none
returns-in_err-digits_at-clause-none c = if_none c.from_residual-in_err-digits_at.result _ (λ x stands. no_number (field_at c.args.line.now column.performing_control) (slice_index x.control 0) c.in_err-digits_at.ensures.value stands.1.1.1.1.1.1.1.0)

pub returns-in_err-code_at-clause-none : goal.returns-in_err-code_at-clause-none
returns-in_err-code_at-clause-none c = if_none c.from_residual-in_err-code_at.result _ (λ x stands. no_code (code_value (iswc_of (field_at c.args.line.now column.iswc))) _ x.iswc refl c.in_err-code_at.ensures.value stands.1.1.1.1.1.1.0)

pub returns-in_err-digits_at-2-clause-none : goal.returns-in_err-digits_at-2-clause-none
returns-in_err-digits_at-2-clause-none c = if_none c.from_residual-in_err-digits_at-2.result _ (λ x stands. no_number (field_at c.args.line.now column.mechanical_control) (slice_index x.control 1) c.in_err-digits_at-2.ensures.value stands.1.1.1.1.1.1.1.1.0)

pub returns-in_err-digits_at-3-clause-none : goal.returns-in_err-digits_at-3-clause-none
returns-in_err-digits_at-3-clause-none c = if_none c.from_residual-in_err-digits_at-3.result _ (λ x stands. no_number (field_at c.args.line.now column.synchronization_control) (slice_index x.control 2) c.in_err-digits_at-3.ensures.value stands.1.1.1.1.1.1.1.1.1.0)

pub returns-in_err-named-2-clause-none : goal.returns-in_err-named-2-clause-none
returns-in_err-named-2-clause-none c = if_none c.from_residual-in_err-named-2.result _ (λ x stands. no_status c.bytes-3.result _ x.status (c.bytes-3.ensures ∙ c.field_at-3.ensures.value) c.in_err-named-2.ensures stands.1.1.1.1.1.1.1.1.1.1.0)

pub returns-in_err-digits_at-5-clause-none : goal.returns-in_err-digits_at-5-clause-none
returns-in_err-digits_at-5-clause-none c = if_none c.from_residual-in_err-digits_at-5.result _ (λ x stands. no_number (field_at c.args.line.now column.work) x.work c.in_err-digits_at-5.ensures.value stands.1.1.1.1.1.1.1.1.1.1.1.0)

pub returns-in_err-digits_at-6-clause-none : goal.returns-in_err-digits_at-6-clause-none
returns-in_err-digits_at-6-clause-none c = if_none c.from_residual-in_err-digits_at-6.result _ (λ x stands. no_number (field_at c.args.line.now column.version) x.version c.in_err-digits_at-6.ensures.value stands.1.1.1.1.1.1.1.1.1.1.1.1.0)

pub returns-in_err-digits_at-7-clause-none : goal.returns-in_err-digits_at-7-clause-none
returns-in_err-digits_at-7-clause-none c = if_none c.from_residual-in_err-digits_at-7.result _ (λ x stands. no_number (field_at c.args.line.now column.faults) x.faults c.in_err-digits_at-7.ensures.value stands.1.1.1.1.1.1.1.1.1.1.1.1.1.0)

pub returns-clause-some : goal.returns-clause-some
returns-clause-some c = (mark_read c.bytes.result _ (codes "ENT") (c.bytes.ensures ∙ c.field_at.ensures.value) c.if-ne.ensures, (number_read (field_at c.args.line.now column.index) c.in_ok-digits_at-4.field-0 c.in_ok-digits_at-4.ensures.value, (refl, (kind_read c.bytes-2.result _ c.in_ok-named.field-0 (c.bytes-2.ensures ∙ c.field_at-2.ensures.value) c.in_ok-named.ensures, (refl, (refl, (c.in_ok-code_at.ensures.value, (number_read (field_at c.args.line.now column.performing_control) c.in_ok-digits_at.field-0 c.in_ok-digits_at.ensures.value, (number_read (field_at c.args.line.now column.mechanical_control) c.in_ok-digits_at-2.field-0 c.in_ok-digits_at-2.ensures.value, (number_read (field_at c.args.line.now column.synchronization_control) c.in_ok-digits_at-3.field-0 c.in_ok-digits_at-3.ensures.value, (status_read c.bytes-3.result _ c.in_ok-named-2.field-0 (c.bytes-3.ensures ∙ c.field_at-3.ensures.value) c.in_ok-named-2.ensures, (number_read (field_at c.args.line.now column.work) c.in_ok-digits_at-5.field-0 c.in_ok-digits_at-5.ensures.value, (number_read (field_at c.args.line.now column.version) c.in_ok-digits_at-6.field-0 c.in_ok-digits_at-6.ensures.value, (number_read (field_at c.args.line.now column.faults) c.in_ok-digits_at-7.field-0 c.in_ok-digits_at-7.ensures.value, tt))))))))))))))

pub returns-clause-fits : goal.returns-clause-fits
returns-clause-fits c = (tt, (c.in_ok-digits_at-4.ensures.bound, (c.in_ok-code_at.ensures.fits, (c.in_ok-digits_at.ensures.bound, (c.in_ok-digits_at-2.ensures.bound, (c.in_ok-digits_at-3.ensures.bound, (c.in_ok-digits_at-5.ensures.bound, (c.in_ok-digits_at-6.ensures.bound, (c.in_ok-digits_at-7.ensures.bound, tt)))))))))

pub returns-in_err-named-clause-some : goal.returns-in_err-named-clause-some
returns-in_err-named-clause-some c = if_some c.from_residual.result _ c.from_residual.ensures

pub returns-in_err-named-clause-fits : goal.returns-in_err-named-clause-fits
returns-in_err-named-clause-fits c = if_some c.from_residual.result _ c.from_residual.ensures

pub returns-in_err-named-clause-rights : goal.returns-in_err-named-clause-rights
returns-in_err-named-clause-rights c = if_some c.from_residual.result _ c.from_residual.ensures

pub returns-in_err-code_at-clause-some : goal.returns-in_err-code_at-clause-some
returns-in_err-code_at-clause-some c = if_some c.from_residual-in_err-code_at.result _ c.from_residual-in_err-code_at.ensures

pub returns-in_err-code_at-clause-fits : goal.returns-in_err-code_at-clause-fits
returns-in_err-code_at-clause-fits c = if_some c.from_residual-in_err-code_at.result _ c.from_residual-in_err-code_at.ensures

pub returns-in_err-code_at-clause-rights : goal.returns-in_err-code_at-clause-rights
returns-in_err-code_at-clause-rights c = if_some c.from_residual-in_err-code_at.result _ c.from_residual-in_err-code_at.ensures

pub returns-in_err-digits_at-clause-some : goal.returns-in_err-digits_at-clause-some
returns-in_err-digits_at-clause-some c = if_some c.from_residual-in_err-digits_at.result _ c.from_residual-in_err-digits_at.ensures

pub returns-in_err-digits_at-clause-fits : goal.returns-in_err-digits_at-clause-fits
returns-in_err-digits_at-clause-fits c = if_some c.from_residual-in_err-digits_at.result _ c.from_residual-in_err-digits_at.ensures

pub returns-in_err-digits_at-clause-rights : goal.returns-in_err-digits_at-clause-rights
returns-in_err-digits_at-clause-rights c = if_some c.from_residual-in_err-digits_at.result _ c.from_residual-in_err-digits_at.ensures

pub returns-in_err-digits_at-2-clause-some : goal.returns-in_err-digits_at-2-clause-some
returns-in_err-digits_at-2-clause-some c = if_some c.from_residual-in_err-digits_at-2.result _ c.from_residual-in_err-digits_at-2.ensures

pub returns-in_err-digits_at-2-clause-fits : goal.returns-in_err-digits_at-2-clause-fits
returns-in_err-digits_at-2-clause-fits c = if_some c.from_residual-in_err-digits_at-2.result _ c.from_residual-in_err-digits_at-2.ensures

pub returns-in_err-digits_at-2-clause-rights : goal.returns-in_err-digits_at-2-clause-rights
returns-in_err-digits_at-2-clause-rights c = if_some c.from_residual-in_err-digits_at-2.result _ c.from_residual-in_err-digits_at-2.ensures

pub returns-in_err-digits_at-3-clause-some : goal.returns-in_err-digits_at-3-clause-some
returns-in_err-digits_at-3-clause-some c = if_some c.from_residual-in_err-digits_at-3.result _ c.from_residual-in_err-digits_at-3.ensures

pub returns-in_err-digits_at-3-clause-fits : goal.returns-in_err-digits_at-3-clause-fits
returns-in_err-digits_at-3-clause-fits c = if_some c.from_residual-in_err-digits_at-3.result _ c.from_residual-in_err-digits_at-3.ensures

pub returns-in_err-digits_at-3-clause-rights : goal.returns-in_err-digits_at-3-clause-rights
returns-in_err-digits_at-3-clause-rights c = if_some c.from_residual-in_err-digits_at-3.result _ c.from_residual-in_err-digits_at-3.ensures

pub returns-in_err-digits_at-4-clause-some : goal.returns-in_err-digits_at-4-clause-some
returns-in_err-digits_at-4-clause-some c = if_some c.from_residual-in_err-digits_at-4.result _ c.from_residual-in_err-digits_at-4.ensures

pub returns-in_err-digits_at-4-clause-fits : goal.returns-in_err-digits_at-4-clause-fits
returns-in_err-digits_at-4-clause-fits c = if_some c.from_residual-in_err-digits_at-4.result _ c.from_residual-in_err-digits_at-4.ensures

pub returns-in_err-digits_at-4-clause-rights : goal.returns-in_err-digits_at-4-clause-rights
returns-in_err-digits_at-4-clause-rights c = if_some c.from_residual-in_err-digits_at-4.result _ c.from_residual-in_err-digits_at-4.ensures

pub returns-in_err-named-2-clause-some : goal.returns-in_err-named-2-clause-some
returns-in_err-named-2-clause-some c = if_some c.from_residual-in_err-named-2.result _ c.from_residual-in_err-named-2.ensures

pub returns-in_err-named-2-clause-fits : goal.returns-in_err-named-2-clause-fits
returns-in_err-named-2-clause-fits c = if_some c.from_residual-in_err-named-2.result _ c.from_residual-in_err-named-2.ensures

pub returns-in_err-named-2-clause-rights : goal.returns-in_err-named-2-clause-rights
returns-in_err-named-2-clause-rights c = if_some c.from_residual-in_err-named-2.result _ c.from_residual-in_err-named-2.ensures

pub returns-in_err-digits_at-5-clause-some : goal.returns-in_err-digits_at-5-clause-some
returns-in_err-digits_at-5-clause-some c = if_some c.from_residual-in_err-digits_at-5.result _ c.from_residual-in_err-digits_at-5.ensures

pub returns-in_err-digits_at-5-clause-fits : goal.returns-in_err-digits_at-5-clause-fits
returns-in_err-digits_at-5-clause-fits c = if_some c.from_residual-in_err-digits_at-5.result _ c.from_residual-in_err-digits_at-5.ensures

pub returns-in_err-digits_at-5-clause-rights : goal.returns-in_err-digits_at-5-clause-rights
returns-in_err-digits_at-5-clause-rights c = if_some c.from_residual-in_err-digits_at-5.result _ c.from_residual-in_err-digits_at-5.ensures

pub returns-in_err-digits_at-6-clause-some : goal.returns-in_err-digits_at-6-clause-some
returns-in_err-digits_at-6-clause-some c = if_some c.from_residual-in_err-digits_at-6.result _ c.from_residual-in_err-digits_at-6.ensures

pub returns-in_err-digits_at-6-clause-fits : goal.returns-in_err-digits_at-6-clause-fits
returns-in_err-digits_at-6-clause-fits c = if_some c.from_residual-in_err-digits_at-6.result _ c.from_residual-in_err-digits_at-6.ensures

pub returns-in_err-digits_at-6-clause-rights : goal.returns-in_err-digits_at-6-clause-rights
returns-in_err-digits_at-6-clause-rights c = if_some c.from_residual-in_err-digits_at-6.result _ c.from_residual-in_err-digits_at-6.ensures

pub returns-in_err-digits_at-7-clause-some : goal.returns-in_err-digits_at-7-clause-some
returns-in_err-digits_at-7-clause-some c = if_some c.from_residual-in_err-digits_at-7.result _ c.from_residual-in_err-digits_at-7.ensures

pub returns-in_err-digits_at-7-clause-fits : goal.returns-in_err-digits_at-7-clause-fits
returns-in_err-digits_at-7-clause-fits c = if_some c.from_residual-in_err-digits_at-7.result _ c.from_residual-in_err-digits_at-7.ensures

pub returns-in_err-digits_at-7-clause-rights : goal.returns-in_err-digits_at-7-clause-rights
returns-in_err-digits_at-7-clause-rights c = if_some c.from_residual-in_err-digits_at-7.result _ c.from_residual-in_err-digits_at-7.ensures
