use Rattle.std.proofs.Common.{◌≡◌, ◌∙◌, true, false}
use Rattle.std.specs.Prelude.{codes}
use Rattle.cwr_record.specs.Columns.{field_at}
use Rattle.work_registry.specs.RegisterColumns as column
use Rattle.work_registry.proofs.HandedOn.{if_none}
use Rattle.work_registry.proofs.RegisterFields.{mark_read, number_read, no_number, is_marked}
use Rattle.work_registry.proofs.RegisterLines.{count_says, count_stands}
use Rattle.work_registry.proofs.register.lines.count_in.Goals as goal

pub returns-then-ne-clause-none : goal.returns-then-ne-clause-none
returns-then-ne-clause-none c = λ n small e.
    let named : c.bytes.result ≡ codes "REG" = c.bytes.ensures ∙ c.field_at.ensures.value ∙ is_marked _ (codes "REG") _ (count_stands c.args.line.now n small e).0 in
    let no : true ≡ false = rw named at c.if-ne.ensures in
    cc

pub returns-in_err-digits_at-clause-none : goal.returns-in_err-digits_at-clause-none
returns-in_err-digits_at-clause-none c = if_none c.from_residual.result _ (λ n small e. no_number (field_at c.args.line.now column.count) n c.in_err-digits_at.ensures.value (count_stands c.args.line.now n small e).1.0)

pub returns-clause-some : goal.returns-clause-some
returns-clause-some c = count_says c.args.line.now c.in_ok-digits_at.field-0 c.if-line-ne-COUNT_WIDTH.false (mark_read c.bytes.result _ (codes "REG") (c.bytes.ensures ∙ c.field_at.ensures.value) c.if-ne.ensures, (number_read (field_at c.args.line.now column.count) c.in_ok-digits_at.field-0 c.in_ok-digits_at.ensures.value, tt))
