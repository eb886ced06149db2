use Rattle.std.proofs.Common.{◌∙◌}
use Rattle.cwr_record.specs.Columns.{field_at}
use Rattle.work_registry.specs.RegisterColumns as column
use Rattle.work_registry.proofs.HandedOn.{if_none}
use Rattle.work_registry.proofs.RegisterFields.{number_read, no_number}
use Rattle.work_registry.proofs.register.faults.read_fault.Goals as goal

pub returns-in_err-digits_at-clause-none : goal.returns-in_err-digits_at-clause-none
returns-in_err-digits_at-clause-none c = if_none c.from_residual.result _ (λ x stands. no_number (field_at c.args.bytes.now column.fault_sequence) x.sequence c.in_err-digits_at.ensures.value stands.0)

pub returns-in_err-digits_at-2-clause-none : goal.returns-in_err-digits_at-2-clause-none
returns-in_err-digits_at-2-clause-none c = if_none c.from_residual-in_err-digits_at-2.result _ (λ x stands. no_number (field_at c.args.bytes.now column.fault_number) x.number c.in_err-digits_at-2.ensures.value stands.1.0)

pub returns-clause-some : goal.returns-clause-some
returns-clause-some c = (number_read (field_at c.args.bytes.now column.fault_sequence) c.in_ok-digits_at.field-0 c.in_ok-digits_at.ensures.value, (number_read (field_at c.args.bytes.now column.fault_number) c.in_ok-digits_at-2.field-0 c.in_ok-digits_at-2.ensures.value, (c.bytes.ensures ∙ c.field_at.ensures.value, tt)))
