use Rattle.std.proofs.Common.{◌+◌, refl}
use Rattle.std.proofs.lemmas.List.{take_rest}
use Rattle.work_registry.proofs.RegisterLines.{cut_lines, unended, unended_lines}
use Rattle.work_registry.proofs.HandedOn.{if_none}
use Rattle.work_registry.proofs.register.lines.cut_line.Goals as goal

pub returns-in_err-end-clause-none : goal.returns-in_err-end-clause-none
returns-in_err-end-clause-none c = if_none c.from_residual.result _ (unended_lines c.args.text.now c.in_err-end.ensures)

pub returns-in_err-end-clause-unended : goal.returns-in_err-end-clause-unended
returns-in_err-end-clause-unended c = if_none c.from_residual.result _ (unended c.args.text.now c.in_err-end.ensures)

pub returns-clause-lines : goal.returns-clause-lines
returns-clause-lines c = (cut_lines c.args.text.now _ _ c.in_ok-end.end c.in_ok-end.ensures refl (take_rest c.args.text.now (c.in_ok-end.end + 1))).1

pub returns-clause-text : goal.returns-clause-text
returns-clause-text c = (cut_lines c.args.text.now _ _ c.in_ok-end.end c.in_ok-end.ensures refl (take_rest c.args.text.now (c.in_ok-end.end + 1))).0

pub returns-clause-one : goal.returns-clause-one
returns-clause-one c = (cut_lines c.args.text.now _ _ c.in_ok-end.end c.in_ok-end.ensures refl (take_rest c.args.text.now (c.in_ok-end.end + 1))).2
