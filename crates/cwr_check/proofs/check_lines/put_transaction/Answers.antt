use Rattle.std.proofs.Common.{◌∙◌, sym}
use Rattle.cwr_check.proofs.CheckSteps.{clean_line, faulty_line}
use Rattle.cwr_check.proofs.check_lines.put_transaction.Goals as goal

pub returns-then-is_empty : goal.returns-then-is_empty
returns-then-is_empty g c = λ t is.
    clean_line t c.args.faults.now _ _ (sym c.is_empty.ensures ∙ c.if-is_empty.true) (c.in_ok-put_place.ensures t is)

pub returns : goal.returns
returns g c = λ t is.
    faulty_line t c.args.faults.now _ _ _ _ (sym c.is_empty.ensures ∙ c.if-is_empty.false) (c.in_ok-put_place-2.ensures t is) c.in_ok-put_faults.ensures c.in_ok-push.ensures.items
