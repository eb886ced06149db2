use Rattle.cwr_verify.proofs.Turns.{first_waits, none_waits}
use Rattle.cwr_verify.proofs.wanted.first_from.Goals as goal

pub returns-in-Some-clause-first : goal.returns-in-Some-clause-first
returns-in-Some-clause-first g c =
    first_waits c.args.key c.args.from c.args.end c.args.waiting.now c.range.result c.next.new.self c.in-Some.turn.now (c.range.ensures.in_range tt) c.in-Some.ensures.steps

pub returns-in-None-clause-none : goal.returns-in-None-clause-none
returns-in-None-clause-none g c = none_waits c.args.key c.args.from c.args.end c.args.waiting.now c.range.result (c.range.ensures.in_range tt) c.in-None.ensures.steps.0
