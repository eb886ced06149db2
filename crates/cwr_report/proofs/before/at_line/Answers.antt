use Rattle.std.proofs.Common.{arith, sym, subst}
use Rattle.std.specs.Str.Lines.{lines}
use Rattle.cwr_grammar.specs.Counted.{AreSmall}
use Rattle.cwr_report.proofs.Counting.{small_before}
use Rattle.cwr_report.proofs.before.at_line.Goals as goal

pub pass_line-requires : goal.pass_line-requires
pass_line-requires c = subst AreSmall (sym c.loop.invariant.before_is) (small_before (lines c.args.bytes.now) c.loop.counter (omega (arith, c.requires, c.loop-test.true)))

pub returns-clause-small : goal.returns-clause-small
returns-clause-small c = subst AreSmall (sym c.loop.invariant.before_is) (small_before (lines c.args.bytes.now) c.loop.counter (omega (arith, c.requires, c.loop.auto.counter-end)))
