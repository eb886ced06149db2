use Rattle.std.proofs.Common.{◌∙◌, ap, sym}
use Rattle.register_tables.proofs.Places.{placed_here, placed_last, placed_on}
use Rattle.register_tables.proofs.ranking.place_of.Goals as goal

pub loop-at-preserved : goal.loop-at-preserved
loop-at-preserved g c =
    placed_on g.T.Ranked.ahead c.args.top.now c.args.one c.loop-at.at c.index-top-at.result c.loop-at-test.true
    (ap (g.T.Ranked.ahead c.args.one) (sym c.index-top-at.is) ∙ sym c.is_ahead.ensures ∙ c.if-is_ahead.false)
    c.loop-at.invariant

pub returns-then-is_ahead-clause-placed : goal.returns-then-is_ahead-clause-placed
returns-then-is_ahead-clause-placed g c =
    placed_here g.T.Ranked.ahead c.args.top.now c.args.one c.loop-at.at c.index-top-at.result c.loop-at-test.true
    (ap (g.T.Ranked.ahead c.args.one) (sym c.index-top-at.is) ∙ sym c.is_ahead.ensures ∙ c.if-is_ahead.true)
    c.loop-at.invariant

pub returns-clause-placed : goal.returns-clause-placed
returns-clause-placed g c = placed_last g.T.Ranked.ahead c.args.top.now c.args.one c.loop-at.at c.loop-at-test.false c.loop-at.auto.at-end c.loop-at.invariant
