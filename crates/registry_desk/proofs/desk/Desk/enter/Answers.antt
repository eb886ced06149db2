use Rattle.registry_desk.proofs.WholeTurn.{waits_at_first, comes_in}
use Rattle.registry_desk.proofs.desk.Desk.enter.Goals as goal

pub loop-init : goal.loop-init
loop-init g c = waits_at_first _

pub returns-in-Yours : goal.returns-in-Yours
returns-in-Yours g c = let d = c.draw-waiting.ensures.drawn in
    comes_in c.args.seat c.draw-waiting.result c.loop.waiting c.in-Yours.inside c.args.self.now d.0 c.requires.desk d.1 c.loop.invariant c.in-Yours.ensures
