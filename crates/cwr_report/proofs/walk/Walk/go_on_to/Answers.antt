use Rattle.std.proofs.Common.{◌∙◌, arith}
use Rattle.cwr_report.proofs.walk.Walk.go_on_to.Goals as goal

pub loop-self-preserved : goal.loop-self-preserved
loop-self-preserved c =
    record {
      near = omega arith;
      keeps = c.pass_line.ensures.keeps ∙ c.loop-self.invariant.keeps;
      walk = λ lines so_far. c.pass_line.ensures.walk lines (c.loop-self.invariant.walk lines so_far);
    }
