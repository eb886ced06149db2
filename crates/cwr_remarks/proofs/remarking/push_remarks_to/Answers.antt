use Rattle.std.proofs.Common.{arith}
use Rattle.cwr_remarks.specs.Typed.{left}
use Rattle.cwr_remarks.proofs.Ended.{one_more}
use Rattle.cwr_remarks.proofs.remarking.push_remarks_to.Goals as goal

pub loop-number-preserved : goal.loop-number-preserved
loop-number-preserved g c = record {
  found = λ end inside.
      one_more end c.loop-number.number c.loop-number.next c.in-Some.line c.loop-number.rest (left c.next_typed-next.result c.next_typed-next.new.rest)
      c.loop-number.found.items c.push_remarks_on.new.found.items _ (omega arith)
      c.in-Some.is c.next_typed-next.ensures.left c.in_ok-push_remarks_on.ensures (c.loop-number.invariant.found end inside);
  typed = c.next_typed-next.ensures.typed;
  inside = omega arith;
}
