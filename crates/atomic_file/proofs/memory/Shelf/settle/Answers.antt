use Rattle.std.proofs.Common.{refl, ◌∙◌, ap, rules, arith}
use Rattle.atomic_file.proofs.Slots.{state-settling}
use Rattle.atomic_file.proofs.OneByOne.{settled_below, each_settled}
use Rattle.atomic_file.proofs.memory.Shelf.settle.Goals as goal

pub loop-at-init : goal.loop-at-init
loop-at-init g c = record { told = refl; file = refl; each = λ k below. absurd (omega (arith, below)) }

pub loop-at-preserved : goal.loop-at-preserved
loop-at-preserved g c = record {
  told = state-settling _ _ _ c.settle_follower.ensures ∙ c.loop-at.invariant.told;
  file = ap (λ x. x.file.is_settled) c.settle_follower.ensures.same ∙ c.loop-at.invariant.file;
  each = settled_below _ _ _ c.loop-at.invariant.each c.settle_follower.ensures (search rules);
}

pub returns-clause-all : goal.returns-clause-all
returns-clause-all g c = record { file = c.loop-at.invariant.file; each = each_settled _ c.before.loop-at.self c.loop-at.invariant.each (search rules) }
