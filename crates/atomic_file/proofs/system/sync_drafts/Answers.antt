use Rattle.std.proofs.Common.{◌∙◌}
use Rattle.std.proofs.Math.Seq.{map-set_same}
use Rattle.atomic_file.proofs.system.sync_drafts.Goals as goal

pub loop-at-preserved : goal.loop-at-preserved
loop-at-preserved g c = record {
  names = map-set_same (λ f. f.names) _ _ _ _ c.take_answer.ensures.names ∙ c.loop-at.invariant.names;
  replaces = map-set_same (λ f. f.replaces) _ _ _ _ c.take_answer.ensures.replaces ∙ c.loop-at.invariant.replaces;
}
