use Rattle.std.proofs.Common.{arith, refl, ◌∙◌}
use Rattle.work_registry.proofs.GrowingBooks.{indexes-none}
use Rattle.work_registry.proofs.SoundHistories.{history-none}
use Rattle.work_registry.proofs.history_index.HistoryIndex.new.Goals as goal

pub invariant_of-result : goal.invariant_of-result
invariant_of-result g c =
    rw (c.of.ensures ∙ c.new.ensures.items) (
      history-none,
      omega arith,
      indexes-none c.new-2.result.claims c.new-2.result.iswcs c.new-2.result.works.items c.new-2.ensures.claims c.new-2.ensures.iswcs c.new-2.ensures.works,
      refl,
    )
