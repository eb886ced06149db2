use Rattle.std.proofs.Common.{ℕ, List, Option, ◌≡◌, ◌∷◌, [], Some, set, replicate, subst, sym, refl, rules}
use Rattle.atomic_table.specs.Table.{opening}
use Rattle.work_registry.specs.BookValue.{BookValue}
use Rattle.registry_desk.specs.Rule.{Kept}
use Rattle.registry_desk.specs.Views.{opening_view}
use Rattle.registry_desk.proofs.Ends.{opens_desk, opening_rests}
use Rattle.registry_desk.proofs.desk.Desk.open.Goals as goal

pub new-requires : goal.new-requires
new-requires g c = let slots : c.push_reserved.new.self.items ≡ Some c.args.book ∷ [] = search rules in let h = c.recall.ensures in
    subst (λ (z : ℕ × List (Option BookValue) × BookValue). Kept (opening (set (replicate 65 0) z.0 1) z.1 (opening_view z.2 c.args.seats)))
    (λ i. (sym c.flag_word.ensures i, sym slots i, sym c.of.ensures i))
    (opens_desk (set (replicate 65 0) 1 1) c.args.book c.args.seats refl h.lawful h.fits c.requires.opening c.requires.seats.0 c.requires.seats.1)

pub invariant_of-result-in-Ok-new : goal.invariant_of-result-in-Ok-new
invariant_of-result-in-Ok-new g c = opening_rests c.of.result.value c.args.seats c.in-Ok-new.seat.me c.counts_of.result c.requires.seats.0 c.requires.seats.1 c.in-Ok-new.ensures.ok.4 c.counts_of.ensures
