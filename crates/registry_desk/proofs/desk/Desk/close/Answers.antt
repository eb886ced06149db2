use Rattle.std.proofs.Common.{◌≡◌, ◌∙◌, length, Some, subst, sym, ap, arith}
use Rattle.std.specs.Prelude.{is_some}
use mathlib.Core.Option.{some, some-injective}
use lib.ListN.{get_elem?}
use Rattle.std.specs.Slots.{slots_items}
use Rattle.work_registry.specs.BookValue.{BookValue}
use Rattle.registry_desk.specs.Standing.{Standing}
use Rattle.registry_desk.specs.Closing.{Closes}
use Rattle.registry_desk.proofs.Ends.{closes_desk}
use Rattle.registry_desk.proofs.desk.Desk.close.Goals as goal

pub unwrap-held-requires : goal.unwrap-held-requires
unwrap-held-requires g c = let t : (b : BookValue) × (get_elem? (slots_items c.close_with-closed.result.slots) 0 ≡ some (Some b)) × Closes c.seat.inside.seat.me.0 b =
    closes_desk _ c.seat.inside.seat.me.0 _ _ (subst (λ (x : Standing). x.view.session ≡ 0) (sym c.seat.view_is) c.requires.opening) c.seat.invariant.counted.live c.seat.invariant.away
    (c.seat.invariant.counted.opening (subst (λ (x : Standing). x.view.session ≡ 0) (sym c.seat.view_is) c.requires.opening))
    (subst (λ (x : Standing). length x.view.met ≡ x.view.given) (sym c.seat.view_is) c.requires.met) c.close_with-closed.ensures.values.2 in
    ap is_some (some-injective _ _ (sym c.take.ensures.value ∙ t.1))

pub returns : goal.returns
returns g c = let t : (b : BookValue) × (get_elem? (slots_items c.close_with-closed.result.slots) 0 ≡ some (Some b)) × Closes c.seat.inside.seat.me.0 b =
    closes_desk _ c.seat.inside.seat.me.0 _ _ (subst (λ (x : Standing). x.view.session ≡ 0) (sym c.seat.view_is) c.requires.opening) c.seat.invariant.counted.live c.seat.invariant.away
    (c.seat.invariant.counted.opening (subst (λ (x : Standing). x.view.session ≡ 0) (sym c.seat.view_is) c.requires.opening))
    (subst (λ (x : Standing). length x.view.met ≡ x.view.given) (sym c.seat.view_is) c.requires.met) c.close_with-closed.ensures.values.2 in
    let found = some-injective _ _ (sym c.take.ensures.value ∙ t.1) in let same : t.0 ≡ c.unwrap-held.result = cc (sym found ∙ c.unwrap-held.ensures) in
    subst (λ (x : Standing). Closes x.view c.into_book.result) c.seat.view_is (subst (Closes c.seat.inside.seat.me.0) (same ∙ sym c.into_book.ensures) t.2)

pub take-requires : goal.take-requires
take-requires g c = let one = c.self.invariant.1 in let e = c.close_with-closed.ensures.counts.1 in (omega arith, c.close_with-closed.ensures.values.1 0 (omega arith) (omega arith))
