use Rattle.std.proofs.Common.{◌≡◌, ℕ, ◌+◌, ◌<◌, [], refl, ap, arith, rules, subst, sym}
use Rattle.registry_desk.specs.declared.seat.Counts.{Counts}
use Rattle.registry_desk.specs.declared.view.View.{View}
use Rattle.registry_desk.specs.Plays.{Seated}
use Rattle.registry_desk.specs.Standing.{Standing, Rests}
use Rattle.registry_desk.specs.Views.{max_turns, given_view}
use Rattle.registry_desk.proofs.Giving.{gives_seat}
use Rattle.registry_desk.proofs.desk.Desk.split.Goals as goal

given_rests : (v : View) (session : ℕ) (me : Seated) (c : Counts) → 0 < v.left → v.given + v.left < 64 → session ≡ v.given + 1 → me ≡ (given_view v, [])
    → c ≡ record { session = session; turns_left = max_turns; seats_left = 0; given = 0; met = 0 } → Rests me c
given_rests v session me c some_left few its is are = subst (λ (x : Seated × Counts). Rests x.0 x.1) (λ i. (sym is i, sym are i)) (record {
  counted = record {
    live = refl;
    session = sym its;
    turns = refl;
    left = refl;
    given = refl;
    met = refl;
    lone = λ _. refl;
    few = omega arith;
    session_small = omega arith;
    opening = λ z. absurd (omega arith);
  };
  carries = refl;
  away = refl;
})

pub split_seat-given-requires : goal.split_seat-given-requires
split_seat-given-requires g c = (
  search rules,
  search rules,
  gives_seat _ _ (subst (λ (x : Standing). x.view.session ≡ 0) (sym c.seat.view_is) c.requires.opening) c.seat.invariant.counted.live (subst (λ (x : Standing). 0 < x.view.left) (sym c.seat.view_is) c.requires.left),
)

pub invariant_of-result : goal.invariant_of-result
invariant_of-result g c = let n = c.seat.invariant.counted in
    given_rests c.seat.inside.seat.me.0 (c.seat.inside.counts.given + 1) _ _ (subst (λ (x : Standing). 0 < x.view.left) (sym c.seat.view_is) c.requires.left) n.few
    (ap (λ (k : ℕ). k + 1) (sym n.given)) c.split_seat-given.ensures.4 c.counts_of.ensures
