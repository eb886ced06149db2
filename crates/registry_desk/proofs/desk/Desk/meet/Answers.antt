use Rattle.std.proofs.Common.{◌≡◌, rules, subst, sym, ap, ◌∙◌, arith}
use Rattle.registry_desk.specs.Standing.{Standing}
use Rattle.registry_desk.specs.Views.{meeting}
use Rattle.registry_desk.proofs.Meeting.{meets_seat, count_allowed, rests_meeting}
use Rattle.registry_desk.proofs.desk.Desk.meet.Goals as goal

pub load-requires : goal.load-requires
load-requires g c = (search rules, search rules, count_allowed _ _ c.seat.inside.seat.me (subst (λ (x : Standing). x.view.session ≡ 0) (sym c.seat.view_is) c.requires.opening) c.seat.invariant.counted.live)

pub join_seat-requires : goal.join_seat-requires
join_seat-requires g c = let same = c.load.ensures.2.0 in let w = c.other.invariant in (
  search rules,
  search rules,
  w.carries,
  search rules,
  meets_seat _ _ _ _
      (ap (λ m. m.0.session) same ∙ subst (λ (x : Standing). x.view.session ≡ 0) (sym c.seat.view_is) c.requires.opening)
      (ap (λ m. m.0.spent) same ∙ c.seat.invariant.counted.live)
      w.counted.live w.away w.counted.lone,
)

pub overflow_add-seat : goal.overflow_add-seat
overflow_add-seat g c = let n = c.seat.invariant.counted in let a = c.load.ensures.2.1 in let b = n.few in let m = n.met in record { fits = omega arith }

pub invariant_of-seat : goal.invariant_of-seat
invariant_of-seat g c = rests_meeting c.seat.inside.seat.me _ c.seat.inside.counts c.other.inside.seat.me.0 (subst (λ (x : Standing). x.view.session ≡ 0) (sym c.seat.view_is) c.requires.opening) c.seat.invariant
    (c.join_seat.ensures.2 ∙ ap (λ m. (meeting m.0 c.other.inside.seat.me.0, m.1)) c.load.ensures.2.0)
