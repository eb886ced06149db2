use Rattle.std.proofs.Common.{rules, ◌<◌, subst, sym, refl, ap}
use Rattle.registry_desk.specs.Views.{max_turns}
use Rattle.registry_desk.specs.Standing.{Standing}
use Rattle.registry_desk.proofs.Steps.{draw_allowed}
use Rattle.registry_desk.proofs.Leaving.{moves}
use Rattle.registry_desk.proofs.desk.Desk.draw.Goals as goal

pub fetch_add-ticket-requires : goal.fetch_add-ticket-requires
fetch_add-ticket-requires g c = let n = c.seat.invariant.counted in (
  search rules,
  search rules,
  draw_allowed _ _ c.seat.inside.seat.me n.live c.seat.invariant.away (subst (λ (x : Standing). x.view.turns < max_turns) (sym c.seat.view_is) c.requires.turns),
)

pub returns-clause-step : goal.returns-clause-step
returns-clause-step g c = moves _ _ c.seat.inside.seat.me c.fetch_add-ticket.new.seat.me _ _ _ (ap (λ x. x.view) c.seat.view_is) refl c.fetch_add-ticket.ensures.2
