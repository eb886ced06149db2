use Rattle.std.proofs.Common.{rules, ◌≡◌, ◌+◌, ◌%◌, refl, ap}
use Rattle.registry_desk.proofs.Steps.{pass_allowed}
use Rattle.registry_desk.proofs.Leaving.{moves}
use Rattle.registry_desk.proofs.seat.Leaving.pass.Goals as goal

pub store-requires : goal.store-requires
store-requires g c = let l = c.self.invariant in let word : c.flag_word.result ≡ (c.self.inside.ticket + 1) % 64 + 1 = search rules in (
  search rules,
  search rules,
  rw word (pass_allowed _ _ c.self.inside.seat.me l.counted.live c.self.inside.ticket l.leaving),
)

pub returns-clause-step : goal.returns-clause-step
returns-clause-step g c = moves _ _ c.self.inside.seat.me c.store.new.seat.me 1 _ _ (ap (λ x. x.view) c.self.view_is) refl c.store.ensures.2
