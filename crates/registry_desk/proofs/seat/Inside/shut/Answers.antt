use Rattle.std.proofs.Common.{◌≡◌, ◌∙◌, ◌+◌, ◌%◌, true, false, ap, sym, rules}
use Rattle.registry_desk.proofs.Leaving.{shut_moves, shut_step, shut_is, leaves_after, leaves_with}
use Rattle.registry_desk.proofs.seat.Inside.shut.Goals as goal
use Rattle.registry_desk.proofs.seat.Inside.shut.Goals.{then-full, else-full}

pub store-requires : goal.store-requires
store-requires g c = let word : c.flag_word-flag.result ≡ c.self.inside.ticket % 64 + 1 = search rules in (
  search rules,
  search rules,
  rw word (shut_step _ _ _ _ _ _ c.self.invariant _ c.exchange-none.ensures.3 _ _ true c.desk.invariant.1 (λ _. c.if-full.true)),
)

pub store-requires-else-full : goal.store-requires-else-full
store-requires-else-full g c = let word : c.flag_word-flag.result ≡ c.self.inside.ticket % 64 + 1 = search rules in (
  search rules,
  search rules,
  rw word (shut_step _ _ _ _ _ _ c.self.invariant _ c.exchange-none.ensures.3 _ _ false c.desk.invariant.1 (λ e. absurd (cc))),
)

pub invariant_of-result : goal.invariant_of-result
invariant_of-result g c = leaves_after _ _ _ _ _ _ c.self.invariant c.if-full.seat.me (elim c.if-full.branch [
  | then-full w ↦ ap (λ s. s.me) w.seat-is ∙ shut_is _ _ _ _ _ _ c.self.invariant _ c.exchange-none.ensures.3 _ _ true (sym w.if-full.true) w.store.ensures.2
  | else-full w ↦ ap (λ s. s.me) w.seat-is ∙ shut_is _ _ _ _ _ _ c.self.invariant _ c.exchange-none.ensures.3 _ _ false (sym w.if-full.false) w.store-else-full.ensures.2
])

pub returns-clause-shut : goal.returns-clause-shut
returns-clause-shut g c = (
  c.self.inside.ticket,
  elim c.if-full.branch [
    | then-full w ↦ leaves_with c.args.self _ _ _ c.self.inside.seat.me.0 _ _ _ _ c.if-full.seat.me c.self.view_is c.requires (ap (λ s. s.table_id) w.seat-is ∙ (w.store.ensures.0 ∙ c.exchange-none.ensures.0))
        (ap (λ s. s.me) w.seat-is ∙ shut_is _ _ _ _ _ _ c.self.invariant _ c.exchange-none.ensures.3 _ _ true (sym w.if-full.true) w.store.ensures.2)
    | else-full w ↦ leaves_with c.args.self _ _ _ c.self.inside.seat.me.0 _ _ _ _ c.if-full.seat.me c.self.view_is c.requires (ap (λ s. s.table_id) w.seat-is ∙ (w.store-else-full.ensures.0 ∙ c.exchange-none.ensures.0))
        (ap (λ s. s.me) w.seat-is ∙ shut_is _ _ _ _ _ _ c.self.invariant _ c.exchange-none.ensures.3 _ _ false (sym w.if-full.false) w.store-else-full.ensures.2)
  ],
)

pub returns-clause-step : goal.returns-clause-step
returns-clause-step g c = let view = ap (λ m. m.0) c.exchange-none.ensures.3 ∙ ap (λ x. x.view) c.self.view_is in elim c.if-full.branch [
  | then-full w ↦ shut_moves true _ c.exchange-none.new.seat.me w.store.new.seat.me c.args.self _ (sym w.if-full.true ∙ ap (λ x. x.full) c.self.view_is) view (ap (λ s. s.me.0) (sym w.seat-is)) w.store.ensures.2
  | else-full w ↦ shut_moves false _ c.exchange-none.new.seat.me w.store-else-full.new.seat.me c.args.self _ (sym w.if-full.false ∙ ap (λ x. x.full) c.self.view_is) view (ap (λ s. s.me.0) (sym w.seat-is)) w.store-else-full.ensures.2
]
