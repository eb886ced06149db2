use Rattle.std.proofs.Common.{rules, sym, refl, ap, ◌∙◌, ◌≡◌, ◌+◌, ◌%◌, Some, ◌∷◌}
use Rattle.atomic_table.specs.Table.{rest}
use Rattle.registry_desk.specs.Plays.{book_with}
use Rattle.registry_desk.proofs.Steps.{look_allowed}
use Rattle.registry_desk.proofs.Leaving.{moves}
use Rattle.registry_desk.proofs.Looking.{found_book, stays_inside, enters_with}
use Rattle.registry_desk.proofs.desk.Desk.look.Goals as goal

pub load-found-requires : goal.load-found-requires
load-found-requires g c = let w = c.waiting.invariant in let word : c.flag_word-flag.result ≡ c.waiting.inside.ticket % 64 + 1 = search rules in (
  search rules,
  search rules,
  rw word (look_allowed _ _ c.waiting.inside.seat.me w.counted.live c.waiting.inside.ticket w.waits),
)

pub exchange-requires : goal.exchange-requires
exchange-requires g c = let w = c.waiting.invariant in let found : c.load-found.result ≡ 1 = search rules in
    let t = c.load-found.ensures.2.3 found in let carried = ap (λ m. m.1) t.1 in
    (search rules, (Some (book_with c.waiting.inside.seat.me.0 t.0), carried ∙ ap (λ l. (0, Some (book_with c.waiting.inside.seat.me.0 t.0)) ∷ rest l) (sym carried)))

pub invariant_of-result-2 : goal.invariant_of-result-2
invariant_of-result-2 g c = stays_inside c.waiting.inside.seat.me c.exchange.new.seat.me _ _ _ c.waiting.invariant
    (found_book _ c.load-found.new.seat.me _ c.waiting.inside.counts _ _ _ _ c.waiting.invariant c.load-found.ensures.2 c.if-found-ne-OPEN.false
    (c.exchange.ensures.2 ∙ ap (λ x. (0, x) ∷ rest c.load-found.new.seat.me.1) c.unwrap-book.ensures) c.exchange.ensures.3)

pub returns-clause-found : goal.returns-clause-found
returns-clause-found g c = enters_with c.args.waiting _ _ c.waiting.inside.seat.me c.exchange.new.seat.me c.waiting.inside.counts _ _ c.waiting.view_is (c.exchange.ensures.0 ∙ c.load-found.ensures.0) c.waiting.invariant
    (found_book _ c.load-found.new.seat.me _ c.waiting.inside.counts _ _ _ _ c.waiting.invariant c.load-found.ensures.2 c.if-found-ne-OPEN.false
    (c.exchange.ensures.2 ∙ ap (λ x. (0, x) ∷ rest c.load-found.new.seat.me.1) c.unwrap-book.ensures) c.exchange.ensures.3)

pub returns-clause-step : goal.returns-clause-step
returns-clause-step g c = moves _ _ c.waiting.inside.seat.me c.load-found.new.seat.me _ _ _ (ap (λ x. x.view) c.waiting.view_is) (ap (λ m. m.0) (sym c.exchange.ensures.3)) c.load-found.ensures.2

pub returns-then-found-ne-OPEN-clause-step : goal.returns-then-found-ne-OPEN-clause-step
returns-then-found-ne-OPEN-clause-step g c = moves _ _ c.waiting.inside.seat.me c.load-found.new.seat.me _ _ _ (ap (λ x. x.view) c.waiting.view_is) refl c.load-found.ensures.2
