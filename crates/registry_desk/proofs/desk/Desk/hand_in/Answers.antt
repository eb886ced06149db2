use Rattle.std.proofs.Common.{◌∙◌, sym, subst}
use Rattle.registry_desk.specs.Standing.{Standing}
use Rattle.registry_desk.specs.Turns.{HandsIn}
use Rattle.registry_desk.proofs.WholeTurn.{same_desk, turn}
use Rattle.registry_desk.proofs.desk.Desk.hand_in.Goals as goal

pub returns-clause-turn : goal.returns-clause-turn
returns-clause-turn g c = let e = c.apply-reply.ensures in
    subst (λ (x : Standing). HandsIn c.args.seat.view c.args.call c.apply-reply.result x.view) (sym c.leave-seat.ensures.left)
    (turn c.args.seat c.enter-inside.result c.apply-reply.new.self c.args.call c.apply-reply.result c.enter-inside.ensures
    (record { reply = e.reply; numbered = e.numbered; entry = e.entry; given_back = e.given_back; unchanged = e.unchanged; full = e.full; registry = e.registry; bounded = e.bounded }))

pub leave-seat-requires : goal.leave-seat-requires
leave-seat-requires g c = let e = c.apply-reply.ensures in
    same_desk c.enter-inside.result c.apply-reply.new.self c.args.call c.apply-reply.result
    (record { reply = e.reply; numbered = e.numbered; entry = e.entry; given_back = e.given_back; unchanged = e.unchanged; full = e.full; registry = e.registry; bounded = e.bounded })
    ∙ (c.enter-inside.ensures.stay.desk ∙ c.requires.desk)

pub enter-inside-requires-clause-turns : goal.enter-inside-requires-clause-turns
enter-inside-requires-clause-turns g c = c.requires.turns
