use Rattle.std.proofs.Common.{◌+◌, ◌≤◌, length, length-take, ap, arith, rules}
use Rattle.std.specs.Prelude.{vec_capacity}
use Rattle.cwr_acknowledgement.specs.Outgoing.{OutgoingState}
use Rattle.cwr_acknowledgement.proofs.outgoing.Outgoing.make_more_room.Goals as goal

pub returns-then-needed-capacity-clause-ready : goal.returns-then-needed-capacity-clause-ready
returns-then-needed-capacity-clause-ready g c =
    let inside = c.self.inside in
    let fits : inside.end + c.args.needed ≤ vec_capacity inside.bytes = search rules in
    let held = ap (λ (s : OutgoingState). length s.held) c.self.view_is in
    let room = ap (λ (s : OutgoingState). s.capacity) c.self.view_is in
    c.make_ready.ensures.ready c.args.needed c.requires.needed (omega (arith, fits, held, room, length-take inside.end inside.bytes.items))

pub returns-clause-ready : goal.returns-clause-ready
returns-clause-ready g c =
    let none = ap length c.in_ok-write_held.ensures.none_left in
    c.make_ready-2.ensures.ready c.args.needed c.requires.needed (omega (arith, none, c.in_ok-write_held.ensures.room, c.requires.needed))
