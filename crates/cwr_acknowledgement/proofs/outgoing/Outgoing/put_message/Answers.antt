use Rattle.std.proofs.Common.{◌≡◌, ◌+◌, ◌≤◌, length, length-take, ap, arith, rules}
use Rattle.cwr_acknowledgement.specs.Outgoing.{OutgoingState}
use Rattle.cwr_acknowledgement.proofs.Puts.{line_put}
use Rattle.cwr_acknowledgement.proofs.OverLines.{held_behind}
use Rattle.cwr_acknowledgement.proofs.outgoing.Outgoing.put_message.Goals as goal

pub returns-clause-put : goal.returns-clause-put
returns-clause-put g c =
    let inside = c.self.inside in
    let items = inside.bytes.items in
    let line = c.fill_message.new.line in
    let width : length line ≡ 187 = search rules in
    let held = ap (λ (s : OutgoingState). s.held) c.self.view_is in
    let size = ap length held in
    let ready = ap (λ (s : OutgoingState). s.ready) c.self.view_is in
    let all : inside.bytes.len ≡ length items = search rules in
    let within : inside.end + length line ≤ inside.bytes.len =
    omega (arith, width, size, ready, all, length-take inside.end items, c.self.invariant.0, c.in_ok-make_room.ensures.ready) in
    line_put _ _ _ c.make_room.new.self _ line _ c.in_ok-make_room.ensures.put
    (held_behind c.deref_mut.result.now items line c.make_room.new.self.held inside.end _ _ inside.bytes.len c.deref_mut.ensures.value held (omega (arith, width)) (omega (arith, within, width)) all)
    (ap (λ (s : OutgoingState). s.sent) c.self.view_is) c.fill_message.ensures.line (omega (arith, width))
