use Rattle.std.proofs.Common.{◌≡◌, ◌+◌, ◌≤◌, length, rules, arith}
use Rattle.cwr_record.proofs.LineTexts.{put_behind}
use Rattle.cwr_record.proofs.line_room.LineRoom.put.Goals as goal

pub returns-clause-before : goal.returns-clause-before
returns-clause-before g c =
    let inside = c.self.inside in
    let width : c.width_of.result ≡ length c.fill_field_value.new.buffer = search rules in
    let within : inside.end ≤ length inside.bytes = search rules in
    put_behind inside.bytes c.fill_field_value.new.buffer c.args.self.now _ inside.end _ (inside.end + c.width_of.result) c.self.view_is c.fill_field_value.ensures.text (omega arith) within
