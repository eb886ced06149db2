use Rattle.std.proofs.Common.{ℕ, ◌++◌, ◌∙◌, ap, List}
use Rattle.report_json.proofs.JsonText.{file_told_is}
use Rattle.report_texts.proofs.lemmas.Written.{three, seven}
use Rattle.report_json.proofs.json_faults.put_file_finding.Goals as goal

pub returns : goal.returns
returns c =
    let room = rw c.clear.ensures.items at c.in_ok-put_file_wanted.ensures in
    let wanted = rw (c.deref.ensures.value, room) at c.in_ok-put_json_text.ensures.ok in
    let tail = rw c.file_rule_text.ensures at c.in_ok-put_tail.ensures in
    seven c.args.out.now.items c.extend_from_slice-2.new.self.items c.put_json_text.new.out.items c.extend_from_slice-3.new.self.items
    c.put_fields.new.out.items c.put_where.new.out.items c.put_rule.new.out.items c.put_tail.new.out.items
    _ _ _ _ _ _ _
    (three c.args.out.now.items c.extend_from_slice.new.self.items c.put_byte.new.out.items c.extend_from_slice-2.new.self.items _ _ _
    c.in_ok-extend_from_slice.ensures.items c.in_ok-put_byte.ensures c.in_ok-extend_from_slice-2.ensures.items)
    wanted c.in_ok-extend_from_slice-3.ensures.items
    c.in_ok-put_fields.ensures c.in_ok-put_where.ensures c.in_ok-put_rule.ensures tail
    ∙ ap (λ (text : List ℕ). c.args.out.now.items ++ text) (file_told_is c.args.line.now c.args.refused.now c.of-place.result c.of-place.ensures)
