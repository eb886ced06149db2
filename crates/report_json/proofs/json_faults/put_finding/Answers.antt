use Rattle.std.proofs.Common.{ℕ, ◌++◌, ◌∙◌, ap, List}
use Rattle.report_json.proofs.JsonText.{told_is}
use Rattle.report_texts.proofs.lemmas.Written.{seven}
use Rattle.report_json.proofs.json_faults.put_finding.Goals as goal

pub returns : goal.returns
returns c =
    let room = rw c.clear.ensures.items at c.in_ok-put_wanted.ensures in
    let wanted = rw (c.deref.ensures.value, room) at c.in_ok-put_json_text.ensures.ok in
    let tail = rw c.message_of.ensures at c.in_ok-put_tail.ensures in
    seven c.args.out.now.items c.extend_from_slice.new.self.items c.put_json_text.new.out.items c.extend_from_slice-2.new.self.items
    c.put_fields.new.out.items c.put_where.new.out.items c.put_rule.new.out.items c.put_tail.new.out.items
    _ _ _ _ _ _ _
    c.in_ok-extend_from_slice.ensures.items wanted c.in_ok-extend_from_slice-2.ensures.items
    c.in_ok-put_fields.ensures c.in_ok-put_where.ensures c.in_ok-put_rule.ensures tail
    ∙ ap (λ (text : List ℕ). c.args.out.now.items ++ text) (told_is c.args.line.now c.args.finding.now)
