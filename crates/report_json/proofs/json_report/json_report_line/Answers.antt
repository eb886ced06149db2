use Rattle.std.proofs.Common.{[]}
use Rattle.report_texts.proofs.lemmas.Written.{three}
use Rattle.report_json.proofs.json_report.json_report_line.Goals as goal

pub returns : goal.returns
returns c =
    three [] c.push.new.self.items c.put_members.new.out.items c.push-2.new.self.items
    _ _ _
    (rw c.new-text.ensures.items at c.in_ok-push.ensures.items) c.in_ok-put_members.ensures c.in_ok-push-2.ensures.items
