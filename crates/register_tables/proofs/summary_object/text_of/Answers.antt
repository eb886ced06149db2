use Rattle.std.proofs.Common.{◌∙◌}
use Rattle.std.proofs.lemmas.Result.{IfOk-weaker}
use Rattle.register_tables.specs.SummaryJson.{summary_data}
use Rattle.register_tables.proofs.JsonObjects.{line_is}
use Rattle.register_tables.proofs.summary_object.text_of.Goals as goal

pub returns : goal.returns
returns g c =
    IfOk-weaker c.line_of.result _ _
    (λ text is. line_is c.new-out.result c.put_summary.new.out (summary_data c.args.book.now.history) text.items
    (c.new-out.ensures.before ∙ c.new.ensures.items) c.new-out.ensures.tokens c.in_ok-put_summary.ensures is)
    c.line_of.ensures
