use Rattle.std.proofs.Common.{◌∙◌}
use Rattle.std.proofs.lemmas.Result.{IfOk-weaker}
use Rattle.register_tables.specs.HistoryJson.{entry_data}
use Rattle.register_tables.proofs.JsonObjects.{line_is}
use Rattle.register_tables.proofs.history_objects.entry_line.Goals as goal

pub returns : goal.returns
returns g c =
    IfOk-weaker c.line_of.result _ _
    (λ line is. line_is c.new-out.result c.put_entry.new.out (entry_data c.args.index c.args.entry.now) line.items
    (c.new-out.ensures.before ∙ c.in_ok-with_capacity.ensures.items) c.new-out.ensures.tokens c.in_ok-put_entry.ensures is)
    c.line_of.ensures
