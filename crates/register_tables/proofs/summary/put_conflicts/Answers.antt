use Rattle.std.proofs.lemmas.Result.{on_ok_weaker}
use Rattle.register_tables.proofs.Counts.{joined}
use Rattle.register_tables.proofs.summary.put_conflicts.Goals as goal

pub returns : goal.returns
returns g c =
    on_ok_weaker c.put_conflict_lines.result (joined c.args.page.now.items c.extend_from_slice.new.self.items c.put_conflict_lines.new.page.items _ _ c.in_ok-extend_from_slice.ensures.items) c.put_conflict_lines.ensures
