use Rattle.std.proofs.Common.{List}
use Rattle.std.specs.Prelude.{codes}
use Rattle.std.proofs.lemmas.Result.{on_ok_weaker}
use Rattle.work_registry.specs.Rows.{Row, rows_of}
use Rattle.register_tables.specs.Summary.{right_text}
use Rattle.register_tables.proofs.Counts.{joined_six}
use Rattle.register_tables.proofs.summary.put_shares.Goals as goal

pub returns : goal.returns
returns g c =
    let rows : List Row = rows_of c.args.book.now.history in
    on_ok_weaker c.put_right-3.result
    (joined_six c.args.page.now.items c.extend_from_slice.new.self.items c.put_right.new.page.items c.extend_from_slice-2.new.self.items
    c.put_right-2.new.page.items c.extend_from_slice-3.new.self.items c.put_right-3.new.page.items
    (codes "works by what is left of the performing right:\n") (right_text 0 rows)
    (codes "works by what is left of the mechanical right:\n") (right_text 1 rows)
    (codes "works by what is left of the synchronization right:\n") (right_text 2 rows)
    c.in_ok-extend_from_slice.ensures.items c.in_ok-put_right.ensures c.in_ok-extend_from_slice-2.ensures.items c.in_ok-put_right-2.ensures c.in_ok-extend_from_slice-3.ensures.items)
    c.put_right-3.ensures
