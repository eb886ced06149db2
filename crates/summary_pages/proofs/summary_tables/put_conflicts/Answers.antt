use Rattle.std.proofs.Common.{List, codes}
use Rattle.std.specs.List.{flat_map}
use Rattle.std.proofs.lemmas.Result.{on_ok_weaker}
use Rattle.html_text.specs.Pieces.{Piece}
use Rattle.html_text.specs.declared.fragment.Fragment.TheVariants.{TableEnd}
use Rattle.summary_pages.specs.SummaryPage.{conflict_pieces, conflicts_pieces, table_pieces}
use Rattle.summary_pages.proofs.Tables.{ended}
use Rattle.summary_pages.proofs.summary_tables.put_conflicts.Goals as goal

pub returns : goal.returns
unfolding conflicts_pieces
returns g c =
    let begin : List Piece = table_pieces (codes "Works with the most conflicts, ten at most") (codes "work") (codes "conflicts") c.args.whole in
    let rows : List Piece = flat_map (conflict_pieces c.args.whole) c.args.top.now in
    on_ok_weaker c.put.result
    (ended c.args.out.now.items c.put_table.new.out.items c.put_conflict_rows.new.out.items c.put.new.out.items begin rows TableEnd c.in_ok-put_table.ensures c.in_ok-put_conflict_rows.ensures)
    c.put.ensures
