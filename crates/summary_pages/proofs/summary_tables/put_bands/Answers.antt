use Rattle.std.proofs.Common.{List, codes}
use Rattle.std.proofs.lemmas.Result.{on_ok_weaker}
use Rattle.html_text.specs.Pieces.{Piece}
use Rattle.html_text.specs.declared.fragment.Fragment.TheVariants.{TableEnd}
use Rattle.summary_pages.specs.SummaryPage.{band_rows, bands_pieces, rows_pieces, table_pieces}
use Rattle.summary_pages.proofs.Tables.{ended}
use Rattle.summary_pages.proofs.summary_tables.put_bands.Goals as goal

pub returns : goal.returns
unfolding bands_pieces
returns g c =
    let begin : List Piece = table_pieces c.args.heading.now (codes "left") (codes "works") c.args.works in
    let rows : List Piece = rows_pieces c.args.works (band_rows c.args.bands) in
    on_ok_weaker c.put.result
    (ended c.args.out.now.items c.put_table.new.out.items c.put_rows.new.out.items c.put.new.out.items begin rows TableEnd c.in_ok-put_table.ensures c.in_ok-put_rows.ensures)
    c.put.ensures
