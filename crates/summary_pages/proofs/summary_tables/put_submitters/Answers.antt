use Rattle.std.proofs.Common.{List, codes}
use Rattle.std.specs.List.{flat_map}
use Rattle.std.proofs.lemmas.Result.{on_ok_weaker}
use Rattle.html_text.specs.Pieces.{Piece}
use Rattle.html_text.specs.declared.fragment.Fragment.TheVariants.{TableEnd}
use Rattle.summary_pages.specs.SummaryPage.{submitter_pieces, submitters_pieces, table_pieces}
use Rattle.summary_pages.proofs.Tables.{ended}
use Rattle.summary_pages.proofs.summary_tables.put_submitters.Goals as goal

pub returns : goal.returns
unfolding submitters_pieces
returns g c =
    let begin : List Piece = table_pieces (codes "Submitters with the most entries, ten at most") (codes "submitter") (codes "entries") c.args.whole in
    let rows : List Piece = flat_map (submitter_pieces c.args.whole) c.args.most.now in
    on_ok_weaker c.put.result
    (ended c.args.out.now.items c.put_table.new.out.items c.put_submitter_rows.new.out.items c.put.new.out.items begin rows TableEnd c.in_ok-put_table.ensures c.in_ok-put_submitter_rows.ensures)
    c.put.ensures
