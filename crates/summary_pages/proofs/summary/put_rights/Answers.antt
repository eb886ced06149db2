use Rattle.std.proofs.Common.{List, codes}
use Rattle.std.proofs.lemmas.Result.{on_ok_weaker}
use Rattle.work_registry.specs.Rows.{Row, rows_of}
use Rattle.html_text.specs.Pieces.{Piece}
use Rattle.html_text.proofs.lemmas.Pages.{three}
use Rattle.summary_pages.specs.SummaryPage.{right_pieces, rights_pieces}
use Rattle.summary_pages.proofs.summary.put_rights.Goals as goal

pub returns : goal.returns
unfolding rights_pieces
returns g c =
    let rows : List Row = rows_of c.args.book.now.history in
    let performing : List Piece = right_pieces (codes "Works by what is left of the performing right") 0 rows in
    let mechanical : List Piece = right_pieces (codes "Works by what is left of the mechanical right") 1 rows in
    let synchronization : List Piece = right_pieces (codes "Works by what is left of the synchronization right") 2 rows in
    on_ok_weaker c.put_right-3.result
    (three c.args.out.now.items c.put_right.new.out.items c.put_right-2.new.out.items c.put_right-3.new.out.items performing mechanical synchronization
    c.in_ok-put_right.ensures c.in_ok-put_right-2.ensures)
    c.put_right-3.ensures
