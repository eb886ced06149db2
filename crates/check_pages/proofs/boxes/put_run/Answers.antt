use Rattle.std.proofs.Common.{◌∙◌, List, ◌-◌, ◌++◌, ap, sym, arith}
use Rattle.std.proofs.lemmas.Result.{on_ok_weaker}
use Rattle.html_text.specs.Pieces.{Piece, page_text}
use Rattle.html_text.specs.declared.fragment.Fragment.TheVariants.{MarkEnd}
use Rattle.html_text.proofs.lemmas.Pages.{three}
use Rattle.check_pages.specs.Boxes.{is_closed, is_inside, is_opened, run_shown, where_so}
use Rattle.check_pages.proofs.Runs.{run_of}
use Rattle.check_pages.proofs.boxes.put_run.Goals as goal

pub returns : goal.returns
returns g c =
    let line = c.args.line.now in
    let spots = c.args.spots.now in
    on_ok_weaker c.put_where-2.result
    (λ is.
    three c.args.out.now.items c.put_where.new.out.items c.put_places.new.out.items c.put_where-2.new.out.items
    (where_so (is_opened spots c.args.at) c.args.mark) (run_shown line (is_inside spots c.args.at) c.args.at c.args.end) (where_so (is_closed spots c.args.last (c.args.end - 1)) MarkEnd)
    (c.in_ok-put_where.ensures ∙ ap (λ b. c.args.out.now.items ++ page_text (where_so b c.args.mark)) c.is_opened.ensures)
    (c.in_ok-put_places.ensures ∙ ap (λ b. c.put_where.new.out.items ++ page_text (run_shown line b c.args.at c.args.end)) c.is_inside.ensures)
    (is ∙ ap (λ b. c.put_places.new.out.items ++ page_text (where_so b MarkEnd)) c.is_closed.ensures)
    ∙ ap (λ (l : List Piece). c.args.out.now.items ++ page_text l) (sym (run_of line spots c.args.mark c.args.last c.args.at c.args.end (omega arith) c.requires.run (omega arith) c.requires.whole)))
    c.put_where-2.ensures
