use Rattle.std.proofs.Common.{◌∙◌, List, ℕ, ◌+◌, ◌-◌, ◌<◌, ◌++◌, ap, sym, append-nil, arith}
use Rattle.html_text.specs.Pieces.{Piece, page_text}
use Rattle.html_text.proofs.lemmas.Pages.{moved_on}
use Rattle.check_pages.specs.Boxes.{is_closed, is_opened, marked, place_shown}
use Rattle.check_pages.proofs.Runs.{run_first, none_left}
use Rattle.check_pages.proofs.boxes.put_line.Goals as goal

pub loop-at-preserved : goal.loop-at-preserved
loop-at-preserved g c =
    let line = c.args.line.now in
    let spots = c.args.spots.now in
    let last = c.places-last.result in
    let end = c.run_end-end.result in
    let from : ℕ → ℕ → List Piece = λ place count. marked (is_opened spots) (is_closed spots last) (place_shown line spots) c.args.mark place count in
    let some : c.loop-at.at < end = c.run_end-end.ensures.run.some in
    record {
      first = omega (arith, some);
      most = c.run_end-end.ensures.last;
      last = c.loop-at.invariant.last;
      written =
          moved_on c.loop-at.out.items c.put_run.new.out.items _ (from c.loop-at.at (end - c.loop-at.at)) (from end (last + 1 - end)) (from c.loop-at.at (last + 1 - c.loop-at.at)) c.in_ok-put_run.ensures
          (run_first line spots c.args.mark last c.loop-at.at end (omega (arith, some)) c.run_end-end.ensures.last)
          c.loop-at.invariant.written;
    }

pub returns : goal.returns
returns g c =
    let line = c.args.line.now in
    let spots = c.args.spots.now in
    sym (append-nil c.loop-at.out.items)
    ∙ ap (λ (l : List Piece). c.loop-at.out.items ++ page_text l) (sym (none_left line spots c.args.mark c.places-last.result (c.places-last.result + 1 - c.loop-at.at) c.loop-at.at (omega arith)))
    ∙ c.loop-at.invariant.written
