use Rattle.std.proofs.Common.{◌≡◌, ◌+◌, ◌-◌, ◌≤◌, ◌++◌, length}
use Rattle.html_text.specs.Pieces.{page_text}
use Rattle.check_pages.specs.Boxes.{is_closed, is_opened, line_shown, marked, place_shown, places}
use Rattle.check_pages.proofs.boxes.put_line.Given as goal

-- what is written and the places that are left make the whole
abbrev pub invariant-loop-at : goal.invariant-loop-at
invariant-loop-at g l = record {
  first : 1 ≤ l.at;
  most : l.at ≤ l.last + 1;
  last : l.last ≡ places (length l.line) l.spots;
  written :
      l.out.items ++ page_text (marked (is_opened l.spots) (is_closed l.spots l.last) (place_shown l.line l.spots) l.mark l.at (l.last + 1 - l.at))
      ≡ l.fn.out.items ++ page_text (line_shown l.line l.spots l.mark);
}

abbrev pub decreases-loop-at : goal.decreases-loop-at
decreases-loop-at g l = l.last + 1 - l.at
