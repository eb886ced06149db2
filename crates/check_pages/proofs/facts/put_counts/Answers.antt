use Rattle.std.proofs.Common.{◌∙◌, ap, ◌++◌, ℕ, sym, rules, None, Option, ◌≡◌}
use Rattle.std.proofs.lemmas.Result.{on_ok_weaker}
use Rattle.std.specs.Fmt.{decimal}
use Rattle.std.specs.Str.Lines.{lines}
use Rattle.cwr_report.specs.declared.file_finding.FileFinding.{FileFinding}
use Rattle.html_text.specs.Pieces.{page_text}
use Rattle.html_text.proofs.lemmas.Chains.{last_fixed, then_fixed, then_number}
use Rattle.check_pages.specs.Facts.{counts_pieces}
use Rattle.check_pages.proofs.facts.put_counts.Goals as goal

pub returns : goal.returns
unfolding counts_pieces
returns g c =
    let none : c.args.refused.now ≡ None = search rules in
    on_ok_weaker c.put-4.result
    (λ is.
    (then_fixed _ _ _ _ _ c.in_ok-put.ensures
    (then_number _ _ _ _ _ (c.in_ok-put_number.ensures ∙ ap (λ (n : ℕ). c.put.new.out.items ++ decimal n) c.count_groups.ensures)
    (then_fixed _ _ _ _ _ c.in_ok-put-2.ensures
    (then_fixed _ _ _ _ _ c.in_ok-put-3.ensures
    (then_number _ _ _ _ _ c.in_ok-put_number-2.ensures
    (last_fixed _ _ _ is)))))).is ∙ ap (λ (r : Option FileFinding). c.args.out.now.items ++ page_text (counts_pieces (lines c.args.bytes.now) c.args.transactions r)) (sym none))
    c.put-4.ensures
