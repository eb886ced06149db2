use Rattle.std.proofs.Common.{◌≡◌, ◌∙◌, ℕ, suc, ◌+◌, List, ◌++◌, count_by, arith, ap, sym, append_assoc, append-nil}
use Rattle.cwr_report.specs.declared.finding.Finding.{Finding}
use Rattle.html_text.specs.Contexts.{of_transactions}
use Rattle.html_text.specs.Pieces.{page_text}
use Rattle.html_text.proofs.lemmas.Pages.{page_append}
use Rattle.check_pages.specs.RuleIndex.{broken_row_pieces, rows_pieces}
use Rattle.check_pages.specs.Sections.{is_of}
use Rattle.check_pages.proofs.facts.put_rows.Goals as goal

none_yet : (out : List ℕ) (findings : List Finding) → out ≡ out ++ page_text (rows_pieces findings 0)
unfolding rows_pieces
none_yet out findings = sym (append-nil out)

one_more : (start out new : List ℕ) (findings : List Finding) (number total : ℕ) → out ≡ start ++ page_text (rows_pieces findings number) → total ≡ count_by (is_of (number + 1)) findings
    → new ≡ out ++ page_text (broken_row_pieces of_transactions (number + 1) total) → new ≡ start ++ page_text (rows_pieces findings (number + 1))
unfolding rows_pieces
one_more start out new findings number total so_far many wrote =
    let next : number + 1 ≡ suc number = omega arith in
    let rows = page_text (rows_pieces findings number) in
    let row : ℕ → List ℕ = λ n. page_text (broken_row_pieces of_transactions n (count_by (is_of n) findings)) in
    wrote
    ∙ ap (λ (k : ℕ). out ++ page_text (broken_row_pieces of_transactions (number + 1) k)) many
    ∙ ap (λ (n : ℕ). out ++ row n) next
    ∙ ap (λ (l : List ℕ). l ++ row (suc number)) so_far
    ∙ append_assoc start rows (row (suc number))
    ∙ ap (λ (l : List ℕ). start ++ l) (sym (page_append (rows_pieces findings number) (broken_row_pieces of_transactions (suc number) (count_by (is_of (suc number)) findings))))
    ∙ ap (λ (n : ℕ). start ++ page_text (rows_pieces findings n)) (sym next)

pub loop-before-init : goal.loop-before-init
loop-before-init g c = none_yet c.args.out.now.items c.args.findings.now

pub loop-before-preserved : goal.loop-before-preserved
loop-before-preserved g c =
    one_more c.args.out.now.items c.loop-before.out.items c.put_broken_row.new.out.items c.args.findings.now c.loop-before.before c.count.result c.loop-before.invariant
    (c.count.ensures ∙ c.of-tally.ensures.each (c.loop-before.before + 1) (omega arith)) c.in_ok-put_broken_row.ensures
