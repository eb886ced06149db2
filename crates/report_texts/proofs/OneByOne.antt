-- What is told of one finding after another, while a walk goes over the lines.
use Rattle.std.proofs.Common.{◌≡◌, ◌∙◌, ℕ, ◌+◌, ◌-◌, ◌<◌, List, ◌++◌, length, drop, get_or, ap, sym, append_assoc}
use Rattle.std.specs.List.{flat_map}
use Rattle.std.proofs.lemmas.List.{drop_more}
use Rattle.cwr_report.specs.Walks.{line_at}
use Rattle.cwr_report.specs.declared.finding.Finding.{Finding}
use Rattle.cwr_report.proofs.lemmas.GoneTo.{line_is}
use Rattle.report_texts.specs.LongText.{finding_text, fault_report}

-- the next one is told, in its line
pub told_more : (all ls : List (List ℕ)) (fs : List Finding) (i k : ℕ) (none : Finding) (line out new whole : List ℕ)
    → k ≡ (get_or fs i none).line - 1 → ls ≡ all → i < length fs → line ≡ line_at ls k → new ≡ out ++ fault_report line (get_or fs i none)
    → out ++ flat_map (finding_text all) (drop i fs) ≡ whole → new ++ flat_map (finding_text all) (drop (i + 1) fs) ≡ whole
told_more all ls fs i k none line out new whole index same lt at told before =
    let f = get_or fs i none in
    let rest = flat_map (finding_text all) (drop (i + 1) fs) in
    let here = line_is all ls line k (f.line - 1) same index at in
    ap (λ (xs : List ℕ). xs ++ rest) (told ∙ ap (λ (l : List ℕ). out ++ fault_report l f) here)
    ∙ append_assoc out (finding_text all f) rest
    ∙ ap (λ (gs : List Finding). out ++ flat_map (finding_text all) gs) (sym (drop_more fs i none lt))
    ∙ before
