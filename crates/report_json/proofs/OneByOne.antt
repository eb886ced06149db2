-- What is told as JSON of one finding after another, while a walk goes over the lines.
use Rattle.std.proofs.Common.{◌≡◌, ◌∙◌, ℕ, ◌+◌, ◌-◌, ◌<◌, Bool, true, List, ◌++◌, length, drop, get_or, map, ap, sym, append_assoc}
use Rattle.std.proofs.lemmas.List.{drop_more}
use Rattle.serde_json.specs.View.{items_of}
use Rattle.serde_json.specs.Written.{comma_if, compact_text, items_text}
use Rattle.cwr_report.specs.Walks.{line_at}
use Rattle.cwr_report.specs.declared.finding.Finding.{Finding}
use Rattle.cwr_report.proofs.lemmas.GoneTo.{line_is}
use Rattle.report_json.specs.Json.{finding_data, fault_object}

-- the next one is told as JSON, in its line, behind a comma where one stands before it
pub item_more : (all ls : List (List ℕ)) (fs : List Finding) (i k : ℕ) (none : Finding) (later : Bool) (line out new whole : List ℕ)
    → k ≡ (get_or fs i none).line - 1 → ls ≡ all → i < length fs → line ≡ line_at ls k
    → new ≡ out ++ (comma_if later ++ compact_text (fault_object line (get_or fs i none)))
    → out ++ items_text later (items_of (map (finding_data all) (drop i fs))) ≡ whole
    → new ++ items_text true (items_of (map (finding_data all) (drop (i + 1) fs))) ≡ whole
item_more all ls fs i k none later line out new whole index same lt at told before =
    let f = get_or fs i none in
    let text = compact_text (finding_data all f) in
    let rest = items_text true (items_of (map (finding_data all) (drop (i + 1) fs))) in
    let here = line_is all ls line k (f.line - 1) same index at in
    ap (λ (xs : List ℕ). xs ++ rest) (told ∙ ap (λ (l : List ℕ). out ++ (comma_if later ++ compact_text (fault_object l f))) here)
    ∙ append_assoc out (comma_if later ++ text) rest
    ∙ ap (λ (xs : List ℕ). out ++ xs) (append_assoc (comma_if later) text rest)
    ∙ ap (λ (gs : List Finding). out ++ items_text later (items_of (map (finding_data all) gs))) (sym (drop_more fs i none lt))
    ∙ before
