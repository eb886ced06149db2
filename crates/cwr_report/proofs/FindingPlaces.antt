-- The findings of transactions in a row, and the line of each.
use Rattle.std.proofs.Common.{◌≡◌, ◌∙◌, ◌*◌, ℕ, ◌+◌, ◌-◌, List, [], ◌∷◌, ◌++◌, length, ap, sym, subst, arith, append_assoc}
use Rattle.cwr_call.specs.declared.transaction_fault.Fault.{Fault}
use Rattle.cwr_check.specs.CheckText.{submitter_of, faults_in}
use Rattle.cwr_grammar.specs.File.{File, IsFile}
use Rattle.cwr_grammar.specs.RawParts.{RawParts, raws_of, lines_in}
use Rattle.cwr_rules.specs.Holds.{IsIn}
use Rattle.cwr_report.specs.declared.finding.Finding.{Finding}
use Rattle.cwr_report.specs.Findings.{findings_in, findings_after, first_line}
use Rattle.cwr_report.specs.FindingPlaces.{IsLineOf}
use Rattle.cwr_report.specs.Walks.{line_at}
use Rattle.cwr_report.proofs.Inside.{is_inside}
use Rattle.cwr_report.proofs.Located.{AllStand, all_stand, stands_among}

-- those of a transaction after so many lines, and of the ones after it
abbrev from : List ℕ → ℕ → RawParts → List RawParts → List Finding
from submitter n t after = findings_in submitter (first_line n t) t ++ findings_after submitter (n + length t.lines) after

pub listed : (submitter : List ℕ) (n : ℕ) (before after : List RawParts) (t : RawParts)
    → findings_after submitter n (before ++ t ∷ after) ≡ findings_after submitter n before ++ from submitter (n + lines_in before) t after
listed submitter n [] after t = let none : n ≡ n + 0 = omega arith in ap (λ (m : ℕ). from submitter m t after) none
listed submitter n (b ∷ before) after t =
    let first = findings_in submitter (first_line n b) b in
    let later = findings_after submitter (n + length b.lines) before in
    let sum : n + length b.lines + lines_in before ≡ n + (length b.lines + lines_in before) = omega arith in
    ap (λ (fs : List Finding). first ++ fs) (listed submitter (n + length b.lines) before after t)
    ∙ sym (append_assoc first later (from submitter (n + length b.lines + lines_in before) t after))
    ∙ ap (λ (m : ℕ). (first ++ later) ++ from submitter m t after) sum

pub listed_from : (submitter : List ℕ) (before after : List RawParts) (t : RawParts)
    → findings_after submitter 0 (before ++ t ∷ after) ≡ findings_after submitter 0 before ++ from submitter (lines_in before) t after
listed_from submitter before after t =
    let none : 0 + lines_in before ≡ lines_in before = omega arith in
    listed submitter 0 before after t ∙ ap (λ (m : ℕ). findings_after submitter 0 before ++ from submitter m t after) none

pub line_of : (text : List (List ℕ)) (f : File) (before after : List RawParts) (t : RawParts) (fault : Fault) → IsFile text f → raws_of 1 f.groups ≡ before ++ t ∷ after
    → IsIn fault (faults_in (submitter_of f) t) → IsLineOf text t fault (first_line (lines_in before) t + fault.sequence)
line_of text f before after t fault formed among is =
    let stands = stands_among text 0 before after t (subst (λ (ts : List RawParts). AllStand text 0 ts) among (all_stand text f formed)) in
    let inside = is_inside (submitter_of f) t fault stands.0 is in
    let at : first_line (lines_in before) t + fault.sequence - 1 ≡ 2 * t.group + (0 + lines_in before) + fault.sequence = omega arith in
    record {
      inside = inside;
      stands = ap (λ (k : ℕ). line_at text k) at ∙ stands.1 fault.sequence inside;
    }
