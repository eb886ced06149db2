-- A transaction more is looked through.
use Rattle.std.proofs.Common.{◌≡◌, ◌∙◌, ℕ, ◌+◌, ◌==◌, true, false, not, List, [], ◌∷◌, ◌++◌, length, refl, sym, ap, append_assoc, arith, eqb-true}
use Rattle.cwr_call.specs.Lawful.{is_none_found}
use Rattle.cwr_call.specs.declared.transaction_fault.Fault.{Fault}
use Rattle.cwr_grammar.specs.RawParts.{RawParts}
use Rattle.cwr_report.specs.declared.finding.Finding.{Finding}
use Rattle.cwr_report.specs.Findings.{findings_in, findings_after, first_line}

-- it has no faults, or some
pub none_are : (faults : List Fault) → (length faults == 0) ≡ true → faults ≡ []
none_are [] e = refl
none_are (fault ∷ faults) e = absurd (omega (arith, eqb-true _ _ e))

pub some_are : (faults : List Fault) → (length faults == 0) ≡ false → not (is_none_found faults) ≡ true
some_are [] e = absurd cc
some_are (fault ∷ faults) e = refl

-- what is found in it and in those that are left makes the whole
pub found_more : (submitter : List ℕ) (old new total : List Finding) (n k : ℕ) (t : RawParts) (ts rest : List RawParts)
    → new ≡ old ++ findings_in submitter (first_line n t) t → k ≡ length t.lines → ts ≡ t ∷ rest
    → old ++ findings_after submitter n ts ≡ total → new ++ findings_after submitter (n + k) rest ≡ total
found_more submitter old new total n k t ts rest found counted step so_far =
    let here = findings_in submitter (first_line n t) t in
    ap (λ (xs : List Finding). xs ++ findings_after submitter (n + k) rest) found
    ∙ append_assoc old here (findings_after submitter (n + k) rest)
    ∙ ap (λ (m : ℕ). old ++ (here ++ findings_after submitter (n + m) rest)) counted
    ∙ ap (λ (xs : List RawParts). old ++ findings_after submitter n xs) (sym step)
    ∙ so_far
