-- Calls without faults.
use Rattle.std.proofs.Common.{◌≡◌, ℕ, leb, true, List, [], ◌∷◌, Option, IsTrue, arith, refl}
use Rattle.std.proofs.lemmas.Bool.Decides.{nat_tests}
use Rattle.cwr_call.specs.Lawful.{max_sum, are_at_most, is_clean, is_iswc, is_lawful}
use Rattle.cwr_field.specs.Share.{max_whole}
use Rattle.cwr_field.proofs.lemmas.Tests.{both, parts}
use Rattle.cwr_record.specs.declared.works.WorkKind.{WorkKind}

le_more : (n : ℕ) → leb n max_whole ≡ true → leb n max_sum ≡ true
le_more n h = grind (arith, nat_tests)

at_most_more : (control : List ℕ) → are_at_most max_whole control ≡ true → are_at_most max_sum control ≡ true
at_most_more [] h = refl
at_most_more (n ∷ control) h =
    let p = parts (leb n max_whole) (are_at_most max_whole control) h in
    both (leb n max_sum) (are_at_most max_sum control) (le_more n p.0) (at_most_more control p.1)

-- a call without faults
pub lawful_alone : (submitter title number : List ℕ) (kind : WorkKind) (iswc : Option ℕ) (control : List ℕ)
    → IsTrue (is_clean submitter) → IsTrue (is_clean title) → IsTrue (is_clean number) → is_iswc iswc ≡ true → are_at_most max_whole control ≡ true
    → IsTrue (is_lawful (record { submitter = submitter; kind = kind; title = title; number = number; iswc = iswc; control = control; faults = [] }))
lawful_alone submitter title number kind iswc control a b c d e =
    both _ _ (both _ _ (both _ _ (both _ _ (both _ _ (both _ _ a b) c) d) (at_most_more control e)) e) refl
