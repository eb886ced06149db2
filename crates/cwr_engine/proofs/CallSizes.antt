-- How many faults the call of a transaction can have.
use Rattle.std.proofs.Common.{ℕ, ◌*◌, ◌<◌, ◌≤◌, List, [], ◌∷◌, length, arith}
use Rattle.std.proofs.lemmas.List.{length-map}
use Rattle.cwr_record.specs.declared.works.WorkKind.{WorkKind}
use Rattle.cwr_grammar.specs.RawParts.{RawParts}
use Rattle.cwr_rules.specs.Calls.{call_of, call_in}
use Rattle.cwr_rules.specs.Records.{record_of, records_of}
use Rattle.cwr_rules.proofs.lemmas.FewFaults.{faults_few}

in_lines : (submitter : List ℕ) (kind : WorkKind) (ls : List (List ℕ)) → 0 < length ls → length (call_in submitter kind ls).faults ≤ 9 * length ls
in_lines submitter kind [] some = absurd (omega arith)
in_lines submitter kind (head ∷ ls) some =
    let few = faults_few kind head (records_of ls) in
    let same = length-map ls record_of in
    omega (arith, few, same)

-- at most nine faults a line
pub few_faults : (submitter : List ℕ) (t : RawParts) → 0 < length t.lines → length (call_of submitter t).faults ≤ 9 * length t.lines
few_faults submitter t some = in_lines submitter t.kind t.lines some
