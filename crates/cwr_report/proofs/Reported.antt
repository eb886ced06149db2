-- What is found in a well-formed file is its report.
use Rattle.std.proofs.Common.{◌≡◌, ◌∙◌, ℕ, List, [], ◌++◌, length, refl, ap, None}
use Rattle.cwr_grammar.specs.File.{File, IsFile}
use Rattle.cwr_grammar.specs.RawParts.{RawParts, raws_of}
use Rattle.cwr_check.specs.CheckText.{submitter_of, faulty_count}
use Rattle.cwr_report.specs.declared.finding.Finding.{Finding}
use Rattle.cwr_report.specs.Findings.{findings_after}
use Rattle.cwr_report.specs.Report.{IsReportOfFile}

pub file_reported : (text : List (List ℕ)) (f : File) (found : List RawParts) (sender : List ℕ) (before findings : List Finding) (all faulty : ℕ) → IsFile text f
    → found ≡ raws_of 1 f.groups → sender ≡ submitter_of f → before ≡ [] → findings ≡ before ++ findings_after sender 0 found
    → all ≡ length found → faulty ≡ faulty_count sender found
    → IsReportOfFile text (record { findings = findings; transactions = all; faulty = faulty; refused = None })
file_reported text f found sender before findings all faulty formed found_is sender_is empty pushed counted faults = record {
  file = f;
  formed = formed;
  findings_are =
      pushed ∙ ap (λ (x : List Finding). x ++ findings_after sender 0 found) empty ∙ ap (λ (s : List ℕ). findings_after s 0 found) sender_is
      ∙ ap (λ (ts : List RawParts). findings_after (submitter_of f) 0 ts) found_is;
  all_is = counted ∙ ap (λ (ts : List RawParts). length ts) found_is;
  faulty_is = faults ∙ ap (λ (s : List ℕ). faulty_count s found) sender_is ∙ ap (λ (ts : List RawParts). faulty_count (submitter_of f) ts) found_is;
  not_refused = refl;
}
