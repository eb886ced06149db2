-- The account of a job over bytes in memory, in terms of these bytes.
use Rattle.std.proofs.Common.{◌≡◌, ◌∙◌, ℕ, List, [], ◌++◌, ap, sym, subst, length}
use Rattle.std.specs.Prelude.{nat_le, false, Option, Some}
use Rattle.std.specs.Io.KnownBytes.{Appends}
use Rattle.cwr_record.specs.Stamp.{StampParts}
use Rattle.work_registry.specs.BookValue.{BookValue}
use Rattle.work_registry.specs.EntryValue.{EntryValue}
use Rattle.work_registry.specs.Numbers.{max_entries}
use Rattle.work_registry.specs.Replay.{calls_of, replay}
use Rattle.cwr_engine.specs.Account.{Ends, Account, Gives, IsAccount}
use Rattle.cwr_engine.specs.WholeRun.{is_full}
use Rattle.cwr_engine.specs.declared.outcome.FileOutcome.{FileOutcome}
use Rattle.c_values.specs.Outcomes.{numbers_of}
use Rattle.c_values.specs.Files.{IsAnswered}
use Rattle.c_values.specs.declared.outcome.Outcome.{Outcome}

pub answered : (stamp : StampParts) (file : List ℕ) (numbers : Outcome) (outcome : FileOutcome) (text : List ℕ) (session : ℕ)
    (e : Ends) (before kept : BookValue) (made : List EntryValue)
    → numbers ≡ numbers_of outcome
    → e.left_before ≡ Some file → e.taken_before ≡ Some [] → e.taken_after ≡ Some text → e.read_failed ≡ false → e.full ≡ is_full kept
    → e.may_shut ≡ false
    → made ≡ replay session before.history (calls_of made) → kept.history ≡ before.history ++ made → kept.limit ≡ before.limit → before.limit ≡ max_entries
    → IsAccount e stamp outcome made → IsAnswered stamp file session before.history numbers text made
answered stamp file numbers outcome text session e before kept made told left empty taken readable full gate replayed grown limit most a =
    let file_is : a.input ≡ file = subst (λ (l : Option (List ℕ)). Gives l a.input) left a.given in
    let from : Appends (Some []) e.taken_after a.written = subst (λ (t : Option (List ℕ)). Appends t e.taken_after a.written) empty a.appended in
    let text_is : text ≡ a.written = subst (λ (t : Option (List ℕ)). Appends (Some []) t a.written) taken from in
    record {
      outcome = outcome;
      told = told;
      replayed = replayed;
      ends = e;
      readable = readable;
      full = full ∙ ap (λ (n : ℕ). nat_le n (length kept.history)) (limit ∙ most) ∙ ap (λ (h : List EntryValue). nat_le max_entries (length h)) grown;
      gate = gate;
      account = subst (λ (f : List ℕ). Account e stamp f outcome text made) file_is (subst (λ (w : List ℕ). Account e stamp a.input outcome w made) (sym text_is) a.account);
    }
