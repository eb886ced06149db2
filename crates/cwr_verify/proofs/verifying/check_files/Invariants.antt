use Rattle.std.proofs.Common.{ℕ, ◌<◌, List, map}
use Rattle.std.specs.Prelude.{slice_index_or}
use Rattle.work_registry.specs.EntryValue.{EntryValue}
use Rattle.cwr_verify.specs.Owned.{owned}
use Rattle.cwr_verify.specs.Proposed.{AreFirst, wanting_of}
use Rattle.cwr_verify.specs.Read.{AreReadFrom}
use Rattle.cwr_verify.specs.Sent.{Sent}
use Rattle.cwr_verify.specs.Verified.{IsAnsweredBy}
use Rattle.cwr_verify.proofs.verifying.check_files.Given as goal

-- each file so far is answered by the entries that it owns
abbrev pub invariant-loop-number : goal.invariant-loop-number
invariant-loop-number g l =
    (sent : List Sent) (history : List EntryValue) (owners : List ℕ) → AreReadFrom sent l.files → AreFirst (map wanting_of l.files) history owners l.wanted
    → (file : ℕ) (d : Sent) → file < l.number → IsAnsweredBy (slice_index_or sent file d) (owned file owners history)
