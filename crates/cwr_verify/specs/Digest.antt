-- A number of 64 bits by which a transaction with its reply is found among others; equal ones have equal numbers.
use Rattle.std.specs.Prelude.{ℕ, ◌+◌, ◌*◌, ◌%◌, List, [], ◌∷◌, drop, take, fold, unwrap_or}
use Rattle.std.specs.Int.{w64, from_be_bytes}
use Rattle.cwr_call.specs.CallValue.{CallValue}
use Rattle.cwr_call.specs.declared.transaction_fault.Fault.{Fault}
use Rattle.cwr_record.specs.declared.status.Status.{Status}
use Rattle.cwr_record.specs.declared.status.Status.TheVariants as status
use Rattle.cwr_record.specs.declared.works.WorkKind.{WorkKind}
use Rattle.cwr_record.specs.declared.works.WorkKind.TheVariants as kind
use Rattle.cwr_verify.specs.declared.ack_status.AckStatus.{AckStatus}

-- the number with one number more mixed in, modulo 2 ^ 64
unfoldable pub mixed : ℕ → ℕ → ℕ
mixed so_far next = (so_far * 11400714819323198485 % 18446744073709551616 + next) % 18446744073709551616

-- the number with these numbers mixed in, in order
unfoldable pub all_mixed : ℕ → List ℕ → ℕ
all_mixed so_far numbers = fold mixed so_far numbers

-- the eight bytes of a text from a position on, from 0, as a big-endian number
unfoldable pub word_at : List ℕ → ℕ → ℕ
word_at text at = from_be_bytes w64 (take 8 (drop at text))

-- a status as a number
abbrev pub status_number : Status → ℕ
status_number status.Accepted = 0
status_number status.Duplicate = 1
status_number status.Conflict = 2
status_number status.Rejected = 3

-- a kind as a number
abbrev pub kind_number : WorkKind → ℕ
kind_number kind.Nwr = 0
kind_number kind.Rev = 1

-- the numbers of a reply and of a call, without the last bytes of the submitter work number, the control and the
-- faults
unfoldable pub parts_of : AckStatus → CallValue → List ℕ
parts_of told call =
    status_number told.status ∷ unwrap_or told.work 0
    ∷ word_at call.number 0 ∷ word_at call.submitter 0 ∷ word_at call.submitter 3
    ∷ kind_number call.kind ∷ unwrap_or call.iswc 0
    ∷ word_at call.title 0 ∷ word_at call.title 8 ∷ word_at call.title 16 ∷ word_at call.title 24
    ∷ word_at call.title 32 ∷ word_at call.title 40 ∷ word_at call.title 48 ∷ word_at call.title 52 ∷ []

-- the number with one fault more mixed in
unfoldable pub fault_mixed : ℕ → Fault → ℕ
fault_mixed so_far fault = mixed (mixed so_far fault.sequence) (from_be_bytes w64 (0 ∷ 0 ∷ 0 ∷ 0 ∷ fault.number ∷ fault.rtype))

-- the number with these faults mixed in, in order
unfoldable pub faults_mixed : ℕ → List Fault → ℕ
faults_mixed so_far faults = fold fault_mixed so_far faults

-- the number for a reply and a call, from all that is compared but the last bytes of the submitter work number
unfoldable pub digest_of : AckStatus → CallValue → ℕ
digest_of told call = faults_mixed (all_mixed (all_mixed 0 (parts_of told call)) call.control) call.faults
