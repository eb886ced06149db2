-- A text that is compared with what is written.
use Rattle.std.specs.Prelude.{◌≡◌, ◌≢◌, ◌==◌, ◌⊎◌, ℕ, ◌+◌, ◌≤◌, Bool, true, List, [], ◌∷◌, ◌++◌, length, take, Option, Some, None, IfSome, IsSome, count_by, slice_get, ⊤}
use Rattle.cwr_verify.specs.declared.verify_error.VerifyError.{VerifyError}
use Rattle.cwr_verify.specs.declared.verify_error.VerifyError.TheVariants.{Memory, Acknowledgement}

-- Two texts differ first in this line of the one, from 1. In front of a place they are the same, and at that place they
-- have not the same byte, or one of them has ended.
pub record DiffersAt (one other : List ℕ) (line : ℕ) : Type 0 where
  -- the number of bytes in front of the place
  pub same : ℕ
  pub front : take same one ≡ take same other
  pub differs : slice_get one same ≢ slice_get other same
  pub counted : line ≡ count_by (λ byte. byte == 10) (take same one) + 1

-- what is told of a text of the file with this number and of another: an allocation failed, or in which line of the one
-- they differ first
abbrev pub IsDifference : ℕ → List ℕ → List ℕ → VerifyError → Type 0
IsDifference number one other Memory = ⊤
IsDifference number one other (Acknowledgement file line) = (file ≡ number) × DiffersAt one other line
IsDifference number one other _ = ⊥

-- a comparison so far
pub record Compared : Type 0 where
  -- the text that is expected
  pub expected : List ℕ
  -- the number of bytes that were written as expected, from the first on
  pub same : ℕ
  -- the byte that was written behind these and is not as expected; `None` where none was
  pub other : Option ℕ
  -- whether more was to be written behind that byte
  pub failed : Bool

-- what was written, of the bytes as expected and of the one that is not
abbrev pub written_as : List ℕ → Option ℕ → List ℕ
written_as front None = front
written_as front (Some byte) = front ++ byte ∷ []

-- what was written
abbrev pub written_in : Compared → List ℕ
written_in compared = written_as (take compared.same compared.expected) compared.other

-- what a sink took that compares, as if the expected text itself had been written before, with its length in front
abbrev pub taken_of : Compared → List ℕ
taken_of compared = length compared.expected ∷ (compared.expected ++ written_in compared)

-- the bytes that count as the same are some of those that are expected, the one behind them is another than expected,
-- and a write fails only behind such a byte
pub record IsComparing (compared : Compared) : Type 0 where
  pub within : compared.same ≤ length compared.expected
  pub other : IfSome compared.other (λ byte. slice_get compared.expected compared.same ≢ Some byte)
  pub behind : compared.failed ≡ true → IsSome compared.other

-- what was written is the text, and not what is expected; or it is the front of the text, up to a write that failed
abbrev pub IsUnlike : Compared → List ℕ → Type 0
IsUnlike compared text =
    ((written_in compared ≡ text) × (written_in compared ≢ compared.expected))
    ⊎ ((size : ℕ) × (written_in compared ≡ take size text) × (compared.failed ≡ true))
