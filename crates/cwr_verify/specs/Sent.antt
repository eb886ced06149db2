-- A file that was sent, and the acknowledgement that is said to answer it.
use Rattle.std.specs.Prelude.{ℕ, List}

-- a file as it was sent, and the acknowledgement that is said to answer it
pub record Sent : Type 0 where
  pub text : List ℕ
  pub acknowledgement : List ℕ
