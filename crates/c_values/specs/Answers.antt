-- The status that an export returns, and how it gives a text to its caller.
use Rattle.std.specs.Prelude.{◌≡◌, ℕ, ◌≤◌, ◌<◌, ◌⊎◌, List, ◌++◌, length, drop}

-- the statuses that exports return: all went well
abbrev pub done : ℕ
done = 0

-- the caller's buffer is too small for the text
abbrev pub no_room : ℕ
no_room = 1

-- an allocation failed
abbrev pub no_memory : ℕ
no_memory = 2

-- the bytes are no stamp
abbrev pub bad_stamp : ℕ
bad_stamp = 3

-- the text is not the register of a history of one registry
abbrev pub faulty : ℕ
faulty = 4

-- the numbers are those of no outcome
abbrev pub no_outcome : ℕ
no_outcome = 5

-- the registry is closed
abbrev pub shut : ℕ
shut = 6

-- the registry is already open
abbrev pub already_open : ℕ
already_open = 7

-- the word names no rule and no answer
abbrev pub no_rule : ℕ
no_rule = 8

-- the files and the register do not fit one another
abbrev pub unverified : ℕ
unverified = 9

-- the text stands at the front of the caller's buffer, and what is behind it is unchanged
pub record IsPut (text before after : List ℕ) (status : ℕ) : Type 0 where
  pub is_done : status ≡ done
  pub fits : length text ≤ length before
  -- the caller's buffer after the call
  pub room : after ≡ text ++ drop (length text) before

-- the text is longer than the caller's buffer, which is unchanged
pub record IsTooLong (text before after : List ℕ) (status : ℕ) : Type 0 where
  pub is_not_done : status ≡ no_room
  pub longer : length before < length text
  pub room : after ≡ before

-- the text is put into the caller's buffer where it fits, and its length is returned in either case
pub record IsGiven (text before after : List ℕ) (told status : ℕ) : Type 0 where
  -- the length of the text is returned
  pub length_told : told ≡ length text
  pub given : IsPut text before after status ⊎ IsTooLong text before after status

-- a text of which P holds is given to the caller
pub record IsTold (P : List ℕ → Type 0) (before after : List ℕ) (told status : ℕ) : Type 0 where
  pub text : List ℕ
  pub holds : P text
  pub given : IsGiven text before after told status
