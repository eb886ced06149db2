-- A text that is consumed as it comes from its source.
use Rattle.std.specs.Prelude.{ℕ, ◌≡◌, ◌<◌, ◌≤◌, Bool, true, false, List, length, Option, IfSome}
use Rattle.byte_streams.specs.Window.{WindowState, IsRest, IsStopped}
use Rattle.byte_streams.specs.declared.consuming.ConsumeError.{ConsumeError}
use Rattle.byte_streams.specs.declared.consuming.ConsumeError.TheVariants.{Unread, Refused}
use Rattle.byte_streams.specs.declared.reading.ReadRefused.TheVariants.{Memory, Read, TooLong}

-- Why the text of a reader was not consumed: an allocation failed, a read failed, there are bytes past the limit, or
-- the text has this refusal.
abbrev pub IsUnconsumed : {R : Type 0} → (R → List ℕ → Type 0) → (R → Bool) → ℕ → Option (List ℕ) → Bool → ConsumeError R → Type 0
IsUnconsumed is_refusal is_memory limit left failed (Unread Memory) = failed ≡ false
IsUnconsumed is_refusal is_memory limit left failed (Unread Read) = failed ≡ true
IsUnconsumed is_refusal is_memory limit left failed (Unread TooLong) = (failed ≡ false) × IfSome left (λ bytes. limit < length bytes)
IsUnconsumed is_refusal is_memory limit left failed (Refused refusal) =
    (failed ≡ false) × (is_memory refusal ≡ false) × ((text : List ℕ) × IfSome left (λ bytes. text ≡ bytes) × (length text ≤ limit) × is_refusal refusal text)

-- what is answered where a text is refused with `refusal` while its first bytes stand in a window: the refusal itself,
-- once the text was read to its end, or why reading stopped before that
abbrev pub IsAnswerTo : {R : Type 0} → (R → Bool) → WindowState → Option (List ℕ) → Option (List ℕ) → Bool → R → ConsumeError R → Type 0
IsAnswerTo is_memory window left_before left_after failed refusal (Unread why) = IsStopped window left_before left_after failed why
IsAnswerTo is_memory window left_before left_after failed refusal (Refused told) =
    (failed ≡ false) × (told ≡ refusal) × (is_memory refusal ≡ false) × ((rest : List ℕ) × IsRest window left_before left_after rest)
