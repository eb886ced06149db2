-- the control of a work under other keys
use Rattle.std.proofs.Common.{arith, ◌≡◌, ◌≤◌, ◌<◌, ◌-◌, ◌+◌, ◌==◌, ℕ, List, [], ◌∷◌, false, ap, ◌∙◌, if◌then◌else◌, refl, slice_index, zero, suc, Some, None, eq-eqb}
use Rattle.work_registry.specs.declared.key.Key.{Key}
use Rattle.work_registry.specs.declared.indexes.IndexedClaim.{IndexedClaim}
use Rattle.work_registry.specs.Indexes.{indexed_claim}
use Rattle.work_registry.specs.Rows.{Row}
use Rattle.work_registry.specs.Works.{control_in, control_of, others_in, others_of}
use Rattle.work_registry.specs.Reply.{max_control}
use Rattle.work_registry.proofs.SoundRows.{IsSound}
use Rattle.work_registry.proofs.SoundHistories.{others-small}
use Rattle.work_registry.proofs.KeptRows.{control-some_of_key, control-none_of_key}

-- where the key's claim is on the work
pub control-own : (i w : ℕ) (k : Key) (rows : List Row) (c : IndexedClaim) → Some c ≡ indexed_claim k rows → c.work ≡ w → control_in i w rows ≡ others_in i w k rows + slice_index c.control i
control-own i w k rows c e h =
    control-some_of_key i w k rows c e ∙ ap (λ b. others_in i w k rows + (if b then slice_index c.control i else 0)) (eq-eqb _ _ h)

pub minus : (a b d n : ℕ) → a ≡ b → b ≡ d + n → a - n ≡ d
minus a b d n e f = omega arith

pub others-own : (w : ℕ) (k : Key) (rows : List Row) (c : IndexedClaim) (all : List ℕ) → Some c ≡ indexed_claim k rows → all ≡ control_of w rows → c.work ≡ w →
    ((slice_index all 0 - slice_index c.control 0) ∷ (slice_index all 1 - slice_index c.control 1) ∷ (slice_index all 2 - slice_index c.control 2) ∷ []) ≡ others_of w k rows
others-own w k rows c all e a h =
    let x : slice_index all 0 - slice_index c.control 0 ≡ others_in 0 w k rows = minus _ _ _ _ (ap (λ l. slice_index l 0) a) (control-own 0 w k rows c e h) in
    let y : slice_index all 1 - slice_index c.control 1 ≡ others_in 1 w k rows = minus _ _ _ _ (ap (λ l. slice_index l 1) a) (control-own 1 w k rows c e h) in
    let z : slice_index all 2 - slice_index c.control 2 ≡ others_in 2 w k rows = minus _ _ _ _ (ap (λ l. slice_index l 2) a) (control-own 2 w k rows c e h) in
    rw (x, y, z) refl

pub own-le : (i w : ℕ) (k : Key) (rows : List Row) (c : IndexedClaim) → Some c ≡ indexed_claim k rows → c.work ≡ w → slice_index c.control i ≤ control_in i w rows
own-le i w k rows c e h = omega (arith, control-own i w k rows c e h)

-- where it is on another
pub others-other : (w : ℕ) (k : Key) (rows : List Row) (c : IndexedClaim) → Some c ≡ indexed_claim k rows → (c.work == w) ≡ false → control_of w rows ≡ others_of w k rows
others-other w k rows c e h =
    let at : (i : ℕ) → control_in i w rows ≡ others_in i w k rows =
    (λ i. (let p : control_in i w rows ≡ others_in i w k rows + 0 = control-some_of_key i w k rows c e ∙ ap (λ b. others_in i w k rows + (if b then slice_index c.control i else 0)) h in omega (arith, p))) in
    rw (at 0, at 1, at 2) refl

pub others-none : (w : ℕ) (k : Key) (rows : List Row) → None ≡ indexed_claim k rows → control_of w rows ≡ others_of w k rows
others-none w k rows e = rw (control-none_of_key 0 w k rows e, control-none_of_key 1 w k rows e, control-none_of_key 2 w k rows e) refl

-- in every history the other keys leave the whole as it is
pub others-at : (right w : ℕ) (k : Key) (rows : List Row) (others : List ℕ) → others ≡ others_of w k rows → IsSound rows → right < 3 → slice_index others right ≤ max_control
others-at right w k rows others e s lt = rw e (by right lt)
  where
    by : (n : ℕ) → n < 3 → slice_index (others_of w k rows) n ≤ max_control
    by zero l = others-small 0 w k rows s (omega arith)
    by (suc zero) l = others-small 1 w k rows s (omega arith)
    by (suc (suc zero)) l = others-small 2 w k rows s (omega arith)
    by (suc (suc (suc n))) l = absurd (omega arith)
