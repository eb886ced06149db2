-- A list of places, or of flags, after one of them was written.
use Rattle.std.proofs.Common.{◌≡◌, ℕ, zero, suc, ◌<◌, ◌≢◌, List, length, get_or, set, replicate, refl, ap, ◌∙◌, subst, get_or-set_other, get_or-set_same}
use mathlib.Core.Logic.{dite}
use native.Mathlib.Decide.{ℕ_discrete}

-- Something holds of place v after x was written at w. Then v is w and it holds of x, or v is another place and it held
-- there before: what follows in both cases follows.
pub at_write : {A C : Type 0} (P : A → Type 0) (xs : List A) (w v : ℕ) (x d : A) → w < length xs → P (get_or (set xs w x) v d)
    → (v ≡ w → P x → C) → (v ≢ w → P (get_or xs v d) → C) → C
at_write P xs w v x d room holds here elsewhere = dite (ℕ_discrete v w)
    (λ e. here e (subst P (ap (λ (k : ℕ). get_or (set xs w x) k d) e ∙ get_or-set_same xs w x d room) holds))
    (λ ne. elsewhere ne (subst P (get_or-set_other xs w v x d ne) holds))

-- where all places are alike, so is what a place that is not there counts as
pub get_or-replicate_same : {A : Type 0} (n w : ℕ) (x : A) → get_or (replicate n x) w x ≡ x
get_or-replicate_same zero w x = refl
get_or-replicate_same (suc n) zero x = refl
get_or-replicate_same (suc n) (suc w) x = get_or-replicate_same n w x
