-- Pieces that are written one after the other.
use Rattle.std.proofs.Common.{◌≡◌, ◌∙◌, List, ℕ, ◌++◌, ap, append_assoc}

-- one piece, and what follows it
pub then : (out mid new a b : List ℕ) → mid ≡ out ++ a → new ≡ mid ++ b → new ≡ out ++ (a ++ b)
then out mid new a b e f = f ∙ ap (λ text. text ++ b) e ∙ append_assoc out a b

pub four : (out b c d new x y z w : List ℕ) → b ≡ out ++ x → c ≡ b ++ y → d ≡ c ++ z → new ≡ d ++ w → new ≡ out ++ (x ++ y ++ z ++ w)
four out b c d new x y z w p q r s = then out d new (x ++ y ++ z) w (then out c d (x ++ y) z (then out b c x y p q) r) s
