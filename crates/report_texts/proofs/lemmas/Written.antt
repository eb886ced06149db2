-- Pieces that are written one after the other.
use Rattle.std.proofs.Common.{◌≡◌, ℕ, List, ◌++◌}
use Rattle.cwr_field.proofs.lemmas.Pieces.{then}

pub three : (out b c new x y z : List ℕ) → b ≡ out ++ x → c ≡ b ++ y → new ≡ c ++ z → new ≡ out ++ (x ++ y ++ z)
three out b c new x y z p q r = then out c new (x ++ y) z (then out b c x y p q) r

pub four : (out b c d new x y z w : List ℕ) → b ≡ out ++ x → c ≡ b ++ y → d ≡ c ++ z → new ≡ d ++ w → new ≡ out ++ (x ++ y ++ z ++ w)
four out b c d new x y z w p q r s = then out d new (x ++ y ++ z) w (three out b c d x y z p q r) s

pub five : (out b c d e new x y z w v : List ℕ) → b ≡ out ++ x → c ≡ b ++ y → d ≡ c ++ z → e ≡ d ++ w → new ≡ e ++ v → new ≡ out ++ (x ++ y ++ z ++ w ++ v)
five out b c d e new x y z w v p q r s t = then out e new (x ++ y ++ z ++ w) v (four out b c d e x y z w p q r s) t

pub seven : (out b c d e f g new x y z w v u t : List ℕ) → b ≡ out ++ x → c ≡ b ++ y → d ≡ c ++ z → e ≡ d ++ w → f ≡ e ++ v → g ≡ f ++ u → new ≡ g ++ t → new ≡ out ++ (x ++ y ++ z ++ w ++ v ++ u ++ t)
seven out b c d e f g new x y z w v u t p q r s k l m =
    then out g new (x ++ y ++ z ++ w ++ v ++ u) t (then out f g (x ++ y ++ z ++ w ++ v) u (five out b c d e f x y z w v p q r s k) l) m

pub eight : (out b c d e f g h new x y z w v u t s : List ℕ) → b ≡ out ++ x → c ≡ b ++ y → d ≡ c ++ z → e ≡ d ++ w → f ≡ e ++ v → g ≡ f ++ u → h ≡ g ++ t → new ≡ h ++ s → new ≡ out ++ (x ++ y ++ z ++ w ++ v ++ u ++ t ++ s)
eight out b c d e f g h new x y z w v u t s p q r k l m n o =
    then out h new (x ++ y ++ z ++ w ++ v ++ u ++ t) s (seven out b c d e f g h x y z w v u t p q r k l m n) o
