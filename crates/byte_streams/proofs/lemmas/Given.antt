-- Bytes that a source gave, one after the other.
use Rattle.std.proofs.Common.{◌≡◌, ◌∙◌, ℕ, ◌<◌, List, [], ◌++◌, length, Option, Some, None, IfSome, refl, sym, ap, arith, append_assoc, append-nil, length-append}
use Rattle.std.specs.Io.KnownBytes.{Consumes, IsAtEnd}

-- none
pub none_given : (a : Option (List ℕ)) → Consumes a a []
none_given None = tt
none_given (Some bytes) = refl

-- some bytes and then others
pub both : (a b c : Option (List ℕ)) (xs ys : List ℕ) → Consumes a b xs → Consumes b c ys → Consumes a c (xs ++ ys)
both None b c xs ys p q = tt
both (Some l) None c xs ys p q = absurd p
both (Some l) (Some m) None xs ys p q = absurd q
both (Some l) (Some m) (Some n) xs ys p q = p ∙ (ap (λ z. xs ++ z) q ∙ sym (append_assoc xs ys n))

-- those up to the end are all that were left
pub all_given : (a c : Option (List ℕ)) (xs : List ℕ) → Consumes a c xs → IsAtEnd c → IfSome a (λ bytes. xs ≡ bytes)
all_given None c xs p e = tt
all_given (Some l) None xs p e = absurd p
all_given (Some l) (Some m) xs p e = sym (p ∙ ap (λ (ys : List ℕ). xs ++ ys) e ∙ append-nil xs)

-- where they are more than n, more than n were left
pub more_given : (a c : Option (List ℕ)) (xs : List ℕ) (n : ℕ) → Consumes a c xs → n < length xs → IfSome a (λ bytes. n < length bytes)
more_given None c xs n p lt = tt
more_given (Some l) None xs n p lt = absurd p
more_given (Some l) (Some m) xs n p lt = let long = ap length p in let sum = length-append xs m in omega (arith, lt, long, sum)
