-- Bytes one by one, as a pattern takes them apart.
use Rattle.std.proofs.Common.{◌≡◌, ◌∙◌, ℕ, zero, suc, ◌+◌, List, [], ◌∷◌, length, drop, get_or, arith, ap}
use Rattle.std.proofs.lemmas.List.{drop_more, drop_all}

-- so many bytes from an index on
abbrev pub bytes_from : ℕ → ℕ → List ℕ → List ℕ
bytes_from i zero xs = []
bytes_from i (suc n) xs = get_or xs i 0 ∷ bytes_from (i + 1) n xs

from_is : (i n : ℕ) (xs : List ℕ) → i + n ≡ length xs → drop i xs ≡ bytes_from i n xs
from_is i zero xs len = drop_all i xs (omega (arith, len))
from_is i (suc n) xs len = drop_more xs i 0 (omega (arith, len)) ∙ ap (λ (rest : List ℕ). get_or xs i 0 ∷ rest) (from_is (i + 1) n xs (omega (arith, len)))

pub each : (n : ℕ) (xs : List ℕ) → length xs ≡ n → xs ≡ bytes_from 0 n xs
each n xs len = from_is 0 n xs (omega (arith, len))
