-- Bytes that stand for themselves in a text of JSON, many at once.
use Rattle.std.proofs.Common.{◌≡◌, ◌<◌, ℕ, ltb, le-ltb, Bool, false, cond, List, length, get_or, Some, None, arith, refl, ap}
use Rattle.std.specs.Prelude.{nat_lt, ◌==◌}
use Rattle.std.specs.List.{position_or_len}
use Rattle.std.proofs.lemmas.List.Sums.{position_or_len_is}
use Rattle.json.specs.Print.{escape}
use Rattle.report_json.specs.Json.{latin}
use Rattle.report_json.specs.JsonText.{is_changed}
use Rattle.report_json.proofs.JsonStrings.{none_changed}

-- a byte that no test tells
pub kept : (x : ℕ) → nat_lt x 32 ≡ false → (x == 34) ≡ false → (x == 92) ≡ false → nat_lt 127 x ≡ false → is_changed x ≡ false
kept x a b c d = rw (a, b, c, d) refl

-- bytes of which each stands for itself
pub all_kept : (xs : List ℕ) → ((k : ℕ) → k < length xs → is_changed (get_or xs k 0) ≡ false) → escape (latin xs) ≡ xs
all_kept xs each =
    let all : position_or_len is_changed xs ≡ length xs = position_or_len_is is_changed xs (length xs) 0 (omega arith) each (λ lt. absurd (omega (arith, lt))) in
    let past : ltb (position_or_len is_changed xs) (length xs) ≡ false = le-ltb (position_or_len is_changed xs) (length xs) (omega (arith, all)) in
    none_changed xs (ap (λ (b : Bool). cond b (Some (position_or_len is_changed xs)) None) past)
