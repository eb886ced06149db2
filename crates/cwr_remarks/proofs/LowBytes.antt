-- A line without bytes above 126.
use Rattle.std.proofs.Common.{◌≡◌, ◌<◌, ℕ, ltb, le-ltb, Bool, false, cond, List, length, get_or, Some, None, arith, ap}
use Rattle.std.specs.List.{position_or_len}
use Rattle.std.proofs.lemmas.List.Sums.{position_or_len_is}
use Rattle.cwr_remarks.specs.HighBytes.{is_high, high_from, high_bytes}

-- of a line without such a byte nothing is remarked
pub none_high : (line : List ℕ) → ((k : ℕ) → k < length line → is_high (get_or line k 0) ≡ false) → high_bytes line ≡ None
none_high line each =
    let all : position_or_len is_high line ≡ length line = position_or_len_is is_high line (length line) 0 (omega arith) each (λ lt. absurd (omega (arith, lt))) in
    let past : ltb (position_or_len is_high line) (length line) ≡ false = le-ltb (position_or_len is_high line) (length line) (omega (arith, all)) in
    ap (λ (b : Bool). high_from line (cond b (Some (position_or_len is_high line)) None)) past
