-- Texts that are written over a line.
use Rattle.std.proofs.Common.{◌≡◌, ◌∙◌, ℕ, ◌+◌, ◌≤◌, List, ◌++◌, length, take, drop, ap, append_assoc, length-append, length-take, arith}
use Rattle.std.proofs.lemmas.List.{take-take, take-append-le}
use Rattle.std.proofs.lemmas.Slice.{take-put_mid}
use borrow.Rule.Slice.PartMut.{put_mid}

-- a text is written behind the first n bytes, and something is put behind it
pub put_behind : (line room text : List ℕ) (n k end : ℕ) → room ≡ text → end ≡ n + length room → n ≤ length line
    → (behind : List ℕ) → take end (put_mid n k line room) ++ behind ≡ take n line ++ (text ++ behind)
put_behind line room text n k end is at within behind =
    ap (λ t. t ++ behind) (take-put_mid n k line room end at within ∙ ap (λ t. take n line ++ t) is) ∙ append_assoc (take n line) text behind

-- a text is written over what a vector has behind its first n bytes
pub held_behind : (now items room held : List ℕ) (n k end len : ℕ) → now ≡ items → take n items ≡ held → end ≡ n + length room → end ≤ len → len ≡ length items
    → take end (take len (put_mid n k now room ++ drop (length (put_mid n k now room)) items)) ≡ held ++ room
held_behind now items room held n k end len same is_held at within all =
    let over = put_mid n k now room in
    let size = ap length same in
    let front : take end over ≡ take n now ++ room = take-put_mid n k now room end at (omega (arith, at, within, all, size)) in
    let width = ap length front in
    let long : end ≤ length over =
    omega (arith, width, at, length-take end over, length-append (take n now) room, length-take n now, within, all, size) in
    take-take end len (over ++ drop (length over) items) within ∙ take-append-le end over (drop (length over) items) long ∙ front
    ∙ ap (λ t. t ++ room) (ap (take n) same ∙ is_held)
