-- Digits that are written: zeros in front of a number, and the digits of a work's code.
use Rattle.std.proofs.Common.{◌≡◌, ◌∙◌, ℕ, zero, suc, ◌+◌, ◌-◌, ◌/◌, ◌%◌, ◌<◌, ◌≤◌, ◌^◌, List, [], ◌∷◌, ◌++◌, length, arith, ap, sym, append_assoc}
use Rattle.std.specs.Prelude.{replicate}
use Rattle.std.proofs.lemmas.List.{append-nil}
use Rattle.std.proofs.Math.Nat.{pow-suc}
use Rattle.cwr_field.specs.Layout.{padded}
use Rattle.cwr_field.specs.Number.{number_text}

-- a number that fits the last of its digits has zeros in the first
behind_zeros : (front back n : ℕ) → n < 10 ^ back → number_text (front + back) n ≡ number_text front 0 ++ number_text back n
behind_zeros front zero n lt =
    let none : n ≡ 0 = omega (arith, lt) in
    let same : front + 0 ≡ front = omega arith in
    ap (λ (w : ℕ). number_text w n) same ∙ ap (λ (m : ℕ). number_text front m) none ∙ sym (append-nil (number_text front 0))
behind_zeros front (suc back) n lt =
    let more : front + suc back ≡ suc (front + back) = omega arith in
    let small : n / 10 < 10 ^ back = omega (arith, lt, pow-suc 10 back) in
    ap (λ (w : ℕ). number_text w n) more
    ∙ ap (λ (xs : List ℕ). xs ++ (48 + n % 10) ∷ []) (behind_zeros front back (n / 10) small)
    ∙ append_assoc (number_text front 0) (number_text back (n / 10)) ((48 + n % 10) ∷ [])

full : (text : List ℕ) → padded (length text) text ≡ text
full text =
    let none : length text - length text ≡ 0 = omega arith in
    ap (λ (n : ℕ). text ++ replicate n 32) none ∙ append-nil text

-- the zeros and the other digits are the number's
pub zeros_before : (zeros : List ℕ) (width n : ℕ) → length zeros ≤ width → zeros ≡ number_text (length zeros) 0 → n < 10 ^ (width - length zeros)
    → padded (length zeros) zeros ++ number_text (width - length zeros) n ≡ number_text width n
zeros_before zeros width n le is lt =
    let all : length zeros + (width - length zeros) ≡ width = omega (arith, le) in
    ap (λ (xs : List ℕ). xs ++ number_text (width - length zeros) n) (full zeros ∙ is)
    ∙ sym (behind_zeros (length zeros) (width - length zeros) n lt)
    ∙ ap (λ (w : ℕ). number_text w n) all

-- a text that is put in two parts is put whole
pub two_parts : (line first second front back text behind : List ℕ) → second ++ behind ≡ first ++ (back ++ behind) → first ++ (back ++ behind) ≡ line ++ (front ++ (back ++ behind)) → front ++ back ≡ text
    → second ++ behind ≡ line ++ (text ++ behind)
two_parts line first second front back text behind p q is =
    p ∙ q ∙ ap (λ (xs : List ℕ). line ++ xs) (sym (append_assoc front back behind) ∙ ap (λ (xs : List ℕ). xs ++ behind) is)
