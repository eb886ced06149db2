-- What was there stays in front of what is appended.
use Rattle.std.proofs.Common.{◌≡◌, ◌∙◌, ◌≤◌, ℕ, List, ◌++◌, length, take, drop, sym, ap, arith}
use Rattle.std.proofs.Math.Seq.{take-length, take-append_seam}
use Rattle.std.proofs.lemmas.List.{length-take, take-append-le, take-append-drop}

pub whole : (old new : List ℕ) → new ≡ old → take (length old) new ≡ old
whole old new same = ap (λ (xs : List ℕ). take (length old) xs) same ∙ take-length old

pub behind : (old new x : List ℕ) → new ≡ old ++ x → take (length old) new ≡ old
behind old new x wrote = ap (λ (xs : List ℕ). take (length old) xs) wrote ∙ take-append_seam old x

-- also where something stood behind it before
pub more : (old mid new x : List ℕ) → take (length old) mid ≡ old → new ≡ mid ++ x → take (length old) new ≡ old
more old mid new x front wrote =
    let inside : length old ≤ length mid = omega (arith, length-take (length old) mid, ap length front) in
    ap (λ (xs : List ℕ). take (length old) xs) wrote ∙ take-append-le (length old) mid x inside ∙ front

pub more_kept : (old mid then new x : List ℕ) → take (length old) mid ≡ old → then ≡ mid ++ x → new ≡ then → take (length old) new ≡ old
more_kept old mid then new x front wrote kept = ap (λ (xs : List ℕ). take (length old) xs) kept ∙ more old mid then x front wrote

-- and where that is what stays in front
pub onward : (old mid new : List ℕ) → take (length old) mid ≡ old → take (length mid) new ≡ mid → take (length old) new ≡ old
onward old mid new front later =
    more old mid new (drop (length mid) new) front (sym (take-append-drop (length mid) new) ∙ ap (λ (xs : List ℕ). xs ++ drop (length mid) new) later)
