-- A blank at the end is left out, and what ends otherwise stays.
use Rattle.std.proofs.Common.{◌≡◌, ◌∙◌, ◌+◌, ◌-◌, ◌≤◌, ◌==◌, ℕ, false, List, [], ◌∷◌, ◌++◌, length, take, get_or, arith, refl, sym, ap}
use Rattle.std.proofs.Math.Bool.{and-false}
use Rattle.std.proofs.Math.Seq.{take-length}
use Rattle.std.proofs.lemmas.Bool.Decides.{nat_tests}
use Rattle.std.proofs.lemmas.List.{take_more}
use Rattle.register_tables.specs.Fields.{is_empty, unpadded}

push_blank : (bytes : List ℕ) → unpadded (bytes ++ 32 ∷ []) ≡ unpadded bytes
push_blank [] = refl
push_blank (b ∷ bytes) = rw (push_blank bytes) refl

not_empty : (bytes : List ℕ) (c : ℕ) → is_empty (bytes ++ c ∷ []) ≡ false
not_empty [] c = refl
not_empty (b ∷ bytes) c = refl

push_other : (bytes : List ℕ) (c : ℕ) → (c == 32) ≡ false → unpadded (bytes ++ c ∷ []) ≡ bytes ++ c ∷ []
push_other [] c h = rw h refl
push_other (b ∷ bytes) c h = rw (push_other bytes c h, not_empty bytes c, and-false (b == 32)) refl

last_apart : (bytes : List ℕ) (j : ℕ) → j + 1 ≡ length bytes → take j bytes ++ get_or bytes j 0 ∷ [] ≡ bytes
last_apart bytes j e = sym (take_more bytes j 0 (omega (arith, e))) ∙ rw e (take-length bytes)

pub unpadded-take : (bytes : List ℕ) → 1 ≤ length bytes → get_or bytes (length bytes - 1) 0 ≡ 32 → unpadded (take (length bytes - 1) bytes) ≡ unpadded bytes
unpadded-take bytes some is =
    let apart = last_apart bytes (length bytes - 1) (omega arith) in
    let blank : take (length bytes - 1) bytes ++ 32 ∷ [] ≡ bytes = ap (λ (c : ℕ). take (length bytes - 1) bytes ++ c ∷ []) (sym is) ∙ apart in
    sym (push_blank (take (length bytes - 1) bytes)) ∙ ap unpadded blank

pub unpadded-same : (bytes : List ℕ) → 1 ≤ length bytes → (get_or bytes (length bytes - 1) 0 ≡ 32 → ⊥) → unpadded bytes ≡ bytes
unpadded-same bytes some other =
    let c = get_or bytes (length bytes - 1) 0 in
    let not : (c == 32) ≡ false = grind (arith, nat_tests) in
    let apart = last_apart bytes (length bytes - 1) (omega arith) in
    sym (ap unpadded apart) ∙ (push_other (take (length bytes - 1) bytes) c not ∙ apart)
