-- A blank at the end is removed, and what ends otherwise stays.
use Rattle.std.proofs.Common.{◌≡◌, ℕ, ◌+◌, ◌-◌, ◌<◌, ◌≤◌, false, List, [], ◌∷◌, ◌++◌, length, take, get_or, get_or-take, length-take-le, take-take, arith, refl, sym, ap, ◌∙◌}
use Rattle.std.proofs.Math.Bool.{and-true, and-false}
use Rattle.std.specs.Prelude.{◌==◌}
use Rattle.std.proofs.lemmas.Bool.Decides.{nat_tests}
use Rattle.std.proofs.lemmas.List.{take_more}
use Rattle.std.proofs.lemmas.List.Folds.{list_all-append}
use Rattle.std.proofs.Math.Seq.{take-length}
use Rattle.cwr_field.specs.Layout.{is_blank}
use Rattle.cwr_record.specs.Territory.{without_trailing}

is_blank-push : (bytes : List ℕ) → is_blank (bytes ++ 32 ∷ []) ≡ is_blank bytes
is_blank-push bytes = list_all-append (λ (b : ℕ). b == 32) bytes (32 ∷ []) ∙ and-true (is_blank bytes)

is_blank-push_other : (bytes : List ℕ) (c : ℕ) → (c == 32) ≡ false → is_blank (bytes ++ c ∷ []) ≡ false
is_blank-push_other bytes c h = rw (list_all-append (λ (b : ℕ). b == 32) bytes (c ∷ []), h) (and-false (is_blank bytes))

push_blank : (bytes : List ℕ) → without_trailing (bytes ++ 32 ∷ []) ≡ without_trailing bytes
push_blank [] = refl
push_blank (b ∷ bytes) = rw (is_blank-push bytes, push_blank bytes) refl

push_other : (bytes : List ℕ) (c : ℕ) → (c == 32) ≡ false → without_trailing (bytes ++ c ∷ []) ≡ bytes ++ c ∷ []
push_other [] c h = rw h refl
push_other (b ∷ bytes) c h = rw (is_blank-push_other bytes c h, and-false (b == 32), push_other bytes c h) refl

last_apart : (bytes : List ℕ) (j : ℕ) → j + 1 ≡ length bytes → take j bytes ++ get_or bytes j 0 ∷ [] ≡ bytes
last_apart bytes j e = sym (take_more bytes j 0 (omega (arith, e))) ∙ rw e (take-length bytes)

pub without_trailing-take : (bytes : List ℕ) → 1 ≤ length bytes → get_or bytes (length bytes - 1) 0 ≡ 32
    → without_trailing (take (length bytes - 1) bytes) ≡ without_trailing bytes
without_trailing-take bytes some is =
    let apart = last_apart bytes (length bytes - 1) (omega arith) in
    let blank : take (length bytes - 1) bytes ++ 32 ∷ [] ≡ bytes = ap (λ (c : ℕ). take (length bytes - 1) bytes ++ c ∷ []) (sym is) ∙ apart in
    sym (push_blank (take (length bytes - 1) bytes)) ∙ ap without_trailing blank

pub without_trailing-same : (bytes : List ℕ) → 1 ≤ length bytes → (get_or bytes (length bytes - 1) 0 ≡ 32 → ⊥)
    → without_trailing bytes ≡ bytes
without_trailing-same bytes some other =
    let c = get_or bytes (length bytes - 1) 0 in
    let not : (c == 32) ≡ false = grind (arith, nat_tests) in
    let apart = last_apart bytes (length bytes - 1) (omega arith) in
    sym (ap without_trailing apart) ∙ (push_other (take (length bytes - 1) bytes) c not ∙ apart)

-- one blank more is removed
pub one_less : (text : List ℕ) (end : ℕ) → 0 < end → end ≤ length text → get_or text (end - 1) 0 ≡ 32
    → without_trailing (take (end - 1) text) ≡ without_trailing (take end text)
one_less text end some within is =
    let front : List ℕ = take end text in
    let size : length front ≡ end = length-take-le end text within in
    let last : get_or front (length front - 1) 0 ≡ 32 =
    ap (λ (n : ℕ). get_or front (n - 1) 0) size ∙ get_or-take end text (end - 1) 0 (omega (arith, some)) ∙ is in
    sym (ap without_trailing (ap (λ (n : ℕ). take (n - 1) front) size ∙ take-take (end - 1) end text (omega arith)))
    ∙ without_trailing-take front (omega (arith, some, size)) last

-- where the last byte is no blank the bytes stay
pub ended : (text : List ℕ) (end : ℕ) → 0 < end → end ≤ length text → (get_or text (end - 1) 0 ≡ 32 → ⊥) → take end text ≡ without_trailing (take end text)
ended text end some within other =
    let front : List ℕ = take end text in
    let size : length front ≡ end = length-take-le end text within in
    let last : get_or front (length front - 1) 0 ≡ get_or text (end - 1) 0 =
    ap (λ (n : ℕ). get_or front (n - 1) 0) size ∙ get_or-take end text (end - 1) 0 (omega (arith, some)) in
    sym (without_trailing-same front (omega (arith, some, size)) (λ is. other (sym last ∙ is)))

-- where none is left there are none
pub none_left : (text : List ℕ) (end : ℕ) → end ≡ 0 → take end text ≡ without_trailing (take end text)
none_left text end none =
    ap (λ (n : ℕ). take n text) none ∙ sym (ap (λ (n : ℕ). without_trailing (take n text)) none)
