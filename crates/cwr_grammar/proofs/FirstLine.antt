-- The first line of a text, by the place of its first LF.
use Rattle.std.proofs.Common.{◌≡◌, ℕ, ◌+◌, ◌<◌, ◌≤◌, eqb, ltb, Bool, true, false, cond, List, [], ◌∷◌, ◌++◌, length, take, drop, append_assoc, Some, None, All, arith, refl}
use Rattle.std.specs.List.{slice_split, position, position_or_len, onto_first, after_first}
use Rattle.std.specs.Str.Lines.{lines, strip_carriage_return}
use Rattle.std.proofs.lemmas.List.Splits.{slice_split_first, slice_split_none, slice_split_at}
use Rattle.std.proofs.lemmas.List.Sums.{fails_before_first, passes_at_first}
use Rattle.std.proofs.lemmas.List.{take_more, get_or-take, length-take}
use Rattle.std.proofs.lemmas.List.Elements.{All-from_get_or}
use Rattle.std.proofs.lemmas.Bool.Decides.{nat_tests}

abbrev is_end : ℕ → Bool
is_end b = eqb b 10

-- an index that `position` finds is the first place, and lies inside
found : (p : ℕ → Bool) (xs : List ℕ) (i : ℕ) → Some i ≡ position p xs → (i ≡ position_or_len p xs) × (i < length xs)
found p xs i e =
    let P : Bool → Type 0 = λ b. ltb (position_or_len p xs) (length xs) ≡ b → Some i ≡ cond b (Some (position_or_len p xs)) None → (i ≡ position_or_len p xs) × (i < length xs) in
    (elim (ltb (position_or_len p xs) (length xs)) as P [
      | true ↦ λ inside h. let same : i ≡ position_or_len p xs = cc in (same, rw same (grind (arith, nat_tests)))
      | false ↦ λ _ h. absurd (let none : Some i ≡ None = h in cc)
    ]) refl e

-- where `position` finds none, the first place is the end
missing : (p : ℕ → Bool) (xs : List ℕ) → None ≡ position p xs → length xs ≤ position_or_len p xs
missing p xs e =
    let P : Bool → Type 0 = λ b. ltb (position_or_len p xs) (length xs) ≡ b → None ≡ cond b (Some (position_or_len p xs)) None → length xs ≤ position_or_len p xs in
    (elim (ltb (position_or_len p xs) (length xs)) as P [
      | true ↦ λ _ h. absurd (let some : None ≡ Some (position_or_len p xs) = h in cc)
      | false ↦ λ past h. grind (arith, nat_tests)
    ]) refl e

-- a split always gives a part
first_part : (xs : List ℕ) → (x : List ℕ) × (more : List (List ℕ)) × (slice_split is_end xs ≡ x ∷ more)
first_part [] = ([], [], refl)
first_part (x ∷ xs) =
    let rest = first_part xs in
    elim (is_end x) as (λ b. (y : List ℕ) × (more : List (List ℕ)) × (cond b ([] ∷ slice_split is_end xs) (onto_first x (slice_split is_end xs)) ≡ y ∷ more)) [
      | true ↦ ([], slice_split is_end xs, refl)
      | false ↦ (x ∷ rest.0, rest.1, rw rest.2 refl)
    ]

-- the lines of a text with an LF
lines_at_first : (xs : List ℕ) → position_or_len is_end xs < length xs →
    lines xs ≡ strip_carriage_return (take (position_or_len is_end xs) xs) ∷ lines (after_first is_end xs)
lines_at_first xs inside =
    let rest = first_part (after_first is_end xs) in
    rw (slice_split_first is_end xs 0 inside, rest.2) refl

pub lines-ended : (xs : List ℕ) (end : ℕ) → Some end ≡ position is_end xs →
    lines xs ≡ strip_carriage_return (take end xs) ∷ lines (drop (end + 1) xs)
lines-ended xs end e = let at = found is_end xs end e in rw at.0 (lines_at_first xs (rw (← at.0) at.1))

-- the one line of a text without LF
pub lines-unended : (xs : List ℕ) → 0 < length xs → None ≡ position is_end xs → lines xs ≡ xs ∷ []
lines-unended [] some e = absurd (omega arith)
lines-unended (x ∷ xs) some e =
    let past = missing is_end (x ∷ xs) e in
    let none : All (λ b. is_end b ≡ false) (x ∷ xs) =
    All-from_get_or (λ b. is_end b ≡ false) (x ∷ xs) 0 (λ i lt. fails_before_first is_end (x ∷ xs) i 0 (omega (arith, lt, past))) in
    let not_empty : eqb (length (x ∷ xs)) 0 ≡ false = grind (arith, nat_tests) in
    rw (slice_split_none is_end (x ∷ xs) none, not_empty) refl

-- ---- a line with its end, before other bytes

line_at : (front more : List ℕ) → All (λ b. is_end b ≡ false) front → lines (front ++ 10 ∷ more) ≡ strip_carriage_return front ∷ lines more
line_at front more none =
    let rest = first_part more in
    rw (slice_split_at is_end front 10 more none refl, rest.2) refl

ten : (b : ℕ) → is_end b ≡ true → b ≡ 10
ten b e = grind (arith, nat_tests)

whole_at : (xs more : List ℕ) → position_or_len is_end xs < length xs →
    lines (take (position_or_len is_end xs + 1) xs ++ more) ≡ strip_carriage_return (take (position_or_len is_end xs) xs) ∷ lines more
whole_at xs more lt =
    let byte = ten _ (passes_at_first is_end xs 0 lt) in
    let front : All (λ b. is_end b ≡ false) (take (position_or_len is_end xs) xs) = All-from_get_or (λ b. is_end b ≡ false) (take (position_or_len is_end xs) xs) 0
    (λ i below. let near : i < position_or_len is_end xs = omega (arith, below, length-take (position_or_len is_end xs) xs) in rw (get_or-take (position_or_len is_end xs) xs i 0 near) (fails_before_first is_end xs i 0 near)) in
    rw (take_more xs (position_or_len is_end xs) 0 lt, byte, append_assoc (take (position_or_len is_end xs) xs) (10 ∷ []) more) (line_at (take (position_or_len is_end xs) xs) more front)

pub lines-take_ended : (xs : List ℕ) (end : ℕ) → Some end ≡ position is_end xs → (more : List ℕ) →
    lines (take (end + 1) xs ++ more) ≡ strip_carriage_return (take end xs) ∷ lines more
lines-take_ended xs end e more = let at = found is_end xs end e in rw at.0 (whole_at xs more (rw (← at.0) at.1))
