-- The first entry of a list, by the place of its end.
use Rattle.std.proofs.Common.{◌≡◌, ℕ, ◌+◌, ◌<◌, ◌≤◌, eqb, ltb, Bool, true, false, cond, List, [], ◌∷◌, length, take, drop, Some, None, All, arith, refl}
use Rattle.std.specs.List.{slice_split, position, position_or_len, onto_first, after_first}
use Rattle.std.proofs.lemmas.List.Splits.{slice_split_first, slice_split_none}
use Rattle.std.proofs.lemmas.List.Sums.{fails_before_first}
use Rattle.std.proofs.lemmas.List.Elements.{All-from_get_or}
use Rattle.std.proofs.lemmas.Bool.Decides.{nat_tests}
use Rattle.file_lists.specs.FileList.{entries}

module _ (end : ℕ) where
  abbrev is_end : ℕ → Bool
  is_end byte = eqb byte end

  -- a split has a first part
  first_part : (text : List ℕ) → (part : List ℕ) × (parts : List (List ℕ)) × (slice_split is_end text ≡ part ∷ parts)
  first_part [] = ([], [], refl)
  first_part (byte ∷ bytes) =
      let rest = first_part bytes in
      elim (is_end byte) as (λ b. (part : List ℕ) × (parts : List (List ℕ)) × (cond b ([] ∷ slice_split is_end bytes) (onto_first byte (slice_split is_end bytes)) ≡ part ∷ parts)) [
        | true ↦ ([], slice_split is_end bytes, refl)
        | false ↦ (byte ∷ rest.0, rest.1, rw rest.2 refl)
      ]

  at_first : (text : List ℕ) → position_or_len is_end text < length text → entries end text ≡ take (position_or_len is_end text) text ∷ entries end (after_first is_end text)
  at_first text inside =
      let rest = first_part (after_first is_end text) in
      rw (slice_split_first is_end text 0 inside, rest.2) refl

  -- what stands before the first end is the first entry
  pub entries-ended : (text : List ℕ) (at : ℕ) → Some at ≡ position is_end text → entries end text ≡ take at text ∷ entries end (drop (at + 1) text)
  entries-ended text at e =
      let P : Bool → Type 0 = λ b. ltb (position_or_len is_end text) (length text) ≡ b → Some at ≡ cond b (Some (position_or_len is_end text)) None → entries end text ≡ take at text ∷ entries end (drop (at + 1) text) in
      (elim (ltb (position_or_len is_end text) (length text)) as P [
        | true ↦ λ inside h. let same : at ≡ position_or_len is_end text = cc in rw same (at_first text (grind (arith, nat_tests)))
        | false ↦ λ _ h. absurd (let none : Some at ≡ None = h in cc)
      ]) refl e

  no_end : (text : List ℕ) → None ≡ position is_end text → length text ≤ position_or_len is_end text
  no_end text e =
      let P : Bool → Type 0 = λ b. ltb (position_or_len is_end text) (length text) ≡ b → None ≡ cond b (Some (position_or_len is_end text)) None → length text ≤ position_or_len is_end text in
      (elim (ltb (position_or_len is_end text) (length text)) as P [
        | true ↦ λ _ h. absurd (let some : None ≡ Some (position_or_len is_end text) = h in cc)
        | false ↦ λ past h. grind (arith, nat_tests)
      ]) refl e

  -- a list without an end is one entry
  pub entries-unended : (text : List ℕ) → 0 < length text → None ≡ position is_end text → entries end text ≡ text ∷ []
  entries-unended [] some e = absurd (omega arith)
  entries-unended (byte ∷ bytes) some e =
      let past = no_end (byte ∷ bytes) e in
      let none : All (λ b. is_end b ≡ false) (byte ∷ bytes) =
      All-from_get_or (λ b. is_end b ≡ false) (byte ∷ bytes) 0 (λ i lt. fails_before_first is_end (byte ∷ bytes) i 0 (omega (arith, lt, past))) in
      let not_empty : eqb (length (byte ∷ bytes)) 0 ≡ false = grind (arith, nat_tests) in
      rw (slice_split_none is_end (byte ∷ bytes) none, not_empty) refl
