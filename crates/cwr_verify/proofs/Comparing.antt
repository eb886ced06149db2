-- A text that is compared while it is written: what was taken, and where the two differ.
use Rattle.std.proofs.Common.{◌≡◌, ◌≢◌, ◌∙◌, inl, inr, ℕ, zero, suc, ◌+◌, ◌<◌, ◌≤◌, true, false, List, [], ◌∷◌, ◌++◌, length, take, drop, get_or, Option, Some, None, refl, sym, ap, subst, arith, append_assoc, append-nil}
use Rattle.std.specs.Prelude.{IfSome, IsSome, IsTrue, ◌==◌, count_by, is_some, slice_get}
use Rattle.std.proofs.lemmas.Bool.{cases_lt}
use Rattle.std.proofs.lemmas.List.{drop_at, drop-take, length-take-le, take_all, take_at, take-append-drop, take-take}
use Rattle.std.proofs.lemmas.Option.{slice_get_past, slice_get-get_or}
use Rattle.cwr_verify.specs.Compared.{Compared, DiffersAt, IsComparing, IsDifference, IsUnlike, taken_of, written_as, written_in}
use Rattle.cwr_verify.specs.declared.verify_error.VerifyError.{VerifyError}

-- ---- what was taken

-- the expected text, and what was written, where more was taken
pub record HasWritten (now : Compared) (expected written : List ℕ) : Type 0 where
  pub expects : now.expected ≡ expected
  pub wrote : written_in now ≡ written

pub has_written : (before now : Compared) (expected written : List ℕ) → before ≡ record { expected = expected; same = 0; other = None; failed = false }
    → taken_of now ≡ taken_of before ++ written → HasWritten now expected written
has_written before now expected written began is =
    let both : length now.expected ∷ (now.expected ++ written_in now) ≡ length expected ∷ (expected ++ written) =
    is ∙ (ap (λ (c : Compared). taken_of c ++ written) began ∙ ap (λ (l : List ℕ). length expected ∷ (l ++ written)) (append-nil expected)) in
    let size : length now.expected ≡ length expected = cc in
    let all : now.expected ++ written_in now ≡ expected ++ written = cc in
    record {
      expects = sym (take_at now.expected (written_in now) (length expected) size) ∙ (ap (take (length expected)) all ∙ take_at expected written (length expected) refl);
      wrote = sym (drop_at now.expected (written_in now) (length expected) size) ∙ (ap (drop (length expected)) all ∙ drop_at expected written (length expected) refl);
    }

no_other : (other : Option ℕ) → is_some other ≡ false → other ≡ None
no_other None is = refl
no_other (Some byte) is = absurd (let differ : true ≡ false = is in cc)

more : (expected : List ℕ) (before after bytes : List ℕ) → after ≡ before ++ bytes → (length expected ∷ (expected ++ after)) ≡ (length expected ∷ (expected ++ before)) ++ bytes
more expected before after bytes is =
    ap (λ (l : List ℕ). length expected ∷ (expected ++ l)) is ∙ ap (λ (l : List ℕ). length expected ∷ l) (sym (append_assoc expected before bytes))

further : (text bytes : List ℕ) (at n : ℕ) → take n bytes ≡ take n (drop at text) → take (at + n) text ≡ take at text ++ take n bytes
further text bytes at n is =
    sym (take-append-drop at (take (at + n) text)) ∙ (λ i. take-take at (at + n) text (omega arith) i ++ (drop-take at n text ∙ sym is) i)

-- bytes more as expected
pub same_more : (expected bytes : List ℕ) (at n : ℕ) (other : Option ℕ) → is_some other ≡ false → take n bytes ≡ take n (drop at expected)
    → (length expected ∷ (expected ++ written_as (take (at + n) expected) other)) ≡ (length expected ∷ (expected ++ written_as (take at expected) other)) ++ take n bytes
same_more expected bytes at n other none is =
    subst (λ (o : Option ℕ). (length expected ∷ (expected ++ written_as (take (at + n) expected) o)) ≡ (length expected ∷ (expected ++ written_as (take at expected) o)) ++ take n bytes)
    (sym (no_other other none)) (more expected (take at expected) (take (at + n) expected) (take n bytes) (further expected bytes at n is))

-- ---- where the texts differ

not_there : (expected rest : List ℕ) (byte same : ℕ) → same ≤ length expected → slice_get (take same expected ++ byte ∷ rest) same ≡ Some byte
not_there expected rest byte zero within = refl
not_there [] rest byte (suc same) within = absurd (omega (arith, within))
not_there (x ∷ expected) rest byte (suc same) within = not_there expected rest byte same (omega (arith, within))

module _ (expected text : List ℕ) (same line : ℕ) (within : same ≤ length expected) (counted : line ≡ count_by (λ byte. byte == 10) (take same expected) + 1) where
  size : length (take same expected) ≡ same
  size = length-take-le same expected within

  -- a byte is another
  by_other : (byte : ℕ) (rest : List ℕ) → slice_get expected same ≢ Some byte → text ≡ take same expected ++ byte ∷ rest → DiffersAt expected text line
  by_other byte rest unlike is = record {
    same = same;
    front = sym (ap (take same) is ∙ take_at (take same expected) (byte ∷ rest) same size);
    differs = λ alike. unlike (alike ∙ (ap (λ (l : List ℕ). slice_get l same) is ∙ not_there expected rest byte same within));
    counted = counted;
  }

  -- the text has ended
  by_end : text ≡ take same expected → take same expected ≢ expected → DiffersAt expected text line
  by_end is unlike = record {
    same = same;
    front = sym (ap (take same) is ∙ take-take same same expected (omega arith));
    differs = λ alike. absurd (let past : slice_get text same ≡ None = slice_get_past text same (omega (arith, ap length is, size)) in
        let there : slice_get expected same ≡ Some (get_or expected same 0) = slice_get-get_or expected same 0 more_left in
        let differ : Some (get_or expected same 0) ≡ None = sym there ∙ (alike ∙ past) in cc);
    counted = counted;
  } where
    more_left : same < length expected
    more_left = elim (cases_lt same (length expected)) [
      | inl lt ↦ lt
      | inr le ↦ absurd (unlike (take_all same expected le))
    ]

  by_written : (other : Option ℕ) → IfSome other (λ byte. slice_get expected same ≢ Some byte) → written_as (take same expected) other ≡ text
      → written_as (take same expected) other ≢ expected → DiffersAt expected text line
  by_written None unlike is other = by_end (sym is) other
  by_written (Some byte) unlike is other = by_other byte [] unlike (sym is)

  by_failed : (other : Option ℕ) (n : ℕ) → IsSome other → IfSome other (λ byte. slice_get expected same ≢ Some byte) → written_as (take same expected) other ≡ take n text
      → DiffersAt expected text line
  by_failed None n some unlike is = absurd (let none : false ≡ true = some in cc)
  by_failed (Some byte) n some unlike is =
      by_other byte (drop n text) unlike (sym (take-append-drop n text) ∙ (ap (λ (l : List ℕ). l ++ drop n text) (sym is) ∙ append_assoc (take same expected) (byte ∷ []) (drop n text)))

pub unlike_at : (now : Compared) (text : List ℕ) (line : ℕ) → IsComparing now → line ≡ count_by (λ byte. byte == 10) (take now.same now.expected) + 1 → IsUnlike now text
    → DiffersAt now.expected text line
unlike_at now text line is counted (inl written) = by_written now.expected text now.same line is.within counted now.other is.other written.0 written.1
unlike_at now text line is counted (inr failed) = by_failed now.expected text now.same line is.within counted now.other failed.0 (is.behind failed.2) is.other failed.1

-- the same of the text that was expected
pub differs_from : (number : ℕ) (now : Compared) (expected made text : List ℕ) (told : VerifyError) → now.expected ≡ expected → made ≡ text
    → IsDifference number now.expected made told → IsDifference number expected text told
differs_from number now expected made text told expects same is =
    subst (λ (l : List ℕ). IsDifference number expected l told) same (subst (λ (l : List ℕ). IsDifference number l made told) expects is)

pub is_not_true : IsTrue false → ⊥
is_not_true is = let differ : false ≡ true = is in absurd cc
