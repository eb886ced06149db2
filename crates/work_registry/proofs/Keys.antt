use Rattle.std.proofs.Common.{◌≡◌, Bool, true, false, ◌&&◌, refl, sym, ap, ◌∙◌, true≢false}
use Rattle.std.specs.Str.{bytes_eq}
use Rattle.std.specs.Cmp.{both_ways}
use Rattle.std.proofs.lemmas.Slice.Eq.{bytes_eq-Decides}
use Rattle.work_registry.specs.declared.key.Key.{Key}
use Rattle.work_registry.specs.Rows.{same_key}

pub same_key-true : (a b : Key) → same_key a b ≡ true → a ≡ b
same_key-true a b e = by (bytes_eq a.submitter b.submitter) refl (bytes_eq a.number b.number) refl e
  where
    by : (s : Bool) → bytes_eq a.submitter b.submitter ≡ s → (t : Bool) → bytes_eq a.number b.number ≡ t → (s && t) ≡ true → a ≡ b
    by true p true q e =
        let x : a.submitter ≡ b.submitter = (bytes_eq-Decides _ _).0 p in
        let y : a.number ≡ b.number = (bytes_eq-Decides _ _).0 q in
        let f : Key = record { submitter = b.submitter; number = a.number } in
        let one : a ≡ f = ap (λ s. record { submitter = s; number = a.number }) x in
        let two : f ≡ b = ap (λ n. record { submitter = b.submitter; number = n }) y in
        one ∙ two
    by true p false q e = absurd (true≢false (sym e))
    by false p t q e = absurd (true≢false (sym e))

pub same_key-refl : (k : Key) → same_key k k ≡ true
same_key-refl k =
    let x : bytes_eq k.submitter k.submitter ≡ true = (bytes_eq-Decides k.submitter k.submitter).1 refl in
    let y : bytes_eq k.number k.number ≡ true = (bytes_eq-Decides k.number k.number).1 refl in
    rw (x, y) refl

pub same_key-from : (a b : Key) → a ≡ b → same_key a b ≡ true
same_key-from a b e = ap (λ x. same_key a x) (sym e) ∙ same_key-refl a

pub same_key-sym : (a b : Key) → same_key a b ≡ same_key b a
same_key-sym a b =
    both_ways (same_key a b) (same_key b a) (λ e. same_key-from b a (sym (same_key-true a b e))) (λ e. same_key-from a b (sym (same_key-true b a e)))
