-- The first fault that the program computes is the least of all faults, and there is one only.
use Rattle.std.proofs.Common.{◌≡◌, ℕ, ◌+◌, ◌≤◌, ◌<◌, ltb, Bool, true, false, not, ◌&&◌, cond, List, [], ◌∷◌, length, map, Option, Some, None, arith, refl, sym, ap, ◌∙◌, inl, inr}
use Rattle.std.proofs.lemmas.Bool.Decides.{nat_tests}
use Rattle.cwr_grammar.specs.Roles.{role_of}
use Rattle.cwr_grammar.specs.Before.{is_nil}
use Rattle.cwr_grammar.specs.FaultTests.{is_headless, is_malformed, is_misplaced, is_foreign, is_mixed, is_misnumbered_group, is_misnumbered, is_miscounted_group, is_miscounted_file, is_after_end, is_tail, has_control, is_long, rows_of, rows_at_end}
use Rattle.cwr_grammar.specs.FirstFault.{fault_at_end, at_line, or_else, or_number, line_fault, first_fault_after}
use Rattle.cwr_record.specs.FaultOrder.{IsNoLater}
use Rattle.cwr_grammar.specs.Faults.{numbers, Has, HasFault, IsFault, IsLeastFault}
use Rattle.cwr_field.proofs.lemmas.Tests.{parts}

-- the first of the numbers
abbrev first_of : List (ℕ × Bool) → Option ℕ
first_of [] = None
first_of ((n, holds) ∷ rest) = cond holds (Some n) (first_of rest)

-- every number is at least n
abbrev from : ℕ → List (ℕ × Bool) → Bool
from n [] = true
from n ((m, holds) ∷ rest) = not (ltb m n) && from m rest

abbrev rising : List (ℕ × Bool) → Bool
rising [] = true
rising ((n, holds) ∷ rest) = from n rest

pub record LeastOf (n : ℕ) (ns : List ℕ) : Type 0 where
  pub has : Has n ns
  pub least : (m : ℕ) → Has m ns → n ≤ m

at_least : (m n : ℕ) → not (ltb m n) ≡ true → n ≤ m
at_least m n e = grind (arith, nat_tests)

all_from : (n : ℕ) (rest : List (ℕ × Bool)) → from n rest ≡ true → (m : ℕ) → Has m (numbers rest) → n ≤ m
all_from n [] e m h = absurd h
all_from n ((k, true) ∷ rest) e m (inl same) = let low = at_least k n (parts (not (ltb k n)) (from k rest) e).0 in omega (arith, low, same)
all_from n ((k, true) ∷ rest) e m (inr later) =
    let low = at_least k n (parts (not (ltb k n)) (from k rest) e).0 in
    let more = all_from k rest (parts (not (ltb k n)) (from k rest) e).1 m later in
    omega (arith, low, more)
all_from n ((k, false) ∷ rest) e m h =
    let low = at_least k n (parts (not (ltb k n)) (from k rest) e).0 in
    let more = all_from k rest (parts (not (ltb k n)) (from k rest) e).1 m h in
    omega (arith, low, more)

weaker : (n : ℕ) (rest : List (ℕ × Bool)) → from n rest ≡ true → rising rest ≡ true
weaker n [] e = refl
weaker n ((m, holds) ∷ rest) e = (parts (not (ltb m n)) (from m rest) e).1

some_is : (m n : ℕ) → Some m ≡ Some n → m ≡ n
some_is m n e = cc

least_here : (k n : ℕ) (rest : List (ℕ × Bool)) → from k rest ≡ true → k ≡ n → (m : ℕ) → Has m (k ∷ numbers rest) → n ≤ m
least_here k n rest up same m (inl here) = omega (arith, same, here)
least_here k n rest up same m (inr later) = omega (arith, same, all_from k rest up m later)

least_of : (list : List (ℕ × Bool)) (n : ℕ) → rising list ≡ true → first_of list ≡ Some n → LeastOf n (numbers list)
least_of [] n up e = absurd cc
least_of ((k, true) ∷ rest) n up e =
    let same : k ≡ n = some_is k n e in
    record { has = inl (sym same); least = least_here k n rest up same }
least_of ((k, false) ∷ rest) n up e = least_of rest n (weaker k rest up) e

none_of : (list : List (ℕ × Bool)) (n : ℕ) → first_of list ≡ None → Has n (numbers list) → ⊥
none_of [] n e h = h
none_of ((k, true) ∷ rest) n e h = absurd cc
none_of ((k, false) ∷ rest) n e h = none_of rest n e h

-- the tests one after another are the first of the rows
chain : (a h c l t x3 x4 x5 x6 x7 x8 x9 x10 : Bool)
    → cond a (cond t None (Some 11)) (cond h (Some 1) (cond c (Some 2) (or_number (cond a (Some 11) (cond h (Some 1) (cond x3 (Some 3) (cond x4 (Some 4) (cond x5 (Some 5) (cond x6 (Some 6) (cond x7 (Some 7) (cond x8 (Some 8) (cond x9 (Some 9) (cond x10 (Some 10) None)))))))))) (cond l (Some 12) None))))
    ≡ first_of ((1, not a && h) ∷ (2, not a && c) ∷ (3, not a && x3) ∷ (4, not a && x4) ∷ (5, not a && x5) ∷ (6, not a && x6) ∷ (7, not a && x7) ∷ (8, not a && x8) ∷ (9, not a && x9) ∷ (10, not a && x10) ∷ (11, a && not t) ∷ (12, not a && l) ∷ [])
chain true h c l true x3 x4 x5 x6 x7 x8 x9 x10 = refl
chain true h c l false x3 x4 x5 x6 x7 x8 x9 x10 = refl
chain false true c l t x3 x4 x5 x6 x7 x8 x9 x10 = refl
chain false false true l t x3 x4 x5 x6 x7 x8 x9 x10 = refl
chain false false false l t true x4 x5 x6 x7 x8 x9 x10 = refl
chain false false false l t false true x5 x6 x7 x8 x9 x10 = refl
chain false false false l t false false true x6 x7 x8 x9 x10 = refl
chain false false false l t false false false true x7 x8 x9 x10 = refl
chain false false false l t false false false false true x8 x9 x10 = refl
chain false false false l t false false false false false true x9 x10 = refl
chain false false false l t false false false false false false true x10 = refl
chain false false false l t false false false false false false false true = refl
chain false false false l t false false false false false false false false = refl

line_rows : (before : List (List ℕ)) (line : List ℕ) → line_fault before line ≡ first_of (rows_of before line)
line_rows before line =
    chain (is_after_end before) (is_headless (map role_of before) (role_of line)) (has_control line) (is_long line) (is_tail line)
    (is_malformed (map role_of before) (role_of line)) (is_misplaced (map role_of before) (role_of line)) (is_foreign (role_of line)) (is_mixed (map role_of before) (role_of line)) (is_misnumbered_group (map role_of before) (role_of line))
    (is_misnumbered (map role_of before) (role_of line)) (is_miscounted_group (map role_of before) (role_of line)) (is_miscounted_file (map role_of before) (role_of line))

end_chain : (a b : Bool) → cond a (Some 1) (cond b None (Some 11)) ≡ first_of ((1, a) ∷ (11, not b) ∷ [])
end_chain true b = refl
end_chain false true = refl
end_chain false false = refl

end_rows : (before : List (List ℕ)) → fault_at_end (map role_of before) ≡ first_of (rows_at_end before)
end_rows before = end_chain (is_nil (map role_of before)) (is_after_end before)

abbrev line_in : Option (ℕ × ℕ) → ℕ
line_in None = 0
line_in (Some x) = x.0

abbrev number_in : Option (ℕ × ℕ) → Option ℕ
number_in None = None
number_in (Some x) = Some x.1

at_is : (p k n : ℕ) (o : Option ℕ) → at_line p o ≡ Some (k, n) → (k ≡ p) × (o ≡ Some n)
at_is p k n None e = absurd cc
at_is p k n (Some m) e = (sym (ap line_in e), ap number_in e)

later : (text before : List (List ℕ)) (j m : ℕ) → HasFault j m before text → length before < j
later [] before j m h = omega (arith, h.0)
later (line ∷ rest) before j m (inl h) = omega (arith, h.0)
later (line ∷ rest) before j m (inr h) = omega (arith, later rest (line ∷ before) j m h)

pub record LeastFrom (before text : List (List ℕ)) (k n : ℕ) : Type 0 where
  pub has : HasFault k n before text
  pub least : (j m : ℕ) → HasFault j m before text → IsNoLater k n j m

no_later_here : (rest before : List (List ℕ)) (line : List ℕ) (k n : ℕ) → k ≡ length before + 1 → ((m : ℕ) → Has m (numbers (rows_of before line)) → n ≤ m) → (j m : ℕ) → HasFault j m before (line ∷ rest) → IsNoLater k n j m
no_later_here rest before line k n e least j m (inl h) = inr (e ∙ sym h.0, least m h.1)
no_later_here rest before line k n e least j m (inr h) = inl (omega (arith, e, later rest (line ∷ before) j m h))

no_later_after : (rest before : List (List ℕ)) (line : List ℕ) (k n : ℕ) → ((m : ℕ) → Has m (numbers (rows_of before line)) → ⊥) → ((j m : ℕ) → HasFault j m (line ∷ before) rest → IsNoLater k n j m)
    → (j m : ℕ) → HasFault j m before (line ∷ rest) → IsNoLater k n j m
no_later_after rest before line k n none least j m (inl h) = absurd (none m h.1)
no_later_after rest before line k n none least j m (inr h) = least j m h

least_at : (rest before : List (List ℕ)) (line : List ℕ) (k n : ℕ) (o : Option ℕ) → line_fault before line ≡ o → or_else (at_line (length before + 1) o) (first_fault_after (line ∷ before) rest) ≡ Some (k, n)
    → (first_fault_after (line ∷ before) rest ≡ Some (k, n) → LeastFrom (line ∷ before) rest k n) → LeastFrom before (line ∷ rest) k n
least_at rest before line k n None is e more =
    let after = more e in
    record {
      has = inr after.has;
      least = no_later_after rest before line k n (λ m h. none_of (rows_of before line) m (sym (line_rows before line) ∙ is) h) after.least;
    }
least_at rest before line k n (Some m) is e more =
    let a = at_is (length before + 1) k n (Some m) e in
    let l = least_of (rows_of before line) n refl (sym (line_rows before line) ∙ is ∙ a.1) in
    record { has = inl (a.0, l.has); least = no_later_here rest before line k n a.0 l.least }

least_from : (text before : List (List ℕ)) (k n : ℕ) → first_fault_after before text ≡ Some (k, n) → LeastFrom before text k n
least_from [] before k n e =
    let a = at_is (length before + 1) k n (fault_at_end (map role_of before)) e in
    let l = least_of (rows_at_end before) n refl (sym (end_rows before) ∙ a.1) in
    record { has = (a.0, l.has); least = λ j m h. inr (a.0 ∙ sym h.0, l.least m h.1) }
least_from (line ∷ rest) before k n e = least_at rest before line k n (line_fault before line) refl e (λ more. least_from rest (line ∷ before) k n more)

pub first_is_least : (text : List (List ℕ)) (k n : ℕ) → first_fault_after [] text ≡ Some (k, n) → IsLeastFault text k n
first_is_least text k n e = let l = least_from text [] k n e in record { has = l.has; least = l.least }

-- ---- no first fault, no fault

none_at : (rest before : List (List ℕ)) (line : List ℕ) (o : Option ℕ) → line_fault before line ≡ o → or_else (at_line (length before + 1) o) (first_fault_after (line ∷ before) rest) ≡ None
    → (first_fault_after (line ∷ before) rest ≡ None → (j m : ℕ) → HasFault j m (line ∷ before) rest → ⊥) → (j m : ℕ) → HasFault j m before (line ∷ rest) → ⊥
none_at rest before line (Some n) is e more j m h = absurd cc
none_at rest before line None is e more j m (inl h) = none_of (rows_of before line) m (sym (line_rows before line) ∙ is) h.1
none_at rest before line None is e more j m (inr h) = more e j m h

none_at_end : (before : List (List ℕ)) (k : ℕ) (o : Option ℕ) → fault_at_end (map role_of before) ≡ o → at_line k o ≡ None → (m : ℕ) → Has m (numbers (rows_at_end before)) → ⊥
none_at_end before k (Some n) is e m h = absurd cc
none_at_end before k None is e m h = none_of (rows_at_end before) m (sym (end_rows before) ∙ is) h

none_from : (text before : List (List ℕ)) → first_fault_after before text ≡ None → (j m : ℕ) → HasFault j m before text → ⊥
none_from [] before e j m h = none_at_end before (length before + 1) (fault_at_end (map role_of before)) refl e m h.1
none_from (line ∷ rest) before e j m h = none_at rest before line (line_fault before line) refl e (λ more. none_from rest (line ∷ before) more) j m h

pub no_fault_at_all : (text : List (List ℕ)) → first_fault_after [] text ≡ None → (j m : ℕ) → IsFault text j m → ⊥
no_fault_at_all text e j m h = none_from text [] e j m h

-- ---- one least fault

same_place : (k n j m : ℕ) → IsNoLater k n j m → IsNoLater j m k n → (k ≡ j) × (n ≡ m)
same_place k n j m (inl h) (inl i) = absurd (omega arith)
same_place k n j m (inl h) (inr i) = absurd (omega (arith, i.0))
same_place k n j m (inr h) (inl i) = absurd (omega (arith, h.0))
same_place k n j m (inr h) (inr i) = (h.0, omega (arith, h.1, i.1))

pub one_least : (text : List (List ℕ)) (k n j m : ℕ) → IsLeastFault text k n → IsLeastFault text j m → (k ≡ j) × (n ≡ m)
one_least text k n j m h i = same_place k n j m (h.least j m i.has) (i.least k n h.has)
