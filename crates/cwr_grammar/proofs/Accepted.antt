-- Lines without a fault are those of an envelope.
use Rattle.std.proofs.Common.{◌≡◌, ℕ, suc, ◌+◌, Bool, true, false, ◌&&◌, not, cond, List, [], ◌∷◌, ◌++◌, length, Option, Some, None, arith, refl, sym, ap, ◌∙◌, map, append_assoc}
use Rattle.std.proofs.lemmas.Bool.Decides.{nat_tests}
use Rattle.std.proofs.Math.Bool.{and-false}
use Rattle.std.proofs.lemmas.Bool.{not-false}
use Rattle.std.specs.List.{list_any, range_with_len}
use Rattle.cwr_grammar.proofs.Enveloped.{Group, transactions_from, size, all_transactions_of, all_lines_of, groups_from, envelope, first_role_fault}
use Rattle.cwr_grammar.specs.Before.{in_group, in_transaction, group_kind, groups, transactions, all_transactions, group_lines, transaction_lines, is_file_trailer, is_nil}
use Rattle.cwr_grammar.specs.FaultTests.{is_number, option_next, same_kind, is_foreign}
use Rattle.cwr_grammar.specs.FirstFault.{role_fault, fault_at_end, at_line, or_else}
use Rattle.cwr_grammar.specs.declared.role.Role.{Role}
use Rattle.cwr_grammar.specs.declared.role.Role.TheVariants.{FileHeader, GroupHeader, TransactionHeader, Detail, GroupTrailer, FileTrailer, Unnamed}
use Rattle.cwr_record.specs.declared.works.WorkKind.{WorkKind}
use Rattle.cwr_record.specs.declared.works.WorkKind.TheVariants.{Nwr, Rev}

-- neither of two faults
pub split : (k : ℕ) (n : Option ℕ) (other : Option (ℕ × ℕ)) → or_else (at_line k n) other ≡ None → (n ≡ None) × (other ≡ None)
split k None other e = (refl, e)
split k (Some n) other e = absurd cc

-- no fault from here on
pub clear_step : (before rest : List Role) (line : Role) → first_role_fault before (line ∷ rest) ≡ None → (role_fault before line ≡ None) × (first_role_fault (line ∷ before) rest ≡ None)
clear_step before rest line e =
    split (length before + 1) (role_fault before line) (first_role_fault (line ∷ before) rest) e

-- what a test of an if-chain said
passes : (b : Bool) (n : ℕ) (other : Option ℕ) → cond b (Some n) other ≡ None → (b ≡ false) × (other ≡ None)
passes true n other e = absurd cc
passes false n other e = (refl, e)

both : (a b : Bool) → not (a && b) ≡ false → (a ≡ true) × (b ≡ true)
both true true e = (refl, refl)
both true false e = absurd cc
both false b e = absurd cc

number_is : (o : Option ℕ) (n : ℕ) → is_number o n ≡ true → o ≡ Some n
number_is None n e = absurd cc
number_is (Some m) n e = let h : m ≡ n = grind (arith, nat_tests) in ap (λ (k : ℕ). Some k) h

next_is : (o : Option ℕ) (n : ℕ) → is_number (option_next o) n ≡ true → (j : ℕ) × (o ≡ Some j) × (j + 1 ≡ n)
next_is None n e = absurd cc
next_is (Some m) n e = (m, refl, grind (arith, nat_tests))

kind_is : (a b : Option WorkKind) → same_kind a b ≡ true → a ≡ b
kind_is (Some Nwr) (Some Nwr) e = refl
kind_is (Some Rev) (Some Rev) e = refl
kind_is None None e = refl
kind_is (Some Nwr) (Some Rev) e = absurd cc
kind_is (Some Rev) (Some Nwr) e = absurd cc
kind_is None (Some b) e = absurd cc
kind_is (Some Nwr) None e = absurd cc
kind_is (Some Rev) None e = absurd cc

some_kind : (k : Option WorkKind) (g : Option ℕ) → is_foreign (GroupHeader k g) ≡ false → (a : WorkKind) × (k ≡ Some a)
some_kind None g e = absurd cc
some_kind (Some a) g e = (a, refl)

-- ---- what a line without a fault is

pub detail_is : (before : List Role) (t r : Option ℕ) → role_fault before (Detail t r) ≡ None
    → (in_group before ≡ true) × (in_transaction before ≡ true) × (j : ℕ) × (t ≡ Some j) × (j + 1 ≡ transactions before) × (r ≡ Some (length (transaction_lines before) + 1))
detail_is before t r e =
    let a = passes _ 11 _ e in
    let b = passes _ 1 _ a.1 in
    let c = passes _ 4 _ b.1 in
    let d = passes _ 8 _ c.1 in
    let place = both _ _ c.0 in
    let numbers = both _ _ d.0 in
    let next = next_is t (transactions before) numbers.0 in
    (place.0, place.1, next.0, next.1, next.2, number_is r _ numbers.1)

pub head_is : (before : List Role) (k : Option WorkKind) (t r : Option ℕ) → role_fault before (TransactionHeader k t r) ≡ None
    → (in_group before ≡ true) × (k ≡ group_kind before) × (t ≡ Some (transactions before)) × (r ≡ Some 0)
head_is before k t r e =
    let a = passes _ 11 _ e in
    let b = passes _ 1 _ a.1 in
    let c = passes _ 4 _ b.1 in
    let f = passes _ 6 _ c.1 in
    let d = passes _ 8 _ f.1 in
    let numbers = both _ _ d.0 in
    (not-false _ c.0, kind_is k (group_kind before) (not-false _ f.0), number_is t _ numbers.0, number_is r _ numbers.1)

some_none : {A : Type 0} (n : ℕ) → Some n ≡ None → A
some_none n e = absurd cc

-- the header of a kind that is not read has a fault
pub head_named : (before : List Role) (t r : Option ℕ) → role_fault before (TransactionHeader None t r) ≡ None → ⊥
head_named before t r e =
    let a = passes _ 11 _ e in
    let b = passes _ 1 _ a.1 in
    let c = passes _ 4 _ b.1 in
    some_none 6 c.1

-- HDR stands first
pub file_head_is : (before : List Role) (valid : Bool) → role_fault before (FileHeader valid) ≡ None → is_nil before ≡ true
file_head_is before valid e =
    let a = passes _ 11 _ e in
    let b = passes _ 1 _ a.1 in
    let m = passes _ 3 _ b.1 in
    let c = passes _ 4 _ m.1 in
    not-false _ c.0

pub unnamed_is : (before : List Role) → role_fault before Unnamed ≡ None → ⊥
unnamed_is before e =
    let a = passes _ 11 _ e in
    let b = passes _ 1 _ a.1 in
    some_none 3 b.1

pub group_head_is : (before : List Role) (k : Option WorkKind) (i : Option ℕ) → role_fault before (GroupHeader k i) ≡ None
    → (in_group before ≡ false) × (a : WorkKind) × (k ≡ Some a) × (i ≡ Some (groups before + 1))
group_head_is before k i e =
    let a = passes _ 11 _ e in
    let b = passes _ 1 _ a.1 in
    let c = passes _ 4 _ b.1 in
    let f = passes _ 5 _ c.1 in
    let d = passes _ 7 _ f.1 in
    let kind = some_kind k i f.0 in
    (c.0, kind.0, kind.1, number_is i _ (not-false _ d.0))

pub group_end_is : (before : List Role) (i t r : Option ℕ) → role_fault before (GroupTrailer i t r) ≡ None
    → (in_group before ≡ true) × (i ≡ Some (groups before)) × (t ≡ Some (transactions before)) × (r ≡ Some (length (group_lines before) + 2))
group_end_is before i t r e =
    let a = passes _ 11 _ e in
    let b = passes _ 1 _ a.1 in
    let c = passes _ 4 _ b.1 in
    let f = passes _ 7 _ c.1 in
    let d = passes _ 9 _ f.1 in
    let numbers = both _ _ d.0 in
    (not-false _ c.0, number_is i _ (not-false _ f.0), number_is t _ numbers.0, number_is r _ numbers.1)

three : (a b c : Bool) → not (a && b && c) ≡ false → (a ≡ true) × (b ≡ true) × (c ≡ true)
three true true true e = (refl, refl, refl)
three true true false e = absurd cc
three true false c e = absurd cc
three false b c e = absurd cc

pub file_end_is : (before : List Role) (g t r : Option ℕ) → role_fault before (FileTrailer g t r) ≡ None
    → (in_group before ≡ false) × (g ≡ Some (groups before)) × (t ≡ Some (all_transactions before)) × (r ≡ Some (length before + 1))
file_end_is before g t r e =
    let a = passes _ 11 _ e in
    let b = passes _ 1 _ a.1 in
    let c = passes _ 4 _ b.1 in
    let d = passes _ 10 _ c.1 in
    let numbers = three _ _ _ d.0 in
    (c.0, number_is g _ numbers.0, number_is t _ numbers.1, number_is r _ numbers.2)

-- after the end of the file nothing stands
nothing_more : (before rest : List Role) → list_any is_file_trailer before ≡ true → first_role_fault before rest ≡ None → rest ≡ []
nothing_more before [] ended e = refl
nothing_more before (line ∷ rest) ended e =
    let here = (clear_step before rest line e).0 in
    let bad : role_fault before line ≡ Some 11 = rw ended refl in
    absurd (let h : Some 11 ≡ None = sym bad ∙ here in cc)

-- ---- what is left to read

abbrev pub details_from : ℕ → ℕ → ℕ → List Role
details_from j d n = map (λ x. Detail (Some j) (Some x)) (range_with_len d n)

-- groups, and the end of the file: after g groups with a transactions, in l lines
abbrev FileRest : (g a l : ℕ) → List Role → Type 0
FileRest g a l lines =
    (gs : List Group) × (lines ≡ groups_from (g + 1) gs ++ FileTrailer (Some (g + length gs)) (Some (a + all_transactions_of gs)) (Some (l + all_lines_of gs + 1)) ∷ [])

-- transactions, and the end of the group: after t transactions of it, in m lines
abbrev GroupRest : WorkKind → (g a l t m : ℕ) → List Role → Type 0
GroupRest k g a l t m lines =
    (ns : List ℕ) × (after : List Role) × (lines ≡ transactions_from k t ns ++ GroupTrailer (Some g) (Some (t + length ns)) (Some (m + size ns + 2)) ∷ after)
    × FileRest g (a + length ns) (l + size ns + 1) after

-- details of the transaction j, after d of them
abbrev TransactionRest : WorkKind → (j g a l m d : ℕ) → List Role → Type 0
TransactionRest k j g a l m d lines =
    (n : ℕ) × (more : List Role) × (lines ≡ details_from j (d + 1) n ++ more) × GroupRest k g a (l + n) (j + 1) (m + n) more

file_at : (g a l a' l' : ℕ) (lines : List Role) → a ≡ a' → l ≡ l' → FileRest g a l lines → FileRest g a' l' lines
file_at g a l a' l' lines p q h = rw (← p, ← q) h

group_at : (k : WorkKind) (g a l t m l' m' : ℕ) (lines : List Role) → l ≡ l' → m ≡ m' → GroupRest k g a l t m lines → GroupRest k g a l' t m' lines
group_at k g a l t m l' m' lines p q h = rw (← p, ← q) h

-- one detail more
detail_joins : (k : WorkKind) (j g a l m d : ℕ) (rest : List Role) → TransactionRest k j g a (suc l) (suc m) (suc d) rest → TransactionRest k j g a l m d (Detail (Some j) (Some (d + 1)) ∷ rest)
detail_joins k j g a l m d rest h =
    let e : suc d ≡ d + 1 = omega arith in
    (suc h.0, h.1, rw (h.2, e) refl, group_at k g a (suc l + h.0) (j + 1) (suc m + h.0) (l + suc h.0) (m + suc h.0) h.1 (omega arith) (omega arith) h.3)

-- one transaction more
head_joins : (k : WorkKind) (g a l t m : ℕ) (rest : List Role) → TransactionRest k t g (suc a) (suc l) (suc m) 0 rest → GroupRest k g a l t m (TransactionHeader (Some k) (Some t) (Some 0) ∷ rest)
head_joins k g a l t m rest (n, more, e, (ns, after, e2, file)) =
    let c1 : t + 1 + length ns ≡ t + suc (length ns) = omega arith in
    let c2 : suc m + n + size ns + 2 ≡ m + (n + 1 + size ns) + 2 = omega arith in (
      n ∷ ns,
      after,
      rw (e, e2, c1, c2) (ap (λ (x : List Role). TransactionHeader (Some k) (Some t) (Some 0) ∷ x) (sym (append_assoc (details_from t 1 n) (transactions_from k (t + 1) ns) (GroupTrailer (Some g) (Some (t + suc (length ns))) (Some (m + (n + 1 + size ns) + 2)) ∷ after)))),
      file_at g (suc a + length ns) (suc l + n + size ns + 1) (a + suc (length ns)) (l + (n + 1 + size ns) + 1) after (omega arith) (omega arith) file,
    )

-- the end of the group
end_joins : (k : WorkKind) (g a l t m : ℕ) (rest : List Role) → FileRest g a (suc l) rest → GroupRest k g a l t m (GroupTrailer (Some g) (Some t) (Some (m + 2)) ∷ rest)
end_joins k g a l t m rest file =
    let c1 : t + 0 ≡ t = omega arith in
    let c2 : m + 0 + 2 ≡ m + 2 = omega arith in
    ([], rest, rw (c1, c2) refl, file_at g a (suc l) (a + 0) (l + 0 + 1) rest (omega arith) (omega arith) file)

-- a transaction that has no detail more
no_detail : (k : WorkKind) (j g a l m d t : ℕ) (rest : List Role) → j + 1 ≡ t → GroupRest k g a l t m rest → TransactionRest k j g a l m d rest
no_detail k j g a l m d t rest e group =
    let here : GroupRest k g a l (j + 1) m rest = rw e group in
    (0, rest, refl, group_at k g a l (j + 1) m (l + 0) (m + 0) rest (omega arith) (omega arith) here)

two_joins : (t gs f : List Role) (x : Role) → t ++ x ∷ (gs ++ f) ≡ t ++ x ∷ [] ++ gs ++ f
two_joins t gs f x = sym (append_assoc (t ++ x ∷ []) gs f ∙ append_assoc t (x ∷ []) (gs ++ f))

-- one group more
group_joins : (k : WorkKind) (g a l : ℕ) (rest : List Role) → GroupRest k (suc g) a (suc l) 0 0 rest → FileRest g a l (GroupHeader (Some k) (Some (g + 1)) ∷ rest)
group_joins k g a l rest (ns, after, e, (gs, e2)) =
    let c1 : suc g ≡ g + 1 = omega arith in
    let c2 : 0 + length ns ≡ length ns = omega arith in
    let c3 : 0 + size ns + 2 ≡ 2 + size ns = omega arith in
    let c4 : suc g + length gs ≡ g + suc (length gs) = omega arith in
    let c5 : a + length ns + all_transactions_of gs ≡ a + (length ns + all_transactions_of gs) = omega arith in
    let c6 : suc l + size ns + 1 + all_lines_of gs + 1 ≡ l + (size ns + 2 + all_lines_of gs) + 1 = omega arith in
    (record { kind = k; details = ns } ∷ gs, rw (e, e2, c4, c5, c6, c2, c3, c1) (ap (λ (x : List Role). GroupHeader (Some k) (Some (g + 1)) ∷ x) (two_joins (transactions_from k 0 ns) (groups_from (g + 1 + 1) gs) _ (GroupTrailer (Some (g + 1)) (Some (length ns)) (Some (2 + size ns))))))

-- the end of the file
file_ends : (g a l : ℕ) (rest : List Role) → rest ≡ [] → FileRest g a l (FileTrailer (Some g) (Some a) (Some (l + 1)) ∷ rest)
file_ends g a l rest e =
    let c1 : g + 0 ≡ g = omega arith in
    let c2 : a + 0 ≡ a = omega arith in
    let c3 : l + 0 + 1 ≡ l + 1 = omega arith in
    ([], rw (e, c1, c2, c3) refl)

-- ---- any lines without a fault, after lines without one

pub end_is : (k : ℕ) (before : List Role) → at_line k (fault_at_end before) ≡ None → list_any is_file_trailer before ≡ true
end_is k [] e = absurd cc
end_is k (line ∷ before) e =
    let P : Bool → Type 0 = λ b. at_line k (cond b None (Some 11)) ≡ None → b ≡ true in
    (elim (list_any is_file_trailer (line ∷ before)) as P [ true ↦ λ _. refl | false ↦ λ h. absurd cc ]) e

false_true : {A : Type 0} (b : Bool) → b ≡ true → b ≡ false → A
false_true b p q = absurd (let h : true ≡ false = sym p ∙ q in cc)

-- what stands after the lines before, where these have no fault
abbrev Group-after : List Role → List Role → Type 0
Group-after before lines = (k : WorkKind) → in_group before ≡ true → group_kind before ≡ Some k
    → GroupRest k (groups before) (all_transactions before) (length before) (transactions before) (length (group_lines before)) lines

pub record Continues (before lines : List Role) : Type 0 where
  pub between : in_group before ≡ false → FileRest (groups before) (all_transactions before) (length before) lines
  pub inside : in_transaction before ≡ false → Group-after before lines
  pub within : (k : WorkKind) (j : ℕ) → in_group before ≡ true → in_transaction before ≡ true → group_kind before ≡ Some k → j + 1 ≡ transactions before
      → TransactionRest k j (groups before) (all_transactions before) (length before) (length (group_lines before)) (length (transaction_lines before)) lines

-- in a group
in_a_group : (before lines : List Role) → in_group before ≡ true → Group-after before lines → Continues before lines
in_a_group before lines g h = record {
  between = λ out. false_true _ g out;
  inside = λ _. h;
  within = λ k j g i kind e. no_detail k j (groups before) (all_transactions before) (length before) (length (group_lines before)) (length (transaction_lines before)) (transactions before) lines e (h k g kind);
}

-- outside of one
outside : (before lines : List Role) → in_group before ≡ false → FileRest (groups before) (all_transactions before) (length before) lines → Continues before lines
outside before lines g h = record {
  between = λ _. h;
  inside = λ _ k i _. false_true _ i g;
  within = λ k j i _ _ _. false_true _ i g;
}

file_head_first : {A : Type 0} (before : List Role) (valid : Bool) → role_fault before (FileHeader valid) ≡ None → is_nil before ≡ false → A
file_head_first before valid e some =
    let a = passes _ 11 _ e in
    let b = passes _ 1 _ a.1 in
    let c = passes _ 3 _ b.1 in
    let d = passes _ 4 _ c.1 in
    false_true _ (not-false _ d.0) some

-- ---- a line for an equal one

file_line : (g a l : ℕ) (x y : Role) (rest : List Role) → x ≡ y → FileRest g a l (y ∷ rest) → FileRest g a l (x ∷ rest)
file_line g a l x y rest e h = rw e h

group_line : (k : WorkKind) (g a l t m : ℕ) (x y : Role) (rest : List Role) → x ≡ y → GroupRest k g a l t m (y ∷ rest) → GroupRest k g a l t m (x ∷ rest)
group_line k g a l t m x y rest e h = rw e h

transaction_line : (k : WorkKind) (j g a l m d : ℕ) (x y : Role) (rest : List Role) → x ≡ y → TransactionRest k j g a l m d (y ∷ rest) → TransactionRest k j g a l m d (x ∷ rest)
transaction_line k j g a l m d x y rest e h = rw e h

group_head_line : (k k' : Option WorkKind) (i i' : Option ℕ) → k ≡ k' → i ≡ i' → GroupHeader k i ≡ GroupHeader k' i'
group_head_line k k' i i' p q = cc

head_line : (k k' : Option WorkKind) (t t' r r' : Option ℕ) → k ≡ k' → t ≡ t' → r ≡ r' → TransactionHeader k t r ≡ TransactionHeader k' t' r'
head_line k k' t t' r r' p q u = cc

detail_line : (t t' r r' : Option ℕ) → t ≡ t' → r ≡ r' → Detail t r ≡ Detail t' r'
detail_line t t' r r' q u = cc

group_end_line : (i i' t t' r r' : Option ℕ) → i ≡ i' → t ≡ t' → r ≡ r' → GroupTrailer i t r ≡ GroupTrailer i' t' r'
group_end_line i i' t t' r r' p q u = cc

file_end_line : (i i' t t' r r' : Option ℕ) → i ≡ i' → t ≡ t' → r ≡ r' → FileTrailer i t r ≡ FileTrailer i' t' r'
file_end_line i i' t t' r r' p q u = cc

malformed_never : {A : Type 0} (before : List Role) → role_fault before Unnamed ≡ None → A
malformed_never before e =
    let a = passes _ 11 _ e in
    let b = passes _ 1 _ a.1 in
    some_none 3 b.1

-- ---- the induction

pub continues : (lines before : List Role) → first_role_fault before lines ≡ None → list_any is_file_trailer before ≡ false → is_nil before ≡ false → Continues before lines
continues [] before e goes some =
    let bad = end_is (length before + 1) before e in
    record { between = λ _. false_true _ bad goes; inside = λ _ _ _ _. false_true _ bad goes; within = λ _ _ _ _ _ _. false_true _ bad goes }
continues (FileHeader valid ∷ rest) before e goes some = file_head_first before valid (clear_step before rest (FileHeader valid) e).0 some
continues (Unnamed ∷ rest) before e goes some = malformed_never before (clear_step before rest Unnamed e).0
continues (GroupHeader kind i ∷ rest) before e goes some =
    let s = clear_step before rest (GroupHeader kind i) e in
    let f = group_head_is before kind i s.0 in
    let more = continues rest (GroupHeader kind i ∷ before) s.1 goes refl in
    let group = more.inside refl f.1 refl f.2 in
    outside before (GroupHeader kind i ∷ rest) f.0 (file_line _ _ _ _ _ rest (group_head_line _ _ _ _ f.2 f.3) (group_joins f.1 (groups before) (all_transactions before) (length before) rest group))
continues (TransactionHeader kind t r ∷ rest) before e goes some =
    let s = clear_step before rest (TransactionHeader kind t r) e in
    let f = head_is before kind t r s.0 in
    let more = continues rest (TransactionHeader kind t r ∷ before) s.1 goes refl in
    in_a_group before (TransactionHeader kind t r ∷ rest) f.0
    (λ k g is. group_line _ _ _ _ _ _ _ _ rest (head_line _ _ _ _ _ _ (f.1 ∙ is) f.2 f.3) (head_joins k (groups before) (all_transactions before) (length before) (transactions before) (length (group_lines before)) rest
    (more.within k (transactions before) g refl is (omega arith))))
continues (Detail t r ∷ rest) before e goes some =
    let s = clear_step before rest (Detail t r) e in
    let f = detail_is before t r s.0 in
    let more = continues rest (Detail t r ∷ before) s.1 goes refl in
    record {
      between = λ out. false_true _ f.0 out;
      inside = λ out. false_true _ f.1 out;
      within = λ k j g i kind next.
          let same : f.2 ≡ j = omega (arith, f.4) in
          transaction_line _ _ _ _ _ _ _ _ _ rest (detail_line _ _ _ _ (f.3 ∙ ap (λ (x : ℕ). Some x) same) f.5) (detail_joins k j (groups before) (all_transactions before) (length before) (length (group_lines before)) (length (transaction_lines before)) rest (more.within k j g i kind next));
    }
continues (GroupTrailer i t r ∷ rest) before e goes some =
    let s = clear_step before rest (GroupTrailer i t r) e in
    let f = group_end_is before i t r s.0 in
    let more = continues rest (GroupTrailer i t r ∷ before) s.1 goes refl in
    in_a_group before (GroupTrailer i t r ∷ rest) f.0
    (λ k g is. group_line _ _ _ _ _ _ _ _ rest (group_end_line _ _ _ _ _ _ f.1 f.2 f.3) (end_joins k (groups before) (all_transactions before) (length before) (transactions before) (length (group_lines before)) rest (more.between (and-false _))))
continues (FileTrailer g t r ∷ rest) before e goes some =
    let s = clear_step before rest (FileTrailer g t r) e in
    let f = file_end_is before g t r s.0 in
    outside before (FileTrailer g t r ∷ rest) f.0 (file_line _ _ _ _ _ rest (file_end_line _ _ _ _ _ _ f.1 f.2 f.3) (file_ends (groups before) (all_transactions before) (length before) rest (nothing_more (FileTrailer g t r ∷ before) rest refl s.1)))

envelope_is : (rest : List Role) → FileRest 0 0 1 rest → (gs : List Group) × (FileHeader true ∷ rest ≡ envelope gs)
envelope_is rest (gs, e) =
    let c1 : 0 + length gs ≡ length gs = omega arith in
    let c2 : 0 + all_transactions_of gs ≡ all_transactions_of gs = omega arith in
    let c3 : 1 + all_lines_of gs + 1 ≡ 2 + all_lines_of gs = omega arith in
    (gs, rw (e, c1, c2, c3) refl)

valid_is : (valid : Bool) → role_fault [] (FileHeader valid) ≡ None → valid ≡ true
valid_is true e = refl
valid_is false e = absurd cc

-- what has no fault is an envelope
pub accepted : (lines : List Role) → first_role_fault [] lines ≡ None → (gs : List Group) × (lines ≡ envelope gs)
accepted [] e = absurd cc
accepted (FileHeader valid ∷ rest) e =
    let s = clear_step [] rest (FileHeader valid) e in
    let more = continues rest (FileHeader valid ∷ []) s.1 refl refl in
    rw (valid_is valid s.0) (envelope_is rest (more.between refl))
accepted (GroupHeader kind i ∷ rest) e = absurd cc
accepted (TransactionHeader kind t r ∷ rest) e = absurd cc
accepted (Detail t r ∷ rest) e = absurd cc
accepted (GroupTrailer i t r ∷ rest) e = absurd cc
accepted (FileTrailer g t r ∷ rest) e = absurd cc
accepted (Unnamed ∷ rest) e = absurd cc
