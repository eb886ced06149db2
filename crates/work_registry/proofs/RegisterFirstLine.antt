-- The first line of a register: its faults, and what follows where it has none.
use Rattle.std.proofs.Common.{◌≡◌, ◌∙◌, ℕ, ◌+◌, ◌<◌, ◌≤◌, ◌^◌, true, false, List, [], ◌∷◌, ◌++◌, length, arith, ap, sym, subst, refl, append_assoc, inl, inr}
use Rattle.std.specs.Prelude.{◌⊎◌, ◌==◌}
use Rattle.std.proofs.lemmas.List.{length_push}
use Rattle.cwr_record.specs.FaultOrder.{IsNoLater}
use Rattle.work_registry.specs.EntryValue.{EntryValue}
use Rattle.work_registry.specs.Register.{count_line}
use Rattle.work_registry.specs.RegisterFaults.{lines, has_end, IsNoCount, HasFaultAfter, HasFault, IsLeastFault}
use Rattle.work_registry.specs.RegisterReading.{IsReadTo}
use Rattle.cwr_record.specs.Lines.{line_of}
use Rattle.cwr_record.proofs.lemmas.Spelled.{same_parts, same_number}
use Rattle.work_registry.specs.RegisterLine.{entry_count}
use Rattle.work_registry.proofs.RegisterLines.{count_stands}
use Rattle.cwr_field.proofs.lemmas.Tests.{or_right}

-- one line tells one number
same_count : (line : List ℕ) (m n : ℕ) → m < 10 ^ 8 → n < 10 ^ 8 → line ++ 10 ∷ [] ≡ count_line m → line ++ 10 ∷ [] ≡ count_line n → m ≡ n
same_count line m n p q a b = same_number m n (same_parts entry_count line m n (count_stands line m p a) (count_stands line n q b)).1.0

-- faults of entries stand after the first line
pub later : (count : ℕ) (entries : List EntryValue) (rest : List (List ℕ)) (k n : ℕ) → HasFaultAfter count entries rest k n → length entries + 2 ≤ k
later count entries [] k n h = let e = h.0 in omega (arith, e)
later count entries (line ∷ rest) k n (inl h) = let e = h.0 in omega (arith, e)
later count entries (line ∷ rest) k n (inr h) = let le = later count (entries ++ h.1.0 ∷ []) rest k n h.1.2 in omega (arith, le, length_push entries h.1.0)

pub has_last : (xs : List ℕ) → has_end (xs ++ 10 ∷ []) ≡ true
has_last [] = refl
has_last (x ∷ xs) = or_right (x == 10) (has_end (xs ++ 10 ∷ [])) (has_last xs)

-- a line without LF tells no number
pub unended_count : (line : List ℕ) → has_end line ≡ false → IsNoCount line
unended_count line none n small e =
    let no : true ≡ false = sym (has_last (line_of entry_count n)) ∙ ap has_end (sym e) ∙ none in
    cc

-- the least fault of a text, as that of its lines

lines_fault : (limit : ℕ) (text : List ℕ) (all : List (List ℕ)) (k n : ℕ) → lines text ≡ all → HasFault limit all k n → ((j m : ℕ) → HasFault limit all j m → IsNoLater k n j m) → IsLeastFault limit text k n
lines_fault limit text all k n e has least =
    let P : List (List ℕ) → Type 0 = λ ls. HasFault limit ls k n in
    record {
      has = subst P (sym e) has;
      least = λ j m h. least j m (let Q : List (List ℕ) → Type 0 = λ ls. HasFault limit ls j m in subst Q e h);
    }

pub no_line : (limit : ℕ) (text : List ℕ) → text ≡ [] → IsLeastFault limit text 1 2
no_line limit text e = lines_fault limit text [] 1 2 (ap lines e) (refl, refl) (λ j m h. inr (sym h.0, let n = h.1 in omega (arith, n)))

pub no_count : (limit : ℕ) (text first : List ℕ) (more : List (List ℕ)) → lines text ≡ first ∷ more → IsNoCount first → IsLeastFault limit text 1 1
no_count limit text first more e none = lines_fault limit text (first ∷ more) 1 1 e (inl (refl, refl, none)) least
  where
    least : (j m : ℕ) → HasFault limit (first ∷ more) j m → IsNoLater 1 1 j m
    least j m (inl h) = inr (sym h.0, let n = h.1 in omega (arith, n))
    least j m (inr h) = absurd (none h.0 h.1 h.2)

no_later_than_four : (limit c : ℕ) (more : List (List ℕ)) (j m : ℕ) → ((j ≡ 1) × (m ≡ 4) × (limit < c)) ⊎ HasFaultAfter c [] more j m → IsNoLater 1 4 j m
no_later_than_four limit c more j m (inl h) = inr (sym h.0, let n = h.1 in omega (arith, n))
no_later_than_four limit c more j m (inr h) = inl (let le = later c [] more j m h in omega (arith, le))

pub above_limit : (limit c : ℕ) (text line : List ℕ) (more : List (List ℕ)) → lines text ≡ (line ++ 10 ∷ []) ∷ more → c < 10 ^ 8 → line ++ 10 ∷ [] ≡ count_line c → limit < c → IsLeastFault limit text 1 4
above_limit limit c text line more e small is above = lines_fault limit text ((line ++ 10 ∷ []) ∷ more) 1 4 e (inr (c, small, is, inl (refl, refl, above))) least
  where
    least : (j m : ℕ) → HasFault limit ((line ++ 10 ∷ []) ∷ more) j m → IsNoLater 1 4 j m
    least j m (inl h) = absurd (h.2 c small is)
    least j m (inr h) = no_later_than_four limit h.0 more j m h.3

pub first_read : (limit c : ℕ) (text line rest : List ℕ) → text ≡ line ++ 10 ∷ rest → lines text ≡ (line ++ 10 ∷ []) ∷ lines rest → c < 10 ^ 8 → line ++ 10 ∷ [] ≡ count_line c → c ≤ limit
    → IsReadTo limit text c [] rest
first_read limit c text line rest split e small is within =
    record {
      small = small;
      bytes = split ∙ sym (append_assoc line (10 ∷ []) rest) ∙ ap (λ (xs : List ℕ). xs ++ rest) is;
      opening = refl;
      whole = tt;
      after = λ k n h. follows k n (let P : List (List ℕ) → Type 0 = λ ls. HasFault limit ls k n in subst P e h);
      before = λ k n h. let P : List (List ℕ) → Type 0 = λ ls. HasFault limit ls k n in subst P (sym e) (inr (c, small, is, inr h));
    }
  where
    from : (d k n : ℕ) → d ≡ c → ((k ≡ 1) × (n ≡ 4) × (limit < d)) ⊎ HasFaultAfter d [] (lines rest) k n → HasFaultAfter c [] (lines rest) k n
    from d k n same (inl h) = absurd (let lt = h.2 in omega (arith, lt, same, within))
    from d k n same (inr h) = let P : ℕ → Type 0 = λ x. HasFaultAfter x [] (lines rest) k n in subst P same h

    follows : (k n : ℕ) → HasFault limit ((line ++ 10 ∷ []) ∷ lines rest) k n → HasFaultAfter c [] (lines rest) k n
    follows k n (inl h) = absurd (h.2 c small is)
    follows k n (inr h) = from h.0 k n (same_count line h.0 c h.1 small h.2 is) h.3
