-- A file is read one line further.
use Rattle.std.proofs.Common.{◌≡◌, ℕ, suc, ◌+◌, ◌-◌, ◌≤◌, ◌<◌, ◌^◌, ◌⊎◌, inl, inr, Bool, true, false, ◌||◌, List, [], ◌∷◌, length, map, drop, Option, Some, None, cond, arith, refl, sym, ap, ◌∙◌}
use Rattle.std.specs.Str.Lines.{lines}
use Rattle.std.specs.List.{list_any}
use Rattle.std.proofs.lemmas.List.{length-map}
use Rattle.cwr_grammar.specs.declared.role.Role.{Role}
use Rattle.cwr_grammar.specs.declared.file_counts.FileCounts.{FileCounts}
use Rattle.cwr_grammar.specs.Roles.{role_of}
use Rattle.cwr_grammar.specs.Before.{groups, is_file_trailer, is_ended}
use Rattle.cwr_grammar.specs.FirstFault.{first_fault, with_eleven, fault_at_end, at_line, or_else, line_fault, first_fault_after, tail_fault}
use Rattle.cwr_grammar.specs.FaultTests.{is_after_end}
use Rattle.cwr_grammar.specs.Collected.{group_count, record_count, raws}
use Rattle.cwr_grammar.specs.Counted.{counts_of, AreSmall}
use Rattle.cwr_grammar.specs.ReadUpTo.{Going}
use Rattle.cwr_grammar.proofs.lemmas.Small.{small_from}
use Rattle.cwr_grammar.proofs.Numbers.{few_groups_after, few_records, clear_role}
use Rattle.cwr_grammar.proofs.FileParts.{file_raws, file_groups, file_records}
use Rattle.cwr_grammar.proofs.Least.{first_is_least}
use Rattle.cwr_grammar.specs.Faults.{IsLeastFault}
use Rattle.cwr_grammar.specs.File.{File, IsFile}
use Rattle.cwr_grammar.specs.Submitted.{AreParts}
use Rattle.cwr_grammar.specs.RawParts.{RawParts}
use Rattle.cwr_grammar.proofs.ReadSteps.{after_end}
use Rattle.cwr_grammar.proofs.CountsFurther.{groups_advance, records_advance, groups_end, records_end}

pub going_small : (text : List ℕ) (s : FileCounts) (at : ℕ) (before : List (List ℕ)) → Going text s at before → at < 2 ^ 63 → AreSmall s
going_small text s at before r few = small_from (map role_of before) s r.counted (omega (arith, length-map before role_of, r.few, few))

-- before the first line
pub going_begins : (text : List ℕ) (s : FileCounts) → s ≡ counts_of [] → Going text s 0 []
going_begins text s is = rw is (record { inside = omega arith; few = omega arith; few_groups = omega arith; counted = refl; goes = refl; fault = refl; group_total = omega arith; record_total = omega arith })

-- one line was read, and has no fault
pub record OneLine (text : List ℕ) (before : List (List ℕ)) (at n : ℕ) (line : List ℕ) (role : Role) (next : FileCounts) : Type 0 where
  pub split : lines (drop at text) ≡ line ∷ lines (drop (at + n) text)
  pub some : 0 < n
  pub fits : n ≤ length text - at
  pub read : role ≡ role_of line
  pub clear : None ≡ line_fault before line
  pub counted : next ≡ counts_of (role ∷ map role_of before)

line_goes : (before text rest : List (List ℕ)) (line : List ℕ) (total : Option (ℕ × ℕ)) → text ≡ line ∷ rest → first_fault_after before text ≡ total → None ≡ line_fault before line → first_fault_after (line ∷ before) rest ≡ total
line_goes before text rest line total split so_far clear =
    ap (λ (o : Option ℕ). or_else (at_line (length before + 1) o) (first_fault_after (line ∷ before) rest)) clear ∙ ap (first_fault_after before) (sym split) ∙ so_far

or_false : (a c b : Bool) → c ≡ false → (a || c) ≡ b → a ≡ b
or_false true c b goes e = e
or_false false c b goes e = sym goes ∙ e

end_of : (role : Role) (before : List Role) (b : Bool) → list_any is_file_trailer before ≡ false → (is_file_trailer role || list_any is_file_trailer before) ≡ b → is_file_trailer role ≡ b
end_of role before b goes e = or_false (is_file_trailer role) (list_any is_file_trailer before) b goes e

-- a line after which the file goes on is no TRL
pub no_trailer : (text : List ℕ) (s next : FileCounts) (at n : ℕ) (before : List (List ℕ)) (line : List ℕ) (role : Role)
    → Going text s at before → OneLine text before at n line role next → next.is_ended ≡ false → is_file_trailer role ≡ false
no_trailer text s next at n before line role r one goes = end_of role (map role_of before) false r.goes (sym (ap (λ (x : FileCounts). x.is_ended) one.counted) ∙ goes)

-- and one after which it does not is one
pub trailer : (text : List ℕ) (s next : FileCounts) (at n : ℕ) (before : List (List ℕ)) (line : List ℕ) (role : Role)
    → Going text s at before → OneLine text before at n line role next → next.is_ended ≡ true → is_file_trailer role ≡ true
trailer text s next at n before line role r one ended = end_of role (map role_of before) true r.goes (sym (ap (λ (x : FileCounts). x.is_ended) one.counted) ∙ ended)

pub goes_on : (text : List ℕ) (s next : FileCounts) (at n : ℕ) (before : List (List ℕ)) (line : List ℕ) (role : Role)
    → Going text s at before → OneLine text before at n line role next → next.is_ended ≡ false → Going text next (at + n) (line ∷ before)
goes_on text s next at n before line role r one goes =
    let more = no_trailer text s next at n before line role r one goes in
    let g : s.groups ≡ groups (map role_of before) = ap (λ (x : FileCounts). x.groups) r.counted in
    record {
      inside = omega (arith, one.some, one.fits);
      few = omega (arith, r.few, one.some);
      few_groups = few_groups_after before line role s next r.counted one.counted one.read (clear_role before line r.goes one.clear) r.few_groups;
      counted = one.counted ∙ ap (λ (k : Role). counts_of (k ∷ map role_of before)) one.read;
      goes = ap (λ (k : Role). is_file_trailer k || list_any is_file_trailer (map role_of before)) (sym one.read) ∙ ap (λ (b : Bool). b || list_any is_file_trailer (map role_of before)) more ∙ r.goes;
      fault = line_goes before (lines (drop at text)) (lines (drop (at + n) text)) line _ one.split r.fault one.clear;
      group_total =
          ap (λ (x : FileCounts). x.groups + group_count (lines (drop (at + n) text))) one.counted
          ∙ groups_advance role (map role_of before) line (lines (drop at text)) (lines (drop (at + n) text)) _ one.split (sym one.read) more (ap (λ (k : ℕ). k + group_count (lines (drop at text))) (sym g) ∙ r.group_total);
      record_total =
          ap (λ (x : FileCounts). x.lines + record_count (lines (drop (at + n) text))) one.counted
          ∙ records_advance role (length (map role_of before)) line (lines (drop at text)) (lines (drop (at + n) text)) _ one.split (sym one.read) more (ap (λ (x : FileCounts). x.lines + record_count (lines (drop at text))) (sym r.counted) ∙ r.record_total);
    }

-- ---- the line that ends the file

-- A text was read up to its TRL without a fault, which ends before a position. What follows decides alone whether the
-- text is a file.
pub record IsEndedAt (text : List ℕ) (s : FileCounts) (at : ℕ) : Type 0 where
  pub inside : at ≤ length text
  pub few : s.lines ≤ at
  pub few_groups : s.groups < 10 ^ 5
  pub few_records : s.lines < 10 ^ 8
  pub fault : first_fault (lines text) ≡ with_eleven (tail_fault (s.lines + 1) (lines (drop at text)))

-- and if it is one, these are its parts
pub record IsReadTo (text : List ℕ) (found : List RawParts) (s : FileCounts) (at : ℕ) : Type 0 where
  pub ended : IsEndedAt text s at
  pub parts : (f : File) → IsFile (lines text) f → AreParts f found s.groups s.lines

after_trailer : (text : List ℕ) (s next : FileCounts) (at n : ℕ) (before : List (List ℕ)) (line : List ℕ) (role : Role) (o : Option ℕ)
    → Going text s at before → OneLine text before at n line role next → next.is_ended ≡ true → o ≡ tail_fault (next.lines + 1) (lines (drop (at + n) text)) → first_fault_after [] (lines text) ≡ with_eleven o
after_trailer text s next at n before line role o r one ended tail =
    let here : is_after_end (line ∷ before) ≡ true = ap (λ (k : Role). is_file_trailer k || list_any is_file_trailer (map role_of before)) (sym one.read) ∙ sym (ap (λ (x : FileCounts). x.is_ended) one.counted) ∙ ended in
    let count : next.lines ≡ suc (length before) = ap (λ (x : FileCounts). x.lines) one.counted ∙ ap suc (length-map before role_of) in
    sym (line_goes before (lines (drop at text)) (lines (drop (at + n) text)) line _ one.split r.fault one.clear)
    ∙ after_end (line ∷ before) (lines (drop (at + n) text)) here
    ∙ ap (λ (k : ℕ). with_eleven (tail_fault (k + 1) (lines (drop (at + n) text)))) (sym count)
    ∙ ap with_eleven (sym tail)

-- what was found is the text's transactions
pub ends_on : (text : List ℕ) (found : List RawParts) (s next : FileCounts) (at n : ℕ) (before : List (List ℕ)) (line : List ℕ) (role : Role)
    → Going text s at before → OneLine text before at n line role next → found ≡ raws (lines text) 0 0 → next.is_ended ≡ true → IsReadTo text found next (at + n)
ends_on text found s next at n before line role r one all ended =
    let last = trailer text s next at n before line role r one ended in
    let g : s.groups ≡ groups (map role_of before) = ap (λ (x : FileCounts). x.groups) r.counted in
    let clear = clear_role before line r.goes one.clear in
    let all_groups : next.groups ≡ group_count (lines text) =
    ap (λ (x : FileCounts). x.groups) one.counted ∙ groups_end role (map role_of before) line (lines (drop at text)) (lines (drop (at + n) text)) _ one.split (sym one.read) last (ap (λ (k : ℕ). k + group_count (lines (drop at text))) (sym g) ∙ r.group_total) in
    let all_records : next.lines ≡ record_count (lines text) =
    ap (λ (x : FileCounts). x.lines) one.counted ∙ records_end role (length (map role_of before)) line (lines (drop at text)) (lines (drop (at + n) text)) _ one.split (sym one.read) last (ap (λ (x : FileCounts). x.lines + record_count (lines (drop at text))) (sym r.counted) ∙ r.record_total) in
    record {
      ended = record {
        inside = omega (arith, one.some, one.fits);
        few = omega (arith, r.few, one.some, ap (λ (x : FileCounts). x.lines) one.counted, length-map before role_of);
        few_groups = few_groups_after before line role s next r.counted one.counted one.read clear r.few_groups;
        few_records = few_records before line role next one.counted one.read clear last;
        fault = after_trailer text s next at n before line role (tail_fault (next.lines + 1) (lines (drop (at + n) text))) r one ended refl;
      };
      parts = λ f is. record {
        transactions = all ∙ file_raws (lines text) f is;
        groups = all_groups ∙ file_groups (lines text) f is;
        records = all_records ∙ file_records (lines text) f is;
      };
    }

-- ---- where the text has a fault

place_is : (j k n : ℕ) → j ≡ k → at_line j (Some n) ≡ Some (k, n)
place_is j k n e = ap (λ (x : ℕ). Some (x, n)) e

lines_before : (text : List ℕ) (s : FileCounts) (at : ℕ) (before : List (List ℕ)) → Going text s at before → length before + 1 ≡ s.lines + 1
lines_before text s at before r = omega (arith, ap (λ (x : FileCounts). x.lines) r.counted, length-map before role_of)

-- a line with a fault
pub line_faulty : (text : List ℕ) (s : FileCounts) (at : ℕ) (before : List (List ℕ)) (rest line : List ℕ) (more : List (List ℕ)) (n : ℕ)
    → Going text s at before → rest ≡ drop at text → lines rest ≡ line ∷ more → Some n ≡ line_fault before line → IsLeastFault (lines text) (s.lines + 1) n
line_faulty text s at before rest line more n r is split bad =
    first_is_least (lines text) (s.lines + 1) n (
    sym r.fault
    ∙ ap (λ (xs : List ℕ). first_fault_after before (lines xs)) (sym is)
    ∙ ap (first_fault_after before) split
    ∙ ap (λ (o : Option ℕ). or_else (at_line (length before + 1) o) (first_fault_after (line ∷ before) more)) (sym bad)
    ∙ place_is (length before + 1) (s.lines + 1) n (lines_before text s at before r)
    )

fault_at_end_is : (before : List Role) (n : ℕ) → is_ended before ≡ false → ((length before ≡ 0) × (n ≡ 1)) ⊎ ((0 < length before) × (n ≡ 11)) → fault_at_end before ≡ Some n
fault_at_end_is [] n goes (inl h) = ap (λ (x : ℕ). Some x) (sym h.1)
fault_at_end_is [] n goes (inr h) = absurd (omega (arith, h.0))
fault_at_end_is (role ∷ before) n goes (inl h) = absurd (omega (arith, h.0))
fault_at_end_is (role ∷ before) n goes (inr h) = ap (λ (b : Bool). cond b None (Some 11)) goes ∙ ap (λ (x : ℕ). Some x) (sym h.1)

count_is : (a b n : ℕ) → a ≡ b → ((a ≡ 0) × (n ≡ 1)) ⊎ ((0 < a) × (n ≡ 11)) → ((b ≡ 0) × (n ≡ 1)) ⊎ ((0 < b) × (n ≡ 11))
count_is a b n e (inl h) = inl (omega (arith, e, h.0), h.1)
count_is a b n e (inr h) = inr (omega (arith, e, h.0), h.1)

-- the end, where no TRL was read
pub end_faulty : (text : List ℕ) (s : FileCounts) (at : ℕ) (before : List (List ℕ)) (rest : List ℕ) (n : ℕ)
    → Going text s at before → rest ≡ drop at text → rest ≡ [] → ((s.lines ≡ 0) × (n ≡ 1)) ⊎ ((0 < s.lines) × (n ≡ 11)) → IsLeastFault (lines text) (s.lines + 1) n
end_faulty text s at before rest n r is none which =
    let counted : s.lines ≡ length (map role_of before) = ap (λ (x : FileCounts). x.lines) r.counted in
    first_is_least (lines text) (s.lines + 1) n (
    sym r.fault
    ∙ ap (λ (xs : List ℕ). first_fault_after before (lines xs)) (sym is ∙ none)
    ∙ ap (at_line (length before + 1)) (fault_at_end_is (map role_of before) n r.goes (count_is s.lines (length (map role_of before)) n counted which))
    ∙ place_is (length before + 1) (s.lines + 1) n (lines_before text s at before r)
    )
