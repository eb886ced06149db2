-- The lines before one of a file are few, and what they say counts no more than they are.
use Rattle.std.proofs.Common.{inl, inr, eqb, true, false, cond, ◌≡◌, ◌∙◌, ◌≤◌, ◌<◌, ◌^◌, ℕ, suc, ◌+◌, ◌-◌, List, [], ◌∷◌, length, map, take, drop, ap, sym, subst, arith, Bor}
use Rattle.std.proofs.lemmas.List.{length-take, length-drop, length-reverse, length-map, length-append}
use Rattle.std.specs.List.{slice_split, join_with_byte}
use Rattle.std.specs.Str.Lines.{lines, lines_of_parts}
use Rattle.std.proofs.lemmas.List.Splits.{join_with_byte-slice_split}
use Rattle.cwr_grammar.specs.Counted.{AreSmall}
use Rattle.cwr_grammar.specs.Faults.{HasFault, IsLeastFault}
use Rattle.cwr_grammar.specs.Roles.{role_of}
use Rattle.cwr_grammar.specs.declared.file_counts.FileCounts.{FileCounts}
use Rattle.cwr_grammar.proofs.lemmas.Small.{are_small}
use Rattle.cwr_report.specs.Before.{before_of, IsPassed}
use Rattle.cwr_report.specs.BytesBefore.{first_size, bytes_before}
use Rattle.cwr_report.specs.Walks.{lines_before}
use Rattle.cwr_report.proofs.Walking.{rest_more, rest_end, before_more, before_end}

pub length-before : (lines : List (List ℕ)) (index : ℕ) → length (lines_before lines index) ≤ index
length-before lines index = omega (arith, length-reverse (take index lines), length-take index lines)

pub small_before : (lines : List (List ℕ)) (index : ℕ) → index < 2 ^ 63 → AreSmall (before_of (lines_before lines index))
small_before lines index few =
    let before = lines_before lines index in
    are_small (map role_of before) (omega (arith, length-map before role_of, length-before lines index, few))

-- there was no line to pass
pub passed_end : (b : FileCounts) (rest new all : List (List ℕ)) (index : ℕ) → (rest ≡ []) × (new ≡ []) → IsPassed b rest all index → IsPassed b new all (index + 1)
passed_end b rest new all index none so_far =
    let over : drop index all ≡ [] = sym so_far.left ∙ none.0 in
    record {
      left = none.1 ∙ sym (rest_end index all over);
      before_is = so_far.before_is ∙ ap before_of (sym (before_end index all over));
    }

-- the next line was passed
pub passed_more : (b c : FileCounts) (rest new all : List (List ℕ)) (index : ℕ) (line : Bor (List ℕ)) → rest ≡ line.now ∷ new
    → ((before : List (List ℕ)) → b ≡ before_of before → c ≡ before_of (line.now ∷ before))
    → IsPassed b rest all index → IsPassed c new all (index + 1)
passed_more b c rest new all index line some adds so_far =
    let next : drop index all ≡ line.now ∷ new = sym so_far.left ∙ some in
    record {
      left = sym (rest_more index all line.now new next);
      before_is = adds (lines_before all index) so_far.before_is ∙ ap before_of (sym (before_more index all line.now new next));
    }

-- ---- bytes

-- one line more
first_passed : (n c : ℕ) (rest : List ℕ) → c < n → bytes_before (n - c) rest ≡ first_size rest + bytes_before (n - (c + 1)) (drop (first_size rest) rest)
first_passed n c rest lt = let e : n - c ≡ suc (n - (c + 1)) = omega arith in ap (λ (k : ℕ). bytes_before k rest) e

pub passed_first : (bytes rest new : List ℕ) (n c : ℕ) → c < n → new ≡ drop (first_size rest) rest → first_size rest ≤ length rest → length rest ≤ length bytes
    → (length bytes - length rest) + bytes_before (n - c) rest ≡ bytes_before n bytes
    → (length new ≤ length bytes) × ((length bytes - length new) + bytes_before (n - (c + 1)) new ≡ bytes_before n bytes)
passed_first bytes rest new n c lt is fits inside so_far =
    let size : length new ≡ length rest - first_size rest = ap (λ (x : List ℕ). length x) is ∙ length-drop (first_size rest) rest in
    let step : bytes_before (n - c) rest ≡ first_size rest + bytes_before (n - (c + 1)) new =
    first_passed n c rest lt ∙ ap (λ (x : List ℕ). first_size rest + bytes_before (n - (c + 1)) x) (sym is)
    in (omega (arith, size, inside), omega (arith, size, step, so_far, fits, inside))

-- ---- a fault's line is one of the text's, or the end

fault_inside : (k n : ℕ) (before text : List (List ℕ)) → HasFault k n before text → k ≤ length before + length text + 1
fault_inside k n before [] (at, _) = omega (arith, at)
fault_inside k n before (line ∷ rest) (inl here) = omega (arith, here.0)
fault_inside k n before (line ∷ rest) (inr later) = omega (arith, fault_inside k n (line ∷ before) rest later)

parts_few : (parts : List (List ℕ)) → length (lines_of_parts parts) ≤ length (join_with_byte 10 parts)
parts_few [] = omega arith
parts_few ([] ∷ []) = omega arith
parts_few ((byte ∷ part) ∷ []) =
    elim (eqb (length (byte ∷ part)) 0) as (λ b. length (cond b [] ((byte ∷ part) ∷ [])) ≤ length (byte ∷ part)) [ true ↦ omega arith | false ↦ omega arith ]
parts_few (part ∷ next ∷ parts) = omega (arith, parts_few (next ∷ parts), length-append part (10 ∷ join_with_byte 10 (next ∷ parts)))

few_lines : (bytes : List ℕ) → length (lines bytes) ≤ length bytes
few_lines bytes = subst (λ (x : List ℕ). length (lines bytes) ≤ length x) (join_with_byte-slice_split 10 bytes) (parts_few (slice_split (λ b. eqb b 10) bytes))

pub fault_near : (bytes : List ℕ) (k n : ℕ) → length bytes < 2 ^ 63 → IsLeastFault (lines bytes) k n → k - 1 < 2 ^ 63
fault_near bytes k n short fault = omega (arith, fault_inside k n [] (lines bytes) fault.has, few_lines bytes, short)
