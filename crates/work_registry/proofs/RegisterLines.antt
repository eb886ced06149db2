-- The lines of a text, by the place of its first LF.
use Rattle.std.proofs.Common.{◌≡◌, ◌∙◌, ℕ, ◌+◌, ◌<◌, ◌≤◌, ◌^◌, ltb, Bool, true, false, cond, List, [], ◌∷◌, ◌++◌, length, take, drop, get_or, Option, Some, None, arith, ap, sym, subst, refl, inl, inr}
use Rattle.std.specs.Prelude.{◌==◌, ◌⊎◌, if◌then◌else◌}
use Rattle.memchr.specs.Find.{IsFirstByte, is_byte}
use Rattle.std.specs.List.{position, position_or_len}
use Rattle.std.proofs.lemmas.List.{take_all, drop_more, take-append-drop, get_or-take, length-take, append_cancel_right}
use Rattle.std.proofs.lemmas.List.Folds.{list_any_none, list_any_at}
use Rattle.std.proofs.lemmas.List.Elements.{All-from_get_or}
use Rattle.std.proofs.lemmas.List.Sums.{fails_before_first, passes_at_first}
use Rattle.std.proofs.lemmas.Bool.Decides.{nat_tests}
use Rattle.cwr_record.specs.Layout.{StandsFor}
use Rattle.cwr_record.specs.Lines.{line_of}
use Rattle.cwr_record.proofs.lemmas.RoundTrip.{stands}
use Rattle.cwr_record.proofs.lemmas.Spelled.{spelled}
use Rattle.work_registry.specs.RegisterColumns as column
use Rattle.work_registry.specs.RegisterLine.{entry_count}
use Rattle.work_registry.specs.Register.{count_line}
use Rattle.work_registry.specs.RegisterFaults.{in_front, lines, has_end}
use Rattle.cwr_field.proofs.lemmas.Tests.{neither}

-- a line that an LF ends
pub lines_first : (front rest : List ℕ) → has_end front ≡ false → lines (front ++ 10 ∷ rest) ≡ (front ++ 10 ∷ []) ∷ lines rest
lines_first [] rest h = refl
lines_first (b ∷ front) rest h =
    let p = neither (b == 10) (has_end front) h in
    let more = lines_first front rest p.1 in
    ap (λ (t : Bool). if t then (10 ∷ []) ∷ lines (front ++ 10 ∷ rest) else in_front b (lines (front ++ 10 ∷ rest))) p.0 ∙ ap (in_front b) more

-- a last line that lacks its LF
pub lines_last : (b : ℕ) (text : List ℕ) → has_end (b ∷ text) ≡ false → lines (b ∷ text) ≡ (b ∷ text) ∷ []
lines_last b [] h =
    let p = neither (b == 10) false h in
    ap (λ (t : Bool). if t then (10 ∷ []) ∷ [] else in_front b []) p.0
lines_last b (a ∷ text) h =
    let p = neither (b == 10) (has_end (a ∷ text)) h in
    ap (λ (t : Bool). if t then (10 ∷ []) ∷ lines (a ∷ text) else in_front b (lines (a ∷ text))) p.0 ∙ ap (in_front b) (lines_last a text p.1)

abbrev is_end : ℕ → Bool
is_end b = b == 10

-- an index that `position` finds is the first place, and lies inside
found : (xs : List ℕ) (i : ℕ) → Some i ≡ position is_end xs → (i ≡ position_or_len is_end xs) × (i < length xs)
found xs i e = by (ltb (position_or_len is_end xs) (length xs)) refl e
  where
    by : (b : Bool) → ltb (position_or_len is_end xs) (length xs) ≡ b → Some i ≡ cond b (Some (position_or_len is_end xs)) None → (i ≡ position_or_len is_end xs) × (i < length xs)
    by true inside h = let same : i ≡ position_or_len is_end xs = cc in (same, rw same (grind (arith, nat_tests)))
    by false inside h = absurd (let none : Some i ≡ None = h in cc)

-- where it finds none, the first place is the end
missing : (xs : List ℕ) → None ≡ position is_end xs → length xs ≤ position_or_len is_end xs
missing xs e = by (ltb (position_or_len is_end xs) (length xs)) refl e
  where
    by : (b : Bool) → ltb (position_or_len is_end xs) (length xs) ≡ b → None ≡ cond b (Some (position_or_len is_end xs)) None → length xs ≤ position_or_len is_end xs
    by true inside h = absurd (let some : None ≡ Some (position_or_len is_end xs) = h in cc)
    by false past h = grind (arith, nat_tests)

-- a search that answers the first such byte
pub first_found : (xs : List ℕ) (r : Option ℕ) → IsFirstByte (is_byte 10) xs r → r ≡ position is_end xs
first_found xs None h = by (ltb (position_or_len is_end xs) (length xs)) refl
  where
    by : (b : Bool) → ltb (position_or_len is_end xs) (length xs) ≡ b → None ≡ cond b (Some (position_or_len is_end xs)) None
    by true inside =
        let lt : position_or_len is_end xs < length xs = grind (arith, nat_tests) in
        absurd (h (position_or_len is_end xs) (omega arith) lt (passes_at_first is_end xs 0 lt))
    by false past = refl
first_found xs (Some k) h =
    let lt = h.0.high in
    let low : k ≤ position_or_len is_end xs = no_later (ltb (position_or_len is_end xs) k) refl in
    let high : position_or_len is_end xs ≤ k = no_sooner (ltb k (position_or_len is_end xs)) refl in
    let same : position_or_len is_end xs ≡ k = omega (arith, low, high) in
    by same (ltb (position_or_len is_end xs) (length xs)) refl
  where
    no_later : (b : Bool) → ltb (position_or_len is_end xs) k ≡ b → k ≤ position_or_len is_end xs
    no_later true sooner =
        let before : position_or_len is_end xs < k = grind (arith, nat_tests) in
        let inside = h.0.high in
        absurd (h.0.before (position_or_len is_end xs) (omega arith) before (passes_at_first is_end xs 0 (omega (arith, before, inside))))
    no_later false e = grind (arith, nat_tests)

    no_sooner : (b : Bool) → ltb k (position_or_len is_end xs) ≡ b → position_or_len is_end xs ≤ k
    no_sooner true later =
        let before : k < position_or_len is_end xs = grind (arith, nat_tests) in
        absurd (let never : true ≡ false = sym h.1 ∙ fails_before_first is_end xs k 0 before in cc)
    no_sooner false e = grind (arith, nat_tests)

    by : position_or_len is_end xs ≡ k → (b : Bool) → ltb (position_or_len is_end xs) (length xs) ≡ b → Some k ≡ cond b (Some (position_or_len is_end xs)) None
    by same true inside = ap Some (sym same)
    by same false past = absurd (let lt = h.0.high in let far : length xs ≤ position_or_len is_end xs = grind (arith, nat_tests) in omega (arith, lt, far, same))

-- an LF with none before it is the first
pub first_at : (xs : List ℕ) (i : ℕ) → i < length xs → get_or xs i 0 ≡ 10 → has_end (take i xs) ≡ false → IsFirstByte (is_byte 10) xs (Some i)
first_at xs i inside at none = (
  record {
    low = omega arith;
    high = inside;
    before = λ k low lt passes.
        let one = list_any_at is_end (take i xs) k 0 (omega (arith, lt, inside, length-take i xs)) (rw (get_or-take i xs k 0 lt) passes) in
        absurd (let never : true ≡ false = sym one ∙ none in cc);
  },
  ap is_end at,
)

no_end : (xs : List ℕ) (i : ℕ) → i ≤ position_or_len is_end xs → has_end (take i xs) ≡ false
no_end xs i le =
    list_any_none is_end (take i xs) (All-from_get_or (λ b. is_end b ≡ false) (take i xs) 0
    (λ k lt. let near : k < i = omega (arith, lt, length-take i xs) in rw (get_or-take i xs k 0 near) (fails_before_first is_end xs k 0 (omega (arith, near, le)))))

is_ten : (b : ℕ) → (b == 10) ≡ true → b ≡ 10
is_ten b h = grind (arith, nat_tests)

-- the text before the first LF, and that after it
cut_at : (text : List ℕ) (i : ℕ) → Some i ≡ position is_end text → text ≡ take i text ++ 10 ∷ drop (i + 1) text
cut_at text i e =
    let f = found text i e in
    let lt = f.1 in
    let at : get_or text i 0 ≡ 10 = is_ten (get_or text i 0) (ap (λ (n : ℕ). is_end (get_or text n 0)) f.0 ∙ passes_at_first is_end text 0 (let same = f.0 in omega (arith, lt, same))) in
    sym (take-append-drop i text) ∙ ap (λ (xs : List ℕ). take i text ++ xs) (drop_more text i 0 lt ∙ ap (λ (b : ℕ). b ∷ drop (i + 1) text) at)

pub cut_lines : (text line rest : List ℕ) (i : ℕ) → Some i ≡ position is_end text → line ≡ take i text → rest ≡ drop (i + 1) text
    → (text ≡ line ++ 10 ∷ rest) × (lines text ≡ (line ++ 10 ∷ []) ∷ lines rest) × (has_end line ≡ false)
cut_lines text line rest i e p q =
    let split : text ≡ line ++ 10 ∷ rest = cut_at text i e ∙ ap (λ (xs : List ℕ). xs ++ 10 ∷ drop (i + 1) text) (sym p) ∙ ap (λ (xs : List ℕ). line ++ 10 ∷ xs) (sym q) in
    let first = (found text i e).0 in
    let one = ap has_end p ∙ no_end text i (omega (arith, first)) in
    (split, ap lines split ∙ lines_first line rest one, one)

pub unended : (text : List ℕ) → None ≡ position is_end text → has_end text ≡ false
unended text e =
    let past = missing text e in
    ap has_end (sym (take_all (length text) text (omega arith))) ∙ no_end text (length text) past

pub unended_lines : (text : List ℕ) → None ≡ position is_end text → (text ≡ []) ⊎ (lines text ≡ text ∷ [])
unended_lines [] e = inl refl
unended_lines (b ∷ text) e = inr (lines_last b text (unended (b ∷ text) e))

-- ---- the first line of a register

pub count_says : (line : List ℕ) (n : ℕ) → length line ≡ column.count_width → StandsFor entry_count line n → line ++ 10 ∷ [] ≡ count_line n
count_says line n len st =
    ap (λ (xs : List ℕ). xs ++ 10 ∷ []) (sym (take_all column.count_width line (omega (arith, len))) ∙ sym (spelled entry_count line n 1 (omega arith) refl refl (omega (arith, len)) st))

line_is : (line : List ℕ) (n : ℕ) → line ++ 10 ∷ [] ≡ count_line n → line ≡ line_of entry_count n
line_is line n e = append_cancel_right line (line_of entry_count n) (10 ∷ []) e

pub count_stands : (line : List ℕ) (n : ℕ) → n < 10 ^ 8 → line ++ 10 ∷ [] ≡ count_line n → StandsFor entry_count line n
count_stands line n small e =
    let P : List ℕ → Type 0 = λ xs. StandsFor entry_count xs n in
    subst P (sym (line_is line n e)) (stands entry_count n refl ((refl, refl), (small, tt)))

pub length-count : (line : List ℕ) (n : ℕ) → line ++ 10 ∷ [] ≡ count_line n → length line ≡ column.count_width
length-count line n e = ap length (line_is line n e)
