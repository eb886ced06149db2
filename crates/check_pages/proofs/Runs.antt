-- The places of a line, run by run.
use Rattle.std.proofs.Common.{◌≡◌, ◌∙◌, ◌⊎◌, inl, inr, ℕ, zero, suc, ◌+◌, ◌-◌, ◌<◌, ◌≤◌, Bool, true, false, cond, not, ◌&&◌, ◌||◌, List, [], ◌∷◌, ◌++◌, length, get_or, take, drop, replicate, refl, sym, ap, ap₂, subst, arith, lt-ltb, le-ltb, ne_eqb, append_assoc, append-nil}
use Rattle.std.specs.Prelude.{◌==◌}
use Rattle.std.specs.List.{flat_map}
use Rattle.std.proofs.Math.Seq.{drop-cons}
use Rattle.cwr_record.specs.declared.columns.Column.{Column}
use Rattle.html_text.specs.Pieces.{Piece, Fixed, cell, field_cell}
use Rattle.html_text.specs.declared.fragment.Fragment.{Fragment}
use Rattle.html_text.specs.declared.fragment.Fragment.TheVariants.{Beyond, MarkEnd}
use Rattle.check_pages.specs.Boxes.{is_before, is_inside, is_start, is_opened, is_closed, place_shown, where_so, marked, IsRun, run_shown}

-- the places from one on, and those behind them
pub marked_append : (o c : ℕ → Bool) (s : ℕ → List Piece) (m : Fragment) (p a b : ℕ) → marked o c s m p (a + b) ≡ marked o c s m p a ++ marked o c s m (p + a) b
unfolding marked
marked_append o c s m p zero b =
    let none : 0 + b ≡ b = omega arith in
    let same : p ≡ p + 0 = omega arith in
    ap (λ (n : ℕ). marked o c s m p n) none ∙ ap (λ (q : ℕ). marked o c s m q b) same
marked_append o c s m p (suc a) b =
    let this = where_so (o p) m ++ (s p ++ where_so (c p) MarkEnd) in
    let all : suc a + b ≡ suc (a + b) = omega arith in
    let at : suc p + a ≡ p + suc a = omega arith in
    ap (λ (n : ℕ). marked o c s m p n) all
    ∙ ap (λ (l : List Piece). this ++ l) (marked_append o c s m (suc p) a b)
    ∙ sym (append_assoc this (marked o c s m (suc p) a) (marked o c s m (suc p + a) b))
    ∙ ap (λ (q : ℕ). (this ++ marked o c s m (suc p) a) ++ marked o c s m q b) at

abbrev shows_from : (ℕ → List Piece) → ℕ → ℕ → List Piece
shows_from s p zero = []
shows_from s p (suc n) = s p ++ shows_from s (suc p) n

-- places with a mark at most around all of them
run : (o c : ℕ → Bool) (s : ℕ → List Piece) (m : Fragment) (p n : ℕ) → ((k : ℕ) → p < k → k < p + suc n → o k ≡ false) → ((k : ℕ) → p ≤ k → k < p + n → c k ≡ false)
    → marked o c s m p (suc n) ≡ where_so (o p) m ++ (shows_from s p (suc n) ++ where_so (c (p + n)) MarkEnd)
unfolding marked
run o c s m p zero ho hc =
    let w = where_so (o p) m in
    let same : p ≡ p + 0 = omega arith in
    append-nil (w ++ (s p ++ where_so (c p) MarkEnd))
    ∙ ap (λ (x : List Piece). w ++ (x ++ where_so (c p) MarkEnd)) (sym (append-nil (s p)))
    ∙ ap (λ (k : ℕ). w ++ ((s p ++ []) ++ where_so (c k) MarkEnd)) same
run o c s m p (suc n) ho hc =
    let w = where_so (o p) m in
    let rest = shows_from s (suc p) (suc n) ++ where_so (c (suc p + n)) MarkEnd in
    let closed : c p ≡ false = hc p (omega arith) (omega arith) in
    let opened : o (suc p) ≡ false = ho (suc p) (omega arith) (omega arith) in
    let later : marked o c s m (suc p) (suc n) ≡ where_so (o (suc p)) m ++ rest = run o c s m (suc p) n (λ k lo hi. ho k (omega (arith, lo)) (omega (arith, hi))) (λ k lo hi. hc k (omega (arith, lo)) (omega (arith, hi))) in
    let at : suc p + n ≡ p + suc n = omega arith in
    ap₂ (λ (b : Bool) (l : List Piece). (w ++ (s p ++ where_so b MarkEnd)) ++ l) closed (later ∙ ap (λ (b : Bool). where_so b m ++ rest) opened)
    ∙ ap (λ (x : List Piece). (w ++ x) ++ rest) (append-nil (s p))
    ∙ append_assoc w (s p) rest
    ∙ ap (λ (x : List Piece). w ++ x) (sym (append_assoc (s p) (shows_from s (suc p) (suc n)) (where_so (c (suc p + n)) MarkEnd)))
    ∙ ap (λ (k : ℕ). w ++ ((s p ++ shows_from s (suc p) (suc n)) ++ where_so (c k) MarkEnd)) at

-- places behind the end of the line
beyond : (s : ℕ → List Piece) (p n : ℕ) → ((k : ℕ) → p ≤ k → k < p + n → s k ≡ Fixed Beyond ∷ []) → shows_from s p n ≡ replicate n (Fixed Beyond)
beyond s p zero each = refl
beyond s p (suc n) each =
    ap₂ (λ (a b : List Piece). a ++ b) (each p (omega arith) (omega arith)) (beyond s (suc p) n (λ k lo hi. each k (omega (arith, lo)) (omega (arith, hi))))

-- places of bytes of the line
bytes : (f : ℕ → List Piece) (s : ℕ → List Piece) (line : List ℕ) (i n : ℕ) → ((k : ℕ) → suc i ≤ k → k < suc i + n → s k ≡ f (get_or line (k - 1) 0)) → i + n ≤ length line
    → shows_from s (suc i) n ≡ flat_map f (take n (drop i line))
bytes f s line i zero each within = refl
bytes f s line i (suc n) each within =
    let same : suc i - 1 ≡ i = omega arith in
    let lt : i < length line = omega arith in
    rw (drop-cons line i 0 lt)
    (ap₂ (λ (a b : List Piece). a ++ b) (each (suc i) (omega arith) (omega arith) ∙ ap (λ (k : ℕ). f (get_or line k 0)) same)
    (bytes f s line (suc i) n (λ k lo hi. each k (omega (arith, lo)) (omega (arith, hi))) (omega arith)))

neither_opens : (a b s : Bool) → s ≡ false → b ≡ a → (a && (s || not b)) ≡ false
neither_opens true b s off same = rw (off, same) refl
neither_opens false b s off same = refl

neither_closes : (a b s l : Bool) → l ≡ false → s ≡ false → b ≡ a → (a && (l || s || not b)) ≡ false
neither_closes true b s l other off same = rw (other, off, same) refl
neither_closes false b s l other off same = refl

opens_none : (spots : List Column) (at end k : ℕ) → IsRun spots at end → 0 < at → at < k → k < end → is_opened spots k ≡ false
opens_none spots at end k is some lo hi =
    neither_opens (is_inside spots k) (is_before spots k) (is_start spots k) (is.unbroken k lo hi)
    (ap (λ (b : Bool). b && is_inside spots (k - 1)) (lt-ltb 1 k (omega (arith, some, lo)))
    ∙ is.alike (k - 1) (omega (arith, some, lo)) (omega (arith, hi))
    ∙ sym (is.alike k (omega (arith, lo)) hi))

closes_none : (spots : List Column) (at end last k : ℕ) → IsRun spots at end → end ≤ last + 1 → at ≤ k → k + 1 < end → is_closed spots last k ≡ false
closes_none spots at end last k is most lo hi =
    neither_closes (is_inside spots k) (is_inside spots (k + 1)) (is_start spots (k + 1)) (k == last) (ne_eqb k last (λ e. omega (arith, e)))
    (is.unbroken (k + 1) (omega arith) hi) (is.alike (k + 1) (omega arith) hi ∙ sym (is.alike k lo (omega arith)))

-- what a place shows that is in the line
place_in : (line : List ℕ) (spots : List Column) (inside : Bool) (k : ℕ) → k ≤ length line → is_inside spots k ≡ inside → place_shown line spots k ≡ cond inside (field_cell (get_or line (k - 1) 0)) (cell (get_or line (k - 1) 0))
place_in line spots inside k le is = rw (le-ltb (length line) k le, is) refl

place_behind : (line : List ℕ) (spots : List Column) (k : ℕ) → length line < k → place_shown line spots k ≡ Fixed Beyond ∷ []
place_behind line spots k lt = rw (lt-ltb (length line) k lt) refl

shows_in : (line : List ℕ) (spots : List Column) (inside : Bool) (i n : ℕ) → i + suc n ≤ length line → ((k : ℕ) → suc i ≤ k → k < suc i + suc n → is_inside spots k ≡ inside)
    → shows_from (place_shown line spots) (suc i) (suc n) ≡ cond inside (flat_map field_cell (take (suc n) (drop i line))) (flat_map cell (take (suc n) (drop i line)))
shows_in line spots true i n within alike =
    bytes field_cell (place_shown line spots) line i (suc n) (λ k lo hi. place_in line spots true k (omega (arith, hi)) (alike k lo hi)) within
shows_in line spots false i n within alike =
    bytes cell (place_shown line spots) line i (suc n) (λ k lo hi. place_in line spots false k (omega (arith, hi)) (alike k lo hi)) within

run_in : (line : List ℕ) (inside : Bool) (i n : ℕ) → i + suc n ≤ length line
    → run_shown line inside (suc i) (suc i + suc n) ≡ cond inside (flat_map field_cell (take (suc n) (drop i line))) (flat_map cell (take (suc n) (drop i line)))
run_in line inside i n within =
    let size : (suc i + suc n) - suc i ≡ suc n = omega arith in
    let first : suc i - 1 ≡ i = omega arith in
    rw (le-ltb (length line) (suc i) (omega (arith, within)), size, first) refl

run_behind : (line : List ℕ) (inside : Bool) (i n : ℕ) → length line < suc i → run_shown line inside (suc i) (suc i + suc n) ≡ replicate (suc n) (Fixed Beyond)
run_behind line inside i n behind =
    let size : (suc i + suc n) - suc i ≡ suc n = omega arith in
    rw (lt-ltb (length line) (suc i) behind, size) refl

shows_run : (line : List ℕ) (spots : List Column) (i n : ℕ) → ((suc i + suc n ≤ length line + 1) ⊎ (length line < suc i)) → IsRun spots (suc i) (suc i + suc n)
    → shows_from (place_shown line spots) (suc i) (suc n) ≡ run_shown line (is_inside spots (suc i)) (suc i) (suc i + suc n)
shows_run line spots i n (inl within) is =
    shows_in line spots (is_inside spots (suc i)) i n (omega (arith, within)) (λ k lo hi. is.alike k lo hi)
    ∙ sym (run_in line (is_inside spots (suc i)) i n (omega (arith, within)))
shows_run line spots i n (inr behind) is =
    beyond (place_shown line spots) (suc i) (suc n) (λ k lo hi. place_behind line spots k (omega (arith, lo, behind)))
    ∙ sym (run_behind line (is_inside spots (suc i)) i n behind)

run_by : (line : List ℕ) (spots : List Column) (mark : Fragment) (last i n : ℕ) → IsRun spots (suc i) (suc i + suc n) → suc i + suc n ≤ last + 1
    → ((suc i + suc n ≤ length line + 1) ⊎ (length line < suc i))
    → marked (is_opened spots) (is_closed spots last) (place_shown line spots) mark (suc i) (suc n)
    ≡ where_so (is_opened spots (suc i)) mark ++ (run_shown line (is_inside spots (suc i)) (suc i) (suc i + suc n) ++ where_so (is_closed spots last (suc i + n)) MarkEnd)
run_by line spots mark last i n is most where_it =
    run (is_opened spots) (is_closed spots last) (place_shown line spots) mark (suc i) n (λ k lo hi. opens_none spots (suc i) (suc i + suc n) k is (omega arith) lo hi)
    (λ k lo hi. closes_none spots (suc i) (suc i + suc n) last k is most lo (omega (arith, hi)))
    ∙ ap (λ (l : List Piece). where_so (is_opened spots (suc i)) mark ++ (l ++ where_so (is_closed spots last (suc i + n)) MarkEnd)) (shows_run line spots i n where_it is)

abbrev run_parts : List ℕ → List Column → Fragment → ℕ → ℕ → ℕ → List Piece
run_parts line spots begin last at end =
    where_so (is_opened spots at) begin ++ (run_shown line (is_inside spots at) at end ++ where_so (is_closed spots last (end - 1)) MarkEnd)

run_to : (line : List ℕ) (spots : List Column) (begin : Fragment) (last i n : ℕ) → IsRun spots (suc i) (suc i + suc n) → suc i + suc n ≤ last + 1
    → ((suc i + suc n ≤ length line + 1) ⊎ (length line < suc i))
    → marked (is_opened spots) (is_closed spots last) (place_shown line spots) begin (suc i) ((suc i + suc n) - suc i) ≡ run_parts line spots begin last (suc i) (suc i + suc n)
run_to line spots begin last i n is most it =
    let size : (suc i + suc n) - suc i ≡ suc n = omega arith in
    let final : suc i + n ≡ suc i + suc n - 1 = omega arith in
    ap (λ (k : ℕ). marked (is_opened spots) (is_closed spots last) (place_shown line spots) begin (suc i) k) size
    ∙ run_by line spots begin last i n is most it
    ∙ ap (λ (k : ℕ). where_so (is_opened spots (suc i)) begin ++ (run_shown line (is_inside spots (suc i)) (suc i) (suc i + suc n) ++ where_so (is_closed spots last k) MarkEnd)) final

-- the places of a run
pub run_of : (line : List ℕ) (spots : List Column) (begin : Fragment) (last at end : ℕ) → 1 ≤ at → IsRun spots at end → end ≤ last + 1
    → ((end ≤ length line + 1) ⊎ (length line < at))
    → marked (is_opened spots) (is_closed spots last) (place_shown line spots) begin at (end - at) ≡ run_parts line spots begin last at end
run_of line spots begin last zero end first is most it = absurd (omega (arith, first))
run_of line spots begin last (suc i) end first is most it =
    let n = end - suc (suc i) in
    let some : suc i < end = is.some in
    let size : suc i + suc n ≡ end = omega arith in
    subst (λ (e : ℕ). IsRun spots (suc i) e → e ≤ last + 1 → ((e ≤ length line + 1) ⊎ (length line < suc i)) → marked (is_opened spots) (is_closed spots last) (place_shown line spots) begin (suc i) (e - suc i) ≡ run_parts line spots begin last (suc i) e)
    size (λ is most it. run_to line spots begin last i n is most it) is most it

-- what is left of a line begins with a run
pub run_first : (line : List ℕ) (spots : List Column) (begin : Fragment) (last at end : ℕ) → at ≤ end → end ≤ last + 1
    → marked (is_opened spots) (is_closed spots last) (place_shown line spots) begin at (last + 1 - at)
    ≡ marked (is_opened spots) (is_closed spots last) (place_shown line spots) begin at (end - at) ++ marked (is_opened spots) (is_closed spots last) (place_shown line spots) begin end (last + 1 - end)
run_first line spots begin last at end some most =
    let all : last + 1 - at ≡ (end - at) + (last + 1 - end) = omega arith in
    let next : at + (end - at) ≡ end = omega arith in
    ap (λ (k : ℕ). marked (is_opened spots) (is_closed spots last) (place_shown line spots) begin at k) all
    ∙ marked_append (is_opened spots) (is_closed spots last) (place_shown line spots) begin at (end - at) (last + 1 - end)
    ∙ ap (λ (k : ℕ). marked (is_opened spots) (is_closed spots last) (place_shown line spots) begin at (end - at) ++ marked (is_opened spots) (is_closed spots last) (place_shown line spots) begin k (last + 1 - end)) next

-- no place is left
pub none_left : (line : List ℕ) (spots : List Column) (begin : Fragment) (last n at : ℕ) → n ≡ 0 → marked (is_opened spots) (is_closed spots last) (place_shown line spots) begin at n ≡ []
unfolding marked
none_left line spots begin last n at none = ap (λ (k : ℕ). marked (is_opened spots) (is_closed spots last) (place_shown line spots) begin at k) none
