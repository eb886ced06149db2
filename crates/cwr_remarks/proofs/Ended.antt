-- Where remarks end: at a line, or with the text.
use Rattle.std.proofs.Common.{eqb, true, false, cond, ◌≡◌, ◌≤◌, ◌<◌, ℕ, ◌+◌, List, [], ◌∷◌, ◌++◌, length, Bool, Option, Some, None, ◌∙◌, ap, ap₂, sym, refl, append_assoc, arith}
use Rattle.std.specs.Prelude.{nat_lt, ◌&&◌}
use Rattle.std.specs.List.{slice_split}
use Rattle.std.specs.Str.Lines.{lines, lines_of_parts}
use Rattle.std.proofs.lemmas.Bool.Decides.{nat_tests}
use Rattle.std.proofs.lemmas.List.{append-nil}
use Rattle.std.proofs.lemmas.List.Splits.{length-slice_split}
use Rattle.std.proofs.lemmas.List.Sums.{count_by-le-length}
use Rattle.cwr_record.specs.Columns.{field_at, every_record_type}
use Rattle.cwr_record.specs.RecordTypes.{type_of}
use Rattle.cwr_record.specs.declared.record_type.RecordType.{RecordType}
use Rattle.cwr_remarks.specs.HighBytes.{high_bytes}
use Rattle.cwr_remarks.specs.Layouts.{layout_of, past_layout}
use Rattle.cwr_remarks.specs.Types.{unknown_type}
use Rattle.cwr_remarks.specs.Territories.{has_territories, are_excluded, only_excluded}
use Rattle.cwr_remarks.specs.OnLine.{remark_on}
use Rattle.cwr_remarks.specs.Remarks.{remarks_on, remarks_from, remarks_to}
use Rattle.cwr_remarks.specs.Typed.{left, looked_at, IsTyped}
use Rattle.cwr_remarks.specs.declared.typed.Typed.{Typed}
use Rattle.cwr_remarks.specs.declared.remark.Remark.{Remark}
use Rattle.cwr_remarks.specs.declared.remark.Remarked.{Remarked}
use Rattle.cwr_remarks.specs.declared.remark.Remarked.TheVariants.{OnlyExcluded}

-- at the end nothing more is remarked
pub stopped : (end number : ℕ) (ls : List (List ℕ)) → nat_lt number end ≡ false → remarks_to end number ls ≡ []
stopped end number [] h = refl
stopped end number (line ∷ ls) h = rw h refl

none_excluded : (t : RecordType) (after : List (List ℕ)) → has_territories t ≡ false → only_excluded t after ≡ None
none_excluded t after h = ap (λ (b : Bool). cond (b && are_excluded t false after) (Some OnlyExcluded) None) h

-- what is remarked of a record that has no territories does not depend on the lines after it
behind : (number : ℕ) (line : List ℕ) (after other : List (List ℕ)) → only_excluded (type_of line) other ≡ only_excluded (type_of line) after → remarks_on number line other ≡ remarks_on number line after
behind number line after other same =
    ap
    (λ (what : Option Remarked). remark_on number line (high_bytes line)
    ++ remark_on number line (past_layout (length line) (layout_of (type_of line)))
    ++ remark_on number line (unknown_type (type_of line) (field_at line every_record_type))
    ++ remark_on number line what)
    same

at_taken : (end number : ℕ) (line : List ℕ) (t : RecordType) (rest : List (List ℕ)) (b : Bool) → has_territories t ≡ b → t ≡ type_of line → number + 1 ≡ end
    → remarks_to end number (line ∷ cond b rest []) ≡ remarks_to end number (line ∷ rest)
at_taken end number line t rest true h is at = refl
at_taken end number line t rest false h is at =
    let here : nat_lt number end ≡ true = grind (arith, nat_tests, at) in
    let over : nat_lt (number + 1) end ≡ false = grind (arith, nat_tests, at) in
    let none : has_territories (type_of line) ≡ false = ap has_territories (sym is) ∙ h in
    rw here
    (ap₂ (λ (one more : List Remark). one ++ more)
    (behind number line rest [] (none_excluded (type_of line) [] none ∙ sym (none_excluded (type_of line) rest none)))
    (stopped end (number + 1) [] over ∙ sym (stopped end (number + 1) rest over)))

-- so the lines behind the last are looked at only where it has territories
at_last : (end number : ℕ) (next : Option Typed) (rest : List (List ℕ)) → IsTyped next → number + 1 ≡ end
    → remarks_to end number (left next (looked_at next rest)) ≡ remarks_to end number (left next rest)
at_last end number None rest typed h = refl
at_last end number (Some taken) rest typed h = at_taken end number taken.line.now taken.record_type rest (has_territories taken.record_type) refl typed h

pushed_on : (end number : ℕ) (line : List ℕ) (after : List (List ℕ)) (found new all : List Remark) → number < end
    → new ≡ found ++ remarks_on number line after → found ++ remarks_to end number (line ∷ after) ≡ all → new ++ remarks_to end (number + 1) after ≡ all
pushed_on end number line after found new all inside pushed so_far =
    let here : nat_lt number end ≡ true = grind (arith, nat_tests, inside) in
    ap (λ (rs : List Remark). rs ++ remarks_to end (number + 1) after) pushed
    ∙ append_assoc found (remarks_on number line after) (remarks_to end (number + 1) after)
    ∙ (rw here at so_far)

-- a line more, before the end
pub one_more : (end number : ℕ) (next : Option Typed) (taken : Typed) (rest after : List (List ℕ)) (found new all : List Remark) → number < end → next ≡ Some taken → after ≡ rest
    → new ≡ found ++ remarks_on number taken.line.now after → found ++ remarks_to end number (left next rest) ≡ all → new ++ remarks_to end (number + 1) after ≡ all
one_more end number next taken rest after found new all inside is same pushed so_far =
    pushed_on end number taken.line.now after found new all inside pushed
    (ap (λ (ls : List (List ℕ)). found ++ remarks_to end number (taken.line.now ∷ ls)) same
    ∙ ap (λ (o : Option Typed). found ++ remarks_to end number (left o rest)) (sym is)
    ∙ so_far)

-- the lines up to the last one, and the last one
pub both : (end last : ℕ) (next : Option Typed) (rest later : List (List ℕ)) (found new : List Remark) (all : List Remark) → IsTyped next → last + 1 ≡ end
    → found ++ remarks_to end last (left next rest) ≡ all → new ++ remarks_to end end later ≡ found ++ remarks_to end last (left next (looked_at next rest)) → new ≡ all
both end last next rest later found new all typed h first then =
    let over : nat_lt end end ≡ false = grind (arith, nat_tests) in
    sym (append-nil new)
    ∙ ap (λ (rs : List Remark). new ++ rs) (sym (stopped end end later over))
    ∙ then
    ∙ ap (λ (rs : List Remark). found ++ rs) (at_last end last next rest typed h)
    ∙ first

-- where the end is past the last line, all of them are looked at
pub whole : (end number : ℕ) (ls : List (List ℕ)) → number + length ls < end → remarks_to end number ls ≡ remarks_from number ls
whole end number [] h = refl
whole end number (line ∷ ls) h =
    let inside : nat_lt number end ≡ true = grind (arith, nat_tests, h) in
    let later : remarks_to end (number + 1) ls ≡ remarks_from (number + 1) ls = whole end (number + 1) ls (omega (arith, h)) in
    rw inside (ap (λ (rs : List Remark). remarks_on number line ls ++ rs) later)

parts_few : (parts : List (List ℕ)) → length (lines_of_parts parts) ≤ length parts
parts_few [] = omega arith
parts_few (part ∷ []) = elim (eqb (length part) 0) as (λ b. length (cond b [] (part ∷ [])) ≤ 1) [ true ↦ omega arith | false ↦ omega arith ]
parts_few (part ∷ next ∷ parts) = omega (arith, parts_few (next ∷ parts))

-- a text has no more lines than bytes, but for one
pub few_lines : (bytes : List ℕ) → length (lines bytes) ≤ length bytes + 1
few_lines bytes =
    omega (arith, parts_few (slice_split (λ b. eqb b 10) bytes), length-slice_split (λ b. eqb b 10) bytes, count_by-le-length (λ b. eqb b 10) bytes)
