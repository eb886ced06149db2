-- One line of a file more.
use Rattle.std.proofs.Common.{◌≡◌, ℕ, suc, ◌+◌, ◌≤◌, ◌<◌, Bool, true, false, ◌||◌, cond, List, [], ◌∷◌, length, map, Option, Some, None, arith, refl, sym, ap, ◌∙◌}
use Rattle.std.specs.List.{list_any}
use Rattle.std.proofs.lemmas.Bool.Decides.{nat_tests}
use Rattle.cwr_grammar.specs.declared.role.Role.{Role}
use Rattle.cwr_grammar.specs.declared.file_counts.FileCounts.{FileCounts}
use Rattle.cwr_grammar.specs.Before.{is_file_trailer}
use Rattle.cwr_grammar.specs.FaultTests.{is_headless, is_after_end, is_tail, has_control, is_long}
use Rattle.cwr_grammar.specs.FirstFault.{with_eleven, role_fault, or_number, line_fault, first_fault_after, tail_fault}
use Rattle.cwr_grammar.specs.Roles.{role_of}
use Rattle.cwr_grammar.specs.Counted.{counts_of}

-- ---- the fault of a line

chain : (a h c l : Bool) (f : Option ℕ) (x : Option ℕ) → a ≡ false → h ≡ false → c ≡ false → f ≡ None
    → cond a x (cond h (Some 1) (cond c (Some 2) (or_number f (cond l (Some 12) None)))) ≡ cond l (Some 12) None
chain a h c l f x p q r e = rw (p, q, r, e) refl

chain_fault : (a h c : Bool) (f : Option ℕ) (x y : Option ℕ) (n : ℕ) → a ≡ false → h ≡ false → c ≡ false → f ≡ Some n
    → cond a x (cond h (Some 1) (cond c (Some 2) (or_number f y))) ≡ Some n
chain_fault a h c f x y n p q r e = rw (p, q, r, e) refl

ended_is : (before : List (List ℕ)) (s : FileCounts) → s ≡ counts_of (map role_of before) → s.is_ended ≡ false → is_after_end before ≡ false
ended_is before s is goes = sym (ap (λ (x : FileCounts). x.is_ended) is) ∙ goes

headless_is : (before : List Role) (role other : Role) (b : Bool) → role ≡ other → b ≡ is_headless before role → is_headless before other ≡ b
headless_is before role other b read e = sym (e ∙ ap (is_headless before) read)

fault_is : (before : List Role) (role other : Role) (o : Option ℕ) → role ≡ other → o ≡ role_fault before role → role_fault before other ≡ o
fault_is before role other o read e = sym (e ∙ ap (role_fault before) read)

last_fault : (before : List (List ℕ)) (line : List ℕ) (role : Role) (s : FileCounts) → s ≡ counts_of (map role_of before) → s.is_ended ≡ false → role ≡ role_of line
    → false ≡ is_headless (map role_of before) role → false ≡ has_control line → None ≡ role_fault (map role_of before) role → line_fault before line ≡ cond (is_long line) (Some 12) None
last_fault before line role s is goes read head control fault =
    chain (is_after_end before) (is_headless (map role_of before) (role_of line)) (has_control line) (is_long line) (role_fault (map role_of before) (role_of line)) (cond (is_tail line) None (Some 11))
    (ended_is before s is goes) (headless_is (map role_of before) role (role_of line) false read head) (sym control) (fault_is (map role_of before) role (role_of line) None read fault)

pub grammar_fault : (before : List (List ℕ)) (line : List ℕ) (role : Role) (s : FileCounts) (n : ℕ) → s ≡ counts_of (map role_of before) → s.is_ended ≡ false → role ≡ role_of line
    → false ≡ is_headless (map role_of before) role → false ≡ has_control line → Some n ≡ role_fault (map role_of before) role → Some n ≡ line_fault before line
grammar_fault before line role s n is goes read head control fault =
    sym (chain_fault (is_after_end before) (is_headless (map role_of before) (role_of line)) (has_control line) (role_fault (map role_of before) (role_of line)) (cond (is_tail line) None (Some 11)) (cond (is_long line) (Some 12) None) n
    (ended_is before s is goes) (headless_is (map role_of before) role (role_of line) false read head) (sym control) (fault_is (map role_of before) role (role_of line) (Some n) read fault))

pub long_is : (line : List ℕ) → 4096 < length line → is_long line ≡ true
long_is line lt = grind (arith, nat_tests)

pub short_is : (line : List ℕ) → length line ≤ 4096 → is_long line ≡ false
short_is line le = grind (arith, nat_tests)

pub long_fault : (before : List (List ℕ)) (line : List ℕ) (role : Role) (s : FileCounts) → s ≡ counts_of (map role_of before) → s.is_ended ≡ false → role ≡ role_of line
    → false ≡ is_headless (map role_of before) role → false ≡ has_control line → None ≡ role_fault (map role_of before) role → is_long line ≡ true → Some 12 ≡ line_fault before line
long_fault before line role s is goes read head control fault long = sym (last_fault before line role s is goes read head control fault ∙ rw long refl)

pub no_fault : (before : List (List ℕ)) (line : List ℕ) (role : Role) (s : FileCounts) → s ≡ counts_of (map role_of before) → s.is_ended ≡ false → role ≡ role_of line
    → false ≡ is_headless (map role_of before) role → false ≡ has_control line → None ≡ role_fault (map role_of before) role → is_long line ≡ false → None ≡ line_fault before line
no_fault before line role s is goes read head control fault long = sym (last_fault before line role s is goes read head control fault ∙ rw long refl)

-- ---- after the end

pub any_more : (line : Role) (before : List Role) → list_any is_file_trailer before ≡ true → list_any is_file_trailer (line ∷ before) ≡ true
any_more line before e = elim (is_file_trailer line) as (λ b. (b || list_any is_file_trailer before) ≡ true) [ true ↦ refl | false ↦ e ]

pub after_end : (before more : List (List ℕ)) → is_after_end before ≡ true → first_fault_after before more ≡ with_eleven (tail_fault (length before + 1) more)
after_end [] [] ended = absurd cc
after_end (b ∷ before) [] ended = rw ended refl
after_end before (line ∷ more) ended =
    let P : Bool → Type 0 = λ b. is_tail line ≡ b → first_fault_after before (line ∷ more) ≡ with_eleven (tail_fault (length before + 1) (line ∷ more)) in
    (elim (is_tail line) as P [
      | true ↦ λ e. let later = after_end (line ∷ before) more (any_more (role_of line) (map role_of before) ended) in let place : suc (length before) + 1 ≡ length before + 1 + 1 = omega arith in rw (ended, e, later, place) refl
      | false ↦ λ e. rw (ended, e) refl
    ]) refl
