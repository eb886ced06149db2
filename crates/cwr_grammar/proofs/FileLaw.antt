-- What has no fault is a file.
use Rattle.std.proofs.Common.{◌≡◌, ℕ, ◌+◌, Bool, true, false, ◌||◌, cond, List, [], ◌∷◌, ◌++◌, length, map, Option, Some, None, arith, refl, sym, ap, ◌∙◌, length-append}
use Rattle.std.specs.List.{list_any, AllByRecursion}
use Rattle.cwr_grammar.specs.declared.role.Role.{Role}
use Rattle.cwr_grammar.specs.Roles.{role_of}
use Rattle.cwr_grammar.specs.Before.{is_file_trailer}
use Rattle.cwr_grammar.specs.FaultTests.{is_headless, is_after_end, is_tail, has_control, is_long}
use Rattle.cwr_grammar.specs.FirstFault.{role_fault, fault_at_end, at_line, or_number, line_fault, first_fault_after}
use Rattle.cwr_grammar.proofs.Enveloped.{first_role_fault}
use Rattle.cwr_grammar.specs.File.{File, IsFile, IsPlain, lines_of_groups}
use Rattle.cwr_grammar.proofs.Accepted.{accepted, split}
use Rattle.cwr_grammar.proofs.Complete.{step, file_end_is}
use Rattle.cwr_grammar.proofs.ReadSteps.{any_more}
use Rattle.cwr_grammar.proofs.FileCuts.{first_is, groups_cut}

pub unchain : (a h c l : Bool) (f x : Option ℕ) → a ≡ false → cond a x (cond h (Some 1) (cond c (Some 2) (or_number f (cond l (Some 12) None)))) ≡ None
    → (h ≡ false) × (c ≡ false) × (f ≡ None) × (l ≡ false)
unchain true h c l f x p e = absurd cc
unchain false true c l f x p e = absurd cc
unchain false false true l f x p e = absurd cc
unchain false false false l (Some n) x p e = absurd cc
unchain false false false true None x p e = absurd cc
unchain false false false false None x p e = (refl, refl, refl, refl)

unend : (a t : Bool) (x : Option ℕ) → a ≡ true → cond a (cond t None (Some 11)) x ≡ None → t ≡ true
unend false t x p e = absurd cc
unend true true x p e = refl
unend true false x p e = absurd cc

all_tail : (more before : List (List ℕ)) → is_after_end before ≡ true → first_fault_after before more ≡ None → AllByRecursion (λ line. is_tail line ≡ true) more
all_tail [] before ended e = tt
all_tail (line ∷ more) before ended e =
    let s = split (length before + 1) (line_fault before line) (first_fault_after (line ∷ before) more) e in
    (unend (is_after_end before) (is_tail line) _ ended s.0, all_tail more (line ∷ before) (any_more (role_of line) (map role_of before) ended) s.1)

pub moved : (j k : ℕ) (o : Option ℕ) → at_line j o ≡ None → at_line k o ≡ None
moved j k None e = refl
moved j k (Some n) e = absurd cc

one_clear : (before : List Role) (role : Role) → role_fault before role ≡ None → is_file_trailer role ≡ true → first_role_fault before (role ∷ []) ≡ None
one_clear before role none ended = step before [] role none ∙ ap (λ (b : Bool). at_line (length (role ∷ before) + 1) (cond (b || list_any is_file_trailer before) None (Some 11))) ended

pub record Split (before text : List (List ℕ)) : Type 0 where
  pub body : List (List ℕ)
  pub tail : List (List ℕ)
  pub is : text ≡ body ++ tail
  pub clear : first_role_fault (map role_of before) (map role_of body) ≡ None
  pub plain : AllByRecursion IsPlain body
  pub last : AllByRecursion (λ line. is_tail line ≡ true) tail

split_file : (text before : List (List ℕ)) → first_fault_after before text ≡ None → is_after_end before ≡ false → Split before text
split_file [] before e goes = record { body = []; tail = []; is = refl; clear = moved (length before + 1) (length (map role_of before) + 1) (fault_at_end (map role_of before)) e; plain = tt; last = tt }
split_file (line ∷ rest) before e goes =
    let s = split (length before + 1) (line_fault before line) (first_fault_after (line ∷ before) rest) e in
    let f = unchain (is_after_end before) (is_headless (map role_of before) (role_of line)) (has_control line) (is_long line) (role_fault (map role_of before) (role_of line)) (cond (is_tail line) None (Some 11)) goes s.0 in
    let P : Bool → Type 0 = λ b. is_file_trailer (role_of line) ≡ b → Split before (line ∷ rest) in
    (elim (is_file_trailer (role_of line)) as P [
      | true ↦ λ last. record {
        body = line ∷ [];
        tail = rest;
        is = refl;
        clear = one_clear (map role_of before) (role_of line) f.2 last;
        plain = ((f.1, f.3), tt);
        last = all_tail rest (line ∷ before) (ap (λ (b : Bool). b || list_any is_file_trailer (map role_of before)) last) s.1;
      }
      | false ↦ λ goes_on.
          let more = split_file rest (line ∷ before) s.1 (ap (λ (b : Bool). b || list_any is_file_trailer (map role_of before)) goes_on ∙ goes) in
          record {
            body = line ∷ more.body;
            tail = more.tail;
            is = ap (λ (xs : List (List ℕ)). line ∷ xs) more.is;
            clear = step (map role_of before) (map role_of more.body) (role_of line) f.2 ∙ more.clear;
            plain = ((f.1, f.3), more.plain);
            last = more.last;
          }
    ]) refl

nothing : (xs : List (List ℕ)) → map role_of xs ≡ [] → xs ≡ []
nothing [] e = refl
nothing (x ∷ xs) e = absurd cc

all_at : (xs ys : List (List ℕ)) → xs ≡ ys → AllByRecursion IsPlain xs → AllByRecursion IsPlain ys
all_at xs ys e h = rw (← e) h

-- ---- from no fault to a file

pub accepted_file : (text : List (List ℕ)) → first_fault_after [] text ≡ None → (f : File) × IsFile text f
accepted_file text e =
    let s = split_file text [] e refl in
    let types = accepted (map role_of s.body) s.clear in
    let first = first_is s.body _ _ types.1 in
    let groups = groups_cut types.0 1 first.rest _ first.others in
    let last = first_is groups.rest _ _ groups.others in
    let body : s.body ≡ first.line ∷ lines_of_groups groups.groups ++ last.line ∷ [] =
    first.is ∙ ap (λ (xs : List (List ℕ)). first.line ∷ xs) (groups.is ∙ ap (λ (xs : List (List ℕ)). lines_of_groups groups.groups ++ xs) (last.is ∙ ap (λ (xs : List (List ℕ)). last.line ∷ xs) (nothing last.rest last.others))) in (
      record { header = first.line; groups = groups.groups; trailer = last.line; tail = s.tail },
      record {
        lines = s.is ∙ ap (λ (xs : List (List ℕ)). xs ++ s.tail) body;
        header = first.read;
        groups = groups.are;
        trailer = last.read ∙ file_end_is _ _ _ _ _ _ (sym groups.count) (sym groups.transactions) (omega (arith, groups.lines, length-append (lines_of_groups groups.groups) (last.line ∷ [])));
        plain = all_at _ _ body s.plain;
        tail = s.last;
      },
    )
