-- A file has no fault, and stands for one list of lines alone.
use Rattle.std.proofs.Common.{◌≡◌, ℕ, suc, ◌+◌, Bool, true, false, cond, List, [], ◌∷◌, ◌++◌, length, map, Option, Some, None, arith, refl, sym, ap, ◌∙◌, length-append}
use Rattle.std.specs.List.{list_any, AllByRecursion}
use Rattle.std.proofs.lemmas.List.{map-append, length-map}
use Rattle.cwr_grammar.specs.declared.role.Role.{Role}
use Rattle.cwr_record.specs.declared.works.WorkKind.{WorkKind}
use Rattle.cwr_grammar.specs.Roles.{role_of}
use Rattle.cwr_grammar.specs.Before.{is_file_trailer}
use Rattle.cwr_grammar.specs.FaultTests.{is_headless, is_after_end, is_tail, has_control, is_long}
use Rattle.cwr_grammar.specs.FirstFault.{role_fault, at_line, or_else, or_number, line_fault, first_fault_after}
use Rattle.cwr_grammar.proofs.Enveloped.{first_role_fault, Group, transaction, transactions_from, size, all_transactions_of, all_lines_of, group_text, groups_from, envelope}
use Rattle.cwr_grammar.specs.File.{File, FileGroup, IsFile, IsPlain, AreGroups, AreTransactions, AreDetails, records_of, lines_of_group, lines_of_groups, joined, transactions_in}
use Rattle.cwr_grammar.proofs.Accepted.{details_from, split, end_is}
use Rattle.cwr_grammar.proofs.Complete.{envelope_clear, group_end_is, file_end_is}
use Rattle.cwr_grammar.proofs.ReadSteps.{any_more}

-- ---- the types of a file's lines are an envelope

abbrev detail_count : List (List ℕ) → ℕ
detail_count [] = 0
detail_count (line ∷ lines) = length lines

abbrev shape_of : FileGroup → Group
shape_of g = record { kind = g.kind; details = map detail_count g.transactions }

joins : (line : List ℕ) (lines : List (List ℕ)) (x : Role) (xs : List Role) → role_of line ≡ x → map role_of lines ≡ xs → map role_of (line ∷ lines) ≡ x ∷ xs
joins line lines x xs p q = ap (λ (y : Role). y ∷ map role_of lines) p ∙ ap (λ (ys : List Role). x ∷ ys) q

map_details : (j d : ℕ) (ds : List (List ℕ)) → AreDetails j d ds → map role_of ds ≡ details_from j d (length ds)
map_details j d [] h = refl
map_details j d (line ∷ ds) h = joins line ds _ _ h.0 (map_details j (d + 1) ds h.1)

map_transactions : (k : WorkKind) (j : ℕ) (ts : List (List (List ℕ))) → AreTransactions k j ts → (map role_of (joined ts) ≡ transactions_from k j (map detail_count ts)) × (length (joined ts) ≡ size (map detail_count ts))
map_transactions k j [] h = (refl, refl)
map_transactions k j ([] ∷ ts) h = absurd h.0
map_transactions k j ((line ∷ ds) ∷ ts) h =
    let more = map_transactions k (j + 1) ts h.1 in (
      map-append role_of (line ∷ ds) (joined ts)
          ∙ ap (λ (xs : List Role). xs ++ map role_of (joined ts)) (joins line ds _ _ h.0.0 (map_details j 1 ds h.0.1))
          ∙ ap (λ (xs : List Role). transaction k j (length ds) ++ xs) more.0,
      omega (arith, more.1, length-append ds (joined ts)),
    )

pub record SameCounts (gs : List FileGroup) (hs : List Group) : Type 0 where
  pub count : length gs ≡ length hs
  pub transactions : transactions_in gs ≡ all_transactions_of hs
  pub lines : length (lines_of_groups gs) ≡ all_lines_of hs

map_groups : (i : ℕ) (gs : List FileGroup) → AreGroups i gs → (map role_of (lines_of_groups gs) ≡ groups_from i (map shape_of gs)) × SameCounts gs (map shape_of gs)
map_groups i [] h = (refl, record { count = refl; transactions = refl; lines = refl })
map_groups i (g ∷ gs) (head, others) =
    let more = map_groups (i + 1) gs others in
    let here = map_transactions g.kind 0 g.transactions head.transactions in
    let counted = length-map g.transactions detail_count in
    let end = joins g.trailer [] _ [] (head.trailer ∙ group_end_is i (length g.transactions) (2 + length (joined g.transactions)) (length (map detail_count g.transactions)) (2 + size (map detail_count g.transactions)) (sym counted) (omega (arith, here.1))) refl in (
      map-append role_of (lines_of_group g) (lines_of_groups gs)
          ∙ ap (λ (xs : List Role). xs ++ map role_of (lines_of_groups gs)) (joins g.head _ _ _ head.head (map-append role_of (joined g.transactions) (g.trailer ∷ []) ∙ ap (λ (xs : List Role). xs ++ map role_of (g.trailer ∷ [])) here.0 ∙ ap (λ (xs : List Role). transactions_from g.kind 0 (map detail_count g.transactions) ++ xs) end))
          ∙ ap (λ (xs : List Role). group_text i (shape_of g) ++ xs) more.0,
      record {
        count = ap suc more.1.count;
        transactions = omega (arith, more.1.transactions, counted);
        lines = omega (arith, more.1.lines, here.1, length-append (lines_of_group g) (lines_of_groups gs), length-append (joined g.transactions) (g.trailer ∷ []));
      },
    )

map_file : (text : List (List ℕ)) (f : File) → IsFile text f → map role_of (records_of f) ≡ envelope (map shape_of f.groups)
map_file text f h =
    let body = map_groups 1 f.groups h.groups in
    let end = joins f.trailer [] _ [] (h.trailer ∙ file_end_is _ _ _ _ _ _ body.1.count body.1.transactions (omega (arith, body.1.lines, length-append (lines_of_groups f.groups) (f.trailer ∷ [])))) refl in
    joins f.header _ _ _ h.header (map-append role_of (lines_of_groups f.groups) (f.trailer ∷ []) ∙ ap (λ (xs : List Role). xs ++ map role_of (f.trailer ∷ [])) body.0 ∙ ap (λ (xs : List Role). groups_from 1 (map shape_of f.groups) ++ xs) end)

-- ---- no fault in the types, plain lines and a tail

ended_clear : (a t : Bool) (x : Option ℕ) → a ≡ true → t ≡ true → cond a (cond t None (Some 11)) x ≡ None
ended_clear a t x p q = rw (p, q) refl

tail_clear : (more before : List (List ℕ)) → is_after_end before ≡ true → AllByRecursion (λ line. is_tail line ≡ true) more → first_fault_after before more ≡ None
tail_clear [] [] ended h = absurd cc
tail_clear [] (b ∷ before) ended h = ap (λ (e : Bool). at_line (length (b ∷ before) + 1) (cond e None (Some 11))) ended
tail_clear (line ∷ more) before ended h =
    let none : line_fault before line ≡ None = ended_clear (is_after_end before) (is_tail line) _ ended h.0 in
    ap (λ (o : Option ℕ). or_else (at_line (length before + 1) o) (first_fault_after (line ∷ before) more)) none ∙ tail_clear more (line ∷ before) (any_more (role_of line) (map role_of before) ended) h.1

unfaulted : (e h : Bool) (other : Option ℕ) → cond e (Some 11) (cond h (Some 1) other) ≡ None → (e ≡ false) × (h ≡ false)
unfaulted true h other q = absurd cc
unfaulted false true other q = absurd cc
unfaulted false false other q = (refl, refl)

clear_line : (a h c l : Bool) (f x : Option ℕ) → a ≡ false → h ≡ false → c ≡ false → l ≡ false → f ≡ None → cond a x (cond h (Some 1) (cond c (Some 2) (or_number f (cond l (Some 12) None)))) ≡ None
clear_line a h c l f x p q r s e = rw (p, q, r, s, e) refl

body_clear : (body tail before : List (List ℕ)) → first_role_fault (map role_of before) (map role_of body) ≡ None → AllByRecursion IsPlain body → AllByRecursion (λ line. is_tail line ≡ true) tail
    → first_fault_after before (body ++ tail) ≡ None
body_clear [] tail before e plain last = tail_clear tail before (end_is (length (map role_of before) + 1) (map role_of before) e) last
body_clear (line ∷ body) tail before e plain last =
    let s = split (length (map role_of before) + 1) (role_fault (map role_of before) (role_of line)) (first_role_fault (role_of line ∷ map role_of before) (map role_of body)) e in
    let u = unfaulted (list_any is_file_trailer (map role_of before)) (is_headless (map role_of before) (role_of line)) _ s.0 in
    let none : line_fault before line ≡ None = clear_line (is_after_end before) (is_headless (map role_of before) (role_of line)) (has_control line) (is_long line) (role_fault (map role_of before) (role_of line)) _ u.0 u.1 plain.0.0 plain.0.1 s.0 in
    ap (λ (o : Option ℕ). or_else (at_line (length before + 1) o) (first_fault_after (line ∷ before) (body ++ tail))) none ∙ body_clear body tail (line ∷ before) s.1 plain.1 last

pub file_clear : (text : List (List ℕ)) (f : File) → IsFile text f → first_fault_after [] text ≡ None
file_clear text f h = ap (first_fault_after []) h.lines ∙ body_clear (records_of f) f.tail [] (ap (first_role_fault []) (map_file text f h) ∙ envelope_clear (map shape_of f.groups)) h.plain h.tail
