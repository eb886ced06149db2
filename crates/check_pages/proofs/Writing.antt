-- Parts of a page that are written one after the other, and what is left to write.
use Rattle.std.proofs.Common.{◌≡◌, ◌∙◌, ◌+◌, ◌-◌, ◌<◌, ℕ, List, [], ◌∷◌, ◌++◌, Option, Some, None, length, get_or, set, count_by, refl, sym, ap, subst, arith, append_assoc, append-nil}
use Rattle.std.specs.Io.KnownBytes.{Appends, Keeps, append_known}
use Rattle.cwr_remarks.specs.declared.remark.Remark.{Remark}
use Rattle.cwr_report.specs.declared.finding.Finding.{Finding}
use Rattle.cwr_report.specs.Walks.{line_at}
use Rattle.std.specs.Str.Lines.{lines}
use Rattle.cwr_report.specs.Reported.{Reported}
use Rattle.html_text.specs.Fragments.{fragment_text}
use Rattle.html_text.specs.Pieces.{Piece, Fixed, page_text}
use Rattle.html_text.specs.declared.fragment.Fragment.TheVariants.{End}
use Rattle.html_text.proofs.lemmas.Pages.{page_append}
use Rattle.check_pages.specs.CheckPages.{all_remarks_pieces, check_page, faults_pieces, remarks_head_pieces}
use Rattle.check_pages.specs.Facts.{fault_count, front_pieces}
use Rattle.check_pages.specs.RemarkSections.{remark_pieces, remarks_pieces}
use Rattle.check_pages.specs.Sections.{finding_pieces, findings_pieces, is_of, line_of_first}
use Rattle.check_pages.specs.Tallies.{IsTally}
use Rattle.check_pages.proofs.Counts.{counted}

-- two parts in turn
pub in_turn : (a b c : Option (List ℕ)) (xs ys : List ℕ) → Appends a b xs → Appends b c ys → Appends a c (xs ++ ys)
in_turn None b c xs ys f g = tt
in_turn (Some x) None c xs ys f g = absurd f
in_turn (Some x) (Some y) None xs ys f g = absurd g
in_turn (Some x) (Some y) (Some z) xs ys f g = g ∙ ap (λ (text : List ℕ). text ++ ys) f ∙ append_assoc x xs ys

-- no part
pub nothing : (a : Option (List ℕ)) → Appends a a []
nothing None = tt
nothing (Some x) = sym (append-nil x)

-- what is kept stands
pub kept : (a b c : Option (List ℕ)) (xs : List ℕ) → Appends a b xs → Keeps b c → Appends a c xs
kept None b c xs f k = tt
kept (Some x) None c xs f k = absurd f
kept (Some x) (Some y) None xs f k = absurd k
kept (Some x) (Some y) (Some z) xs f k = k ∙ f

-- a block is written that was made in an empty buffer
pub written : (a b : Option (List ℕ)) (empty block : List ℕ) (page : List Piece) → empty ≡ [] → block ≡ empty ++ page_text page → Appends a b block → Appends a b (page_text page)
written a b empty block page none is wrote = subst (λ (text : List ℕ). Appends a b text) (is ∙ ap (λ (l : List ℕ). l ++ page_text page) none) wrote

-- what is known with nothing gathered behind it
pub with_none : (a : Option (List ℕ)) → append_known a [] ≡ a
with_none None = refl
with_none (Some x) = ap (λ (text : List ℕ). Some text) (append-nil x)

-- more is gathered behind what is known
pub gathered : (a : Option (List ℕ)) (old new more : List ℕ) → new ≡ old ++ more → Appends (append_known a old) (append_known a new) more
gathered None old new more is = tt
gathered (Some x) old new more is = ap (λ (text : List ℕ). x ++ text) is ∙ sym (append_assoc x old more)

-- what was gathered is written
pub put_down : (a b : Option (List ℕ)) (text : List ℕ) → Appends a b text → Keeps (append_known a text) b
put_down None b text wrote = tt
put_down (Some x) None text wrote = absurd wrote
put_down (Some x) (Some y) text wrote = wrote

-- and then nothing is gathered
pub put_down_all : (a b : Option (List ℕ)) (text rest : List ℕ) → rest ≡ [] → Appends a b text → Keeps (append_known a text) (append_known b rest)
put_down_all None b text rest none wrote = tt
put_down_all (Some x) None text rest none wrote = absurd wrote
put_down_all (Some x) (Some y) text rest none wrote = ap (λ (l : List ℕ). y ++ l) none ∙ append-nil y ∙ wrote

-- parts of a page in turn
pub pages_in_turn : (a b c : Option (List ℕ)) (xs ys : List Piece) → Appends a b (page_text xs) → Appends b c (page_text ys) → Appends a c (page_text (xs ++ ys))
pages_in_turn a b c xs ys f g = subst (λ (text : List ℕ). Appends a c text) (sym (page_append xs ys)) (in_turn a b c (page_text xs) (page_text ys) f g)

-- so much of a page is written that with what is left it makes the whole
pub record IsPart (old new : Option (List ℕ)) (left total : List Piece) : Type 0 where
  pub done : List Piece
  pub wrote : Appends old new (page_text done)
  pub whole : done ++ left ≡ total

pub begun : (a : Option (List ℕ)) (total : List Piece) → IsPart a a total total
begun a total = record { done = []; wrote = nothing a; whole = refl }

pub gone_on : (a b c : Option (List ℕ)) (piece rest left total : List Piece) → IsPart a b left total → left ≡ piece ++ rest → Appends b c (page_text piece) → IsPart a c rest total
gone_on a b c piece rest left total part is more = record {
  done = part.done ++ piece;
  wrote = pages_in_turn a b c part.done piece part.wrote more;
  whole = append_assoc part.done piece rest ∙ ap (λ (l : List Piece). part.done ++ l) (sym is) ∙ part.whole;
}

pub completed : (a b : Option (List ℕ)) (left total : List Piece) → left ≡ [] → IsPart a b left total → Appends a b (page_text total)
completed a b left total none part =
    subst (λ (page : List Piece). Appends a b (page_text page)) (sym (append-nil part.done) ∙ ap (λ (l : List Piece). part.done ++ l) (sym none) ∙ part.whole) part.wrote

-- the findings before those that are left are counted and written
pub record AreWritten (lines : List (List ℕ)) (all left : List Finding) (counts : List ℕ) (before : ℕ) (old new : Option (List ℕ)) : Type 0 where
  pub earlier : List Finding
  pub tally : IsTally counts earlier
  pub few : length earlier + length left ≡ length all
  pub line : before ≡ line_of_first earlier
  pub text : IsPart old new (findings_pieces lines all earlier left) (findings_pieces lines all [] all)

pub none_written : (lines : List (List ℕ)) (all : List Finding) (counts : List ℕ) (a : Option (List ℕ)) → IsTally counts [] → AreWritten lines all all counts 0 a a
none_written lines all counts a none = record {
  earlier = [];
  tally = none;
  few = omega arith;
  line = refl;
  text = begun a _;
}

first_piece : (lines : List (List ℕ)) (all earlier left : List Finding) (f : Finding) (line : List ℕ) (before k total : ℕ)
    → line ≡ line_at lines (f.line - 1) → before ≡ line_of_first earlier → k ≡ count_by (is_of f.fault.number) earlier + 1 → total ≡ count_by (is_of f.fault.number) all
    → findings_pieces lines all earlier (f ∷ left) ≡ finding_pieces line before k total f left ++ findings_pieces lines all (f ∷ earlier) left
unfolding findings_pieces
first_piece lines all earlier left f line before k total l b c t = rw (l, b, c, t) refl

pub one_written : (lines : List (List ℕ)) (all left : List Finding) (f : Finding) (counts new : List ℕ) (before m k total : ℕ) (line : List ℕ) (a b c : Option (List ℕ))
    → AreWritten lines all (f ∷ left) counts before a b → m ≡ f.fault.number → m < 256 → new ≡ set counts m (get_or counts m 0 + 1)
    → k ≡ get_or counts m 0 + 1 → total ≡ count_by (is_of m) all → line ≡ line_at lines (f.line - 1)
    → Appends b c (page_text (finding_pieces line before k total f left)) → AreWritten lines all left new f.line a c
one_written lines all left f counts new before m k total line a b c so_far number small is nth many at wrote =
    let nth_is : k ≡ count_by (is_of f.fault.number) so_far.earlier + 1 =
    nth ∙ ap (λ (n : ℕ). n + 1) (so_far.tally.each m small ∙ ap (λ (n : ℕ). count_by (is_of n) so_far.earlier) number) in
    record {
      earlier = f ∷ so_far.earlier;
      tally = counted counts new m f so_far.earlier number small is so_far.tally;
      few = omega (arith, so_far.few);
      line = refl;
      text =
          gone_on a b c (finding_pieces line before k total f left) (findings_pieces lines all (f ∷ so_far.earlier) left) (findings_pieces lines all so_far.earlier (f ∷ left)) _ so_far.text
          (first_piece lines all so_far.earlier left f line before k total at so_far.line nth_is (many ∙ ap (λ (n : ℕ). count_by (is_of n) all) number)) wrote;
    }

no_piece : (lines : List (List ℕ)) (all earlier left : List Finding) → left ≡ [] → findings_pieces lines all earlier left ≡ []
unfolding findings_pieces
no_piece lines all earlier left none = ap (λ (l : List Finding). findings_pieces lines all earlier l) none

pub all_written : (lines : List (List ℕ)) (all left : List Finding) (counts : List ℕ) (before : ℕ) (a b : Option (List ℕ)) → left ≡ [] → AreWritten lines all left counts before a b
    → Appends a b (page_text (findings_pieces lines all [] all))
all_written lines all left counts before a b none so_far = completed a b _ _ (no_piece lines all so_far.earlier left none) so_far.text

first_remark : (lines : List (List ℕ)) (before : ℕ) (r : Remark) (left : List Remark) (line : List ℕ) → line ≡ line_at lines (r.line - 1)
    → remarks_pieces lines before (r ∷ left) ≡ remark_pieces line before r left ++ remarks_pieces lines r.line left
unfolding remarks_pieces
first_remark lines before r left line at = rw at refl

-- a remark more is written
pub remark_written : (lines : List (List ℕ)) (before : ℕ) (r : Remark) (left : List Remark) (line : List ℕ) (total : List Piece) (a b c : Option (List ℕ))
    → IsPart a b (remarks_pieces lines before (r ∷ left)) total → line ≡ line_at lines (r.line - 1) → Appends b c (page_text (remark_pieces line before r left))
    → IsPart a c (remarks_pieces lines r.line left) total
remark_written lines before r left line total a b c so_far at wrote =
    gone_on a b c (remark_pieces line before r left) (remarks_pieces lines r.line left) (remarks_pieces lines before (r ∷ left)) total so_far (first_remark lines before r left line at) wrote

pub no_remark : (lines : List (List ℕ)) (before : ℕ) (left : List Remark) → left ≡ [] → remarks_pieces lines before left ≡ []
unfolding remarks_pieces
no_remark lines before left none = ap (λ (l : List Remark). remarks_pieces lines before l) none

-- a list of no element
pub is_nil : {X : Type 0} (xs : List X) → length xs ≡ 0 → xs ≡ []
is_nil [] e = refl
is_nil (x ∷ xs) e = absurd (omega (arith, e))

-- without remarks nothing of them is written
pub no_remarks : (lines : List (List ℕ)) (faults : ℕ) (remarks : List Remark) (a : Option (List ℕ)) → length remarks ≡ 0 → Appends a a (page_text (all_remarks_pieces lines faults remarks))
unfolding all_remarks_pieces
no_remarks lines faults [] a none = nothing a
no_remarks lines faults (r ∷ rs) a none = absurd (omega (arith, none))

-- where there are some, their heading stands before them
pub some_remarks : (lines : List (List ℕ)) (faults : ℕ) (remarks : List Remark) (a b c : Option (List ℕ)) → (length remarks ≡ 0 → ⊥) → Appends a b (page_text (remarks_head_pieces faults))
    → Appends b c (page_text (remarks_pieces lines 0 remarks)) → Appends a c (page_text (all_remarks_pieces lines faults remarks))
unfolding all_remarks_pieces
some_remarks lines faults [] a b c some head rest = absurd (some refl)
some_remarks lines faults (r ∷ rs) a b c some head rest = pages_in_turn a b c (remarks_head_pieces faults) (remarks_pieces lines 0 (r ∷ rs)) head rest

-- the end of a page
pub ended : (a b : Option (List ℕ)) (text : List ℕ) → text ≡ fragment_text End → Appends a b text → Appends a b (page_text (Fixed End ∷ []))
ended a b text is wrote = subst (λ (l : List ℕ). Appends a b l) (is ∙ sym (append-nil (fragment_text End))) wrote

-- the parts of the page of a check
pub page_written : (name bytes : List ℕ) (r : Reported) (remarks : List Remark) (a b c d e : Option (List ℕ)) → Appends a b (page_text (front_pieces name (lines bytes) r (length remarks)))
    → Appends b c (page_text (faults_pieces (lines bytes) r.findings r.refused)) → Appends c d (page_text (all_remarks_pieces (lines bytes) (fault_count r.findings r.refused) remarks))
    → Appends d e (page_text (Fixed End ∷ [])) → Appends a e (page_text (check_page name bytes r remarks))
unfolding check_page
page_written name bytes r remarks a b c d e front faults all end =
    let front_pages = front_pieces name (lines bytes) r (length remarks) in
    let fault_pages = faults_pieces (lines bytes) r.findings r.refused in
    let remark_pages = all_remarks_pieces (lines bytes) (fault_count r.findings r.refused) remarks in
    pages_in_turn a b e front_pages (fault_pages ++ (remark_pages ++ Fixed End ∷ [])) front
    (pages_in_turn b c e fault_pages (remark_pages ++ Fixed End ∷ []) faults (pages_in_turn c d e remark_pages (Fixed End ∷ []) all end))
