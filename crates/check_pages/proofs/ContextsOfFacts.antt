-- Where the pieces above the faults stand.
use Rattle.std.proofs.Common.{◌≡◌, ℕ, zero, suc, ◌+◌, ◌*◌, Bool, true, false, List, [], ◌∷◌, ◌++◌, Option, Some, None, refl}
use Rattle.std.specs.Prelude.{◌==◌, nat_lt}
use Rattle.cwr_field.specs.Layout.{field}
use Rattle.cwr_record.specs.Columns.{field_at, header_name}
use Rattle.cwr_record.specs.Territory.{without_trailing}
use Rattle.cwr_report.specs.declared.file_finding.FileFinding.{FileFinding}
use Rattle.cwr_report.specs.declared.finding.Finding.{Finding}
use Rattle.cwr_report.specs.Reported.{Reported}
use Rattle.html_text.specs.Contexts.{Text, Style, StyleQuoted, behind, of_files}
use Rattle.html_text.specs.Fragments.{fragment_text}
use Rattle.html_text.specs.Pieces.{Piece, Fixed, Number, shown}
use Rattle.html_text.specs.declared.fragment.Fragment.{Fragment}
use Rattle.html_text.specs.declared.fragment.Fragment.TheVariants as fragment
use Rattle.html_text.proofs.lemmas.Contexts.{Keeps, behind_append, both, bytes, each_in, either, either_in, join, name_of_file, text}
use Rattle.check_pages.specs.Boxes.{where_so}
use Rattle.check_pages.specs.Facts.{counts_pieces, css_pieces, day_pieces, facts_pieces, fault_count, faulty_pieces, front_pieces, header_pieces, index_pieces, linked_pieces, outcome_pieces, refusal_pieces, refused_by_pieces, rulers_pieces, rules_pieces, signs_pieces, some_header_pieces, style_pieces, submitter_pieces, time_pieces, title_pieces}
use Rattle.check_pages.specs.Rulers.{dots, ruler, ruler_row, ruler_ten}
use Rattle.check_pages.proofs.ContextsOfFaults.{rule_quoted, rule_text}
use Rattle.check_pages.proofs.ContextsOfRules.{broken_row, rows}

ruler_dots : (n : ℕ) → behind StyleQuoted (dots n) ≡ StyleQuoted
unfolding fragment_text
ruler_dots n =
    let dot : Piece = Fixed fragment.Dot in
    either_in StyleQuoted (nat_lt n 100) (dot ∷ dot ∷ dot ∷ []) _ refl (either_in StyleQuoted (nat_lt n 1000) (dot ∷ dot ∷ []) (dot ∷ []) refl refl)

ten_columns : (n : ℕ) → behind StyleQuoted (ruler_ten n) ≡ StyleQuoted
unfolding fragment_text
ten_columns n = simp (behind_append, ruler_dots) refl

one_row : (before : ℕ) → behind StyleQuoted (ruler_row before) ≡ StyleQuoted
one_row before = each_in StyleQuoted (λ ten. ruler_ten (before + ten)) (10 ∷ 20 ∷ 30 ∷ 40 ∷ 50 ∷ 60 ∷ 70 ∷ 80 ∷ []) (λ ten. ten_columns (before + ten))

in_ruler : (row : ℕ) → behind StyleQuoted (ruler row) ≡ StyleQuoted
unfolding ruler fragment_text
in_ruler zero = one_row 0
in_ruler (suc row) = join StyleQuoted (ruler row) (Fixed fragment.RulerRow ∷ ruler_row (80 * suc row)) (in_ruler row) (one_row (80 * suc row))

css : behind Text css_pieces ≡ StyleQuoted
unfolding css_pieces fragment_text
css = refl

rulers : behind StyleQuoted rulers_pieces ≡ Style
unfolding rulers_pieces fragment_text
rulers = simp (behind_append, in_ruler) refl

many_style : (many : Bool) → behind Style (where_so many fragment.StyleMany) ≡ Style
unfolding fragment_text
many_style true = refl
many_style false = refl

style : (many : Bool) → Keeps (style_pieces many)
unfolding style_pieces fragment_text
style many = simp (behind_append, css, rulers, many_style many) refl

title : (name : List ℕ) (many : Bool) → Keeps (title_pieces name many)
unfolding title_pieces fragment_text
title name many = simp (behind_append, name_of_file name, style many) refl

refused_by : (number : ℕ) → Keeps (refused_by_pieces number)
unfolding refused_by_pieces fragment_text
refused_by number = simp (behind_append, rule_quoted of_files number refl, rule_text of_files number) refl

refusal : (f : FileFinding) → Keeps (refusal_pieces f)
unfolding refusal_pieces fragment_text
refusal f = simp (behind_append, refused_by, text) refl

faulty : (some all : ℕ) → Keeps (faulty_pieces some all)
unfolding faulty_pieces fragment_text
faulty some all =
    either (some == 0) (Fixed fragment.Clean ∷ Number all ∷ Fixed fragment.FaultyEnd ∷ [])
    (Fixed fragment.Faulty ∷ Number some ∷ Fixed fragment.FaultyOf ∷ Number all ∷ Fixed fragment.FaultyEnd ∷ []) refl refl

outcome : (some all : ℕ) (f : Option FileFinding) → Keeps (outcome_pieces some all f)
unfolding outcome_pieces
outcome some all None = faulty some all
outcome some all (Some f) = refusal f

submitted : (kind code name : List ℕ)
    → Keeps (Fixed fragment.Submitter ∷ (shown kind ++ Fixed fragment.Space ∷ (shown code ++ Fixed fragment.Space ∷ (shown name ++ Fixed fragment.SubmitterEnd ∷ []))))
unfolding fragment_text
submitted kind code name = simp (behind_append, bytes) refl

submitter : (line : List ℕ) → Keeps (submitter_pieces line)
unfolding submitter_pieces
submitter line = submitted (field line 4 2) (field line 6 9) (without_trailing (field_at line header_name))

-- three parts, between which a sign stands
parted : (sign : Fragment) (a b c : List ℕ) → Keeps (Fixed sign ∷ []) → Keeps (shown a ++ Fixed sign ∷ (shown b ++ Fixed sign ∷ shown c))
parted sign a b c keeps =
    both (shown a) (Fixed sign ∷ (shown b ++ Fixed sign ∷ shown c)) (bytes a)
    (both (Fixed sign ∷ []) (shown b ++ Fixed sign ∷ shown c) keeps
    (both (shown b) (Fixed sign ∷ shown c) (bytes b) (both (Fixed sign ∷ []) (shown c) keeps (bytes c))))

day : (line : List ℕ) → Keeps (day_pieces line)
unfolding day_pieces fragment_text
day line = parted fragment.Dash (field line 65 4) (field line 69 2) (field line 71 2) refl

time : (line : List ℕ) → Keeps (time_pieces line)
unfolding time_pieces fragment_text
time line = parted fragment.TimeColon (field line 73 2) (field line 75 2) (field line 77 2) refl

header : (line : List ℕ) → Keeps (header_pieces line)
unfolding header_pieces fragment_text
header line = simp (behind_append, submitter, day, time) refl

some_header : (line : List ℕ) (f : Option FileFinding) → Keeps (some_header_pieces line f)
unfolding some_header_pieces
some_header line None = header line
some_header line (Some f) = either (nat_lt 1 f.line) (header_pieces line) [] (header line) refl

counts : (lines : List (List ℕ)) (all : ℕ) (f : Option FileFinding) → Keeps (counts_pieces lines all f)
unfolding counts_pieces fragment_text
counts lines all None = refl
counts lines all (Some f) = refl

linked : (begin : Fragment) (number : ℕ) → Keeps (Fixed begin ∷ Number number ∷ Fixed fragment.ADd ∷ []) → Keeps (linked_pieces begin number)
unfolding linked_pieces
linked begin number first = either (number == 0) [] (Fixed begin ∷ Number number ∷ Fixed fragment.ADd ∷ []) refl first

linked_faults : (number : ℕ) → Keeps (linked_pieces fragment.Faults number)
unfolding fragment_text
linked_faults number = linked fragment.Faults number refl

linked_remarks : (number : ℕ) → Keeps (linked_pieces fragment.Remarks number)
unfolding fragment_text
linked_remarks number = linked fragment.Remarks number refl

facts : (lines : List (List ℕ)) (r : Reported) (remarks : ℕ) → Keeps (facts_pieces lines r remarks)
unfolding facts_pieces fragment_text
facts lines r remarks = simp (behind_append, some_header, counts, linked_faults, linked_remarks) refl

rules : (findings : List Finding) (f : Option FileFinding) → Keeps (rules_pieces findings f)
unfolding rules_pieces
rules findings None = rows findings 15
rules findings (Some f) = broken_row of_files f.number 1 refl

pub signs : Keeps signs_pieces
unfolding signs_pieces fragment_text
signs = refl

index : (findings : List Finding) (refused : Option FileFinding) → Keeps (index_pieces findings refused)
unfolding index_pieces fragment_text
index findings refused =
    either (fault_count findings refused == 0) [] (Fixed fragment.Rules ∷ (rules_pieces findings refused ++ Fixed fragment.RulesEnd ∷ Fixed fragment.FaultsHead ∷ signs_pieces)) refl
    (simp (behind_append, rules, signs) refl)

pub front : (name : List ℕ) (lines : List (List ℕ)) (r : Reported) (remarks : ℕ) → Keeps (front_pieces name lines r remarks)
unfolding front_pieces
front name lines r remarks = simp (behind_append, title, outcome, facts, index) refl
