-- The transactions of a well-formed file have some lines, few enough, and no control byte.
use Rattle.std.proofs.Common.{ℕ, ◌+◌, ◌≤◌, List, [], ◌∷◌, ◌++◌, length, Some, arith, length-append}
use Rattle.std.specs.Prelude.{IsTrue}
use Rattle.std.specs.List.{AllByRecursion}
use Rattle.cwr_field.specs.Layout.{is_printable}
use Rattle.cwr_field.specs.Number.{max_count}
use Rattle.cwr_record.specs.declared.works.WorkKind.{WorkKind}
use Rattle.cwr_grammar.specs.declared.role.Role.TheVariants.{GroupTrailer}
use Rattle.cwr_grammar.specs.declared.span.Span.{Span}
use Rattle.cwr_grammar.specs.File.{File, FileGroup, IsFile, IsPlain, AreGroups, AreTransactions, lines_of_groups, lines_of_group, joined}
use Rattle.cwr_grammar.specs.RawParts.{RawParts, IsTransactionText, raws_of, raws_of_group}
use Rattle.cwr_grammar.specs.Spans.{IsInside, IsSpan, raws_at}
use Rattle.cwr_grammar.proofs.Numbers.{small_role}
use Rattle.cwr_grammar.proofs.Controls.{printable}

all_front : {X : Type 0} (P : X → Type 0) (xs ys : List X) → AllByRecursion P (xs ++ ys) → AllByRecursion P xs
all_front P [] ys h = tt
all_front P (x ∷ xs) ys h = (h.0, all_front P xs ys h.1)

all_back : {X : Type 0} (P : X → Type 0) (xs ys : List X) → AllByRecursion P (xs ++ ys) → AllByRecursion P ys
all_back P [] ys h = h
all_back P (x ∷ xs) ys h = all_back P xs ys h.1

pub all_more : {X : Type 0} (P : X → Type 0) (xs ys : List X) → AllByRecursion P xs → AllByRecursion P ys → AllByRecursion P (xs ++ ys)
all_more P [] ys h i = i
all_more P (x ∷ xs) ys (here, more) i = (here, all_more P xs ys more i)

-- ---- printable lines

all_printable : (ls : List (List ℕ)) → AllByRecursion IsPlain ls → AllByRecursion (λ line. IsTrue (is_printable line)) ls
all_printable [] h = tt
all_printable (line ∷ ls) h = (printable line h.0.0, all_printable ls h.1)

-- ---- transactions

abbrev pub HasText : RawParts → Type 0
HasText r = IsTransactionText r.lines

group_texts : (ts : List (List (List ℕ))) (g t : ℕ) (kind : WorkKind) → AreTransactions kind t ts → length (joined ts) ≤ max_count → AllByRecursion IsPlain (joined ts) → AllByRecursion HasText (raws_of_group g t kind ts)
group_texts [] g t kind are few plain = tt
group_texts ([] ∷ ts) g t kind are few plain = absurd are.0
group_texts ((line ∷ ds) ∷ ts) g t kind are few plain = (
  record {
    some = omega arith;
    few = omega (arith, few, length-append (line ∷ ds) (joined ts));
    printable = all_printable (line ∷ ds) (all_front IsPlain (line ∷ ds) (joined ts) plain);
  },
  group_texts ts g (t + 1) kind are.1 (omega (arith, few, length-append (line ∷ ds) (joined ts))) (all_back IsPlain (line ∷ ds) (joined ts) plain),
)

groups_texts : (gs : List FileGroup) (i : ℕ) → AreGroups i gs → AllByRecursion IsPlain (lines_of_groups gs) → AllByRecursion HasText (raws_of i gs)
groups_texts [] i are plain = tt
groups_texts (g ∷ gs) i (here, others) plain =
    let small = small_role g.trailer (GroupTrailer (Some i) (Some (length g.transactions)) (Some (2 + length (joined g.transactions)))) here.trailer in
    let inner = all_front IsPlain (joined g.transactions) (g.trailer ∷ []) (all_front IsPlain (lines_of_group g) (lines_of_groups gs) plain).1 in
    all_more HasText (raws_of_group i 0 g.kind g.transactions) (raws_of (i + 1) gs)
    (group_texts g.transactions i 0 g.kind here.transactions (omega (arith, small)) inner)
    (groups_texts gs (i + 1) others (all_back IsPlain (lines_of_group g) (lines_of_groups gs) plain))

pub file_texts : (text : List (List ℕ)) (f : File) → IsFile text f → AllByRecursion HasText (raws_of 1 f.groups)
file_texts text f h = groups_texts f.groups 1 h.groups (all_front IsPlain (lines_of_groups f.groups) (f.trailer ∷ []) h.plain.1)

-- ---- spans

pub are_places : (text : List ℕ) (spans : List Span) → AllByRecursion (IsInside text) spans → AllByRecursion HasText (raws_at text spans) → AllByRecursion (IsSpan text) spans
are_places text [] inside texts = tt
are_places text (p ∷ spans) inside texts = (record { inside = inside.0; whole = texts.0 }, are_places text spans inside.1 texts.1)
