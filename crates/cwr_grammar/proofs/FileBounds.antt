-- What every well-formed file is within: the numbers of its transactions, their lines, and the bytes of its sender.
use Rattle.std.proofs.Common.{◌≡◌, ℕ, ◌+◌, ◌*◌, ◌-◌, ◌<◌, ◌≤◌, ◌^◌, Bool, true, false, cond, List, [], ◌∷◌, ◌++◌, length, take, arith, refl, sym, ap, subst}
use Rattle.std.specs.Prelude.{◌==◌, slice_index}
use Rattle.std.specs.List.{slice_split, onto_first, AllByRecursion}
use Rattle.std.specs.Str.Lines.{lines, lines_of_parts, strip_carriage_return}
use Rattle.std.proofs.lemmas.List.{length-take}
use Rattle.cwr_field.proofs.lemmas.Printable.{printable-field}
use Rattle.cwr_record.specs.Columns.{header_sender}
use Rattle.cwr_record.specs.Control as table
use Rattle.cwr_record.specs.Layout.{StandsFor}
use Rattle.cwr_record.specs.declared.control.Header.{Header}
use Rattle.cwr_record.specs.declared.works.WorkKind.{WorkKind}
use Rattle.cwr_grammar.specs.File.{File, FileGroup, IsFile, AreGroups, AreTransactions, IsTransaction, AreDetails, lines_of_group, lines_of_groups, joined, records_of}
use Rattle.cwr_grammar.specs.RawParts.{RawParts, IsPlaced, lines_in, raws_of, raws_of_group}
use Rattle.cwr_grammar.specs.Submitted.{IsBounded}
use Rattle.cwr_grammar.proofs.Controls.{printable}
use Rattle.cwr_grammar.proofs.Numbers.{small_role}

-- ---- the lines of a text

-- the bytes of lines, with one more for the end of each
abbrev weight : List (List ℕ) → ℕ
weight [] = 0
weight (line ∷ lines) = length line + 1 + weight lines

weight-append : (xs ys : List (List ℕ)) → weight (xs ++ ys) ≡ weight xs + weight ys
weight-append [] ys = omega arith
weight-append (x ∷ xs) ys = let h = weight-append xs ys in omega arith

weight-onto : (x : ℕ) (parts : List (List ℕ)) → 0 < weight parts → weight (onto_first x parts) ≡ weight parts + 1
weight-onto x [] some = absurd (omega arith)
weight-onto x (part ∷ parts) some = omega arith

weight-split : (p : ℕ → Bool) (bytes : List ℕ) → weight (slice_split p bytes) ≡ length bytes + 1
weight-split p [] = refl
weight-split p (b ∷ bytes) =
    let h = weight-split p bytes in
    let on = weight-onto b (slice_split p bytes) (omega arith) in
    elim (p b) as (λ c. weight (cond c ([] ∷ slice_split p bytes) (onto_first b (slice_split p bytes))) ≡ length (b ∷ bytes) + 1)
    [ true ↦ omega arith | false ↦ omega arith ]

stripped : (line : List ℕ) → length (strip_carriage_return line) ≤ length line
stripped line =
    let h = length-take (length line - 1) line in
    elim (slice_index line (length line - 1) == 13) as (λ c. length (cond c (take (length line - 1) line) line) ≤ length line) [ true ↦ omega arith | false ↦ omega arith ]

weight-parts : (parts : List (List ℕ)) → weight (lines_of_parts parts) ≤ weight parts
weight-parts [] = omega arith
weight-parts (x ∷ []) = elim (length x == 0) as (λ c. weight (cond c [] (x ∷ [])) ≤ weight (x ∷ [])) [ true ↦ omega arith | false ↦ omega arith ]
weight-parts (x ∷ y ∷ more) = let h = weight-parts (y ∷ more) in let s = stripped x in omega arith

weight-lines : (bytes : List ℕ) → weight (lines bytes) ≤ length bytes + 1
weight-lines bytes = omega (arith, weight-parts (slice_split (λ b. b == 10) bytes), weight-split (λ b. b == 10) bytes)

-- ---- the transactions of a file

lines_in-append : (xs ys : List RawParts) → lines_in (xs ++ ys) ≡ lines_in xs + lines_in ys
lines_in-append [] ys = omega arith
lines_in-append (x ∷ xs) ys = let h = lines_in-append xs ys in omega arith

-- each line of a transaction has a byte
details_weigh : (j d : ℕ) (ls : List (List ℕ)) → AreDetails j d ls → 2 * length ls ≤ weight ls
details_weigh j d [] are = omega arith
details_weigh j d ([] ∷ ls) are = absurd (let e = are.0 in cc)
details_weigh j d ((b ∷ line) ∷ ls) are = let h = details_weigh j (d + 1) ls are.1 in omega arith

transaction_weighs : (kind : WorkKind) (j : ℕ) (ls : List (List ℕ)) → IsTransaction kind j ls → 2 * length ls ≤ weight ls
transaction_weighs kind j [] is = absurd is
transaction_weighs kind j ([] ∷ ls) is = absurd (let e = is.0 in cc)
transaction_weighs kind j ((b ∷ line) ∷ ls) is = let h = details_weigh j 1 ls is.1 in omega arith

group_weighs : (g j : ℕ) (kind : WorkKind) (parts : List (List (List ℕ))) → AreTransactions kind j parts → 2 * lines_in (raws_of_group g j kind parts) ≤ weight (joined parts)
group_weighs g j kind [] are = omega arith
group_weighs g j kind (part ∷ parts) are =
    let here = transaction_weighs kind j part are.0 in
    let rest = group_weighs g (j + 1) kind parts are.1 in
    let sum = weight-append part (joined parts) in
    omega arith

groups_weigh : (i : ℕ) (gs : List FileGroup) → AreGroups i gs → 2 * lines_in (raws_of i gs) ≤ weight (lines_of_groups gs)
groups_weigh i [] are = omega arith
groups_weigh i (g ∷ gs) are =
    let here = group_weighs i 0 g.kind g.transactions are.0.transactions in
    let rest = groups_weigh (i + 1) gs are.1 in
    let found = lines_in-append (raws_of_group i 0 g.kind g.transactions) (raws_of (i + 1) gs) in
    let one = weight-append (joined g.transactions) (g.trailer ∷ []) in
    let all = weight-append (lines_of_group g) (lines_of_groups gs) in
    omega arith

-- the transactions of a file have at most half as many lines as it has bytes
few_lines : (input : List ℕ) (file : File) → IsFile (lines input) file → 2 * lines_in (raws_of 1 file.groups) ≤ length input
few_lines input file formed =
    let h = groups_weigh 1 file.groups formed.groups in
    let w = weight-lines input in
    let e : weight (lines input) ≡ weight (records_of file ++ file.tail) = ap weight formed.lines in
    let a = weight-append (records_of file) file.tail in
    let b = weight-append (lines_of_groups file.groups) (file.trailer ∷ []) in
    omega arith

group_small : (i j : ℕ) (kind : WorkKind) (parts : List (List (List ℕ))) → i < 10 ^ 5 → AreTransactions kind j parts → AllByRecursion IsPlaced (raws_of_group i j kind parts)
group_small i j kind [] lt are = tt
group_small i j kind ([] ∷ parts) lt are = absurd are.0
group_small i j kind ((line ∷ ls) ∷ parts) lt are =
    (record { group = lt; sequence = small_role line _ are.0.0; some = omega arith }, group_small i (j + 1) kind parts lt are.1)

all_append : (xs ys : List RawParts) → AllByRecursion IsPlaced xs → AllByRecursion IsPlaced ys → AllByRecursion IsPlaced (xs ++ ys)
all_append [] ys h k = k
all_append (x ∷ xs) ys h k = (h.0, all_append xs ys h.1 k)

all_small : (i : ℕ) (gs : List FileGroup) → AreGroups i gs → AllByRecursion IsPlaced (raws_of i gs)
all_small i [] are = tt
all_small i (g ∷ gs) are =
    let lt : i < 10 ^ 5 = small_role g.head _ are.0.head in
    all_append (raws_of_group i 0 g.kind g.transactions) (raws_of (i + 1) gs)
    (group_small i 0 g.kind g.transactions lt are.0.transactions) (all_small (i + 1) gs are.1)

-- ---- all of it

pub file_bounds : (input : List ℕ) (file : File) (head : Header) (found : List RawParts) → IsFile (lines input) file → StandsFor table.header file.header head
    → found ≡ raws_of 1 file.groups → IsBounded (length input) head found
file_bounds input file head found formed stands is = record {
  placed = subst (λ (ts : List RawParts). AllByRecursion IsPlaced ts) (sym is) (all_small 1 file.groups formed.groups);
  few = let h = few_lines input file formed in let same = ap lines_in is in omega (arith, h, same);
  printable = rw stands.1.0 (printable-field file.header header_sender.start header_sender.width (printable file.header formed.plain.0.0));
}
