-- Where the records of transactions stand in a file.
use Rattle.std.proofs.Common.{◌≡◌, ◌∙◌, ◌<◌, ◌*◌, ℕ, zero, suc, ◌+◌, List, [], ◌∷◌, ◌++◌, length, drop, refl, ap, sym, subst, arith, append_assoc, length-append}
use Rattle.std.proofs.Math.Seq.{drop-append-add}
use Rattle.cwr_record.specs.declared.works.WorkKind.{WorkKind}
use Rattle.cwr_grammar.specs.File.{File, FileGroup, IsFile, AreGroups, IsTransaction, AreTransactions, joined, lines_of_group, lines_of_groups}
use Rattle.cwr_grammar.specs.RawParts.{RawParts, raws_of, raws_of_group, lines_in}
use Rattle.cwr_report.specs.Walks.{first_of, line_at}

-- after so many lines of transactions, the transaction's lines stand in the text from its first line on
abbrev pub Stands : List (List ℕ) → ℕ → RawParts → Type 0
Stands text n t = (0 < length t.lines) × ((j : ℕ) → j < length t.lines → line_at text (2 * t.group + n + j) ≡ line_at t.lines j)

abbrev pub AllStand : List (List ℕ) → ℕ → List RawParts → Type 0
AllStand text n [] = Unit {0}
AllStand text n (t ∷ ts) = Stands text n t × AllStand text (n + length t.lines) ts

first_in : (part after : List (List ℕ)) (j : ℕ) → j < length part → first_of (drop j (part ++ after)) ≡ first_of (drop j part)
first_in [] after j lt = absurd (omega (arith, lt))
first_in (line ∷ part) after zero lt = refl
first_in (line ∷ part) after (suc j) lt = first_in part after j (omega (arith, lt))

line_in : (text before part after : List (List ℕ)) (k j : ℕ) → text ≡ before ++ (part ++ after) → k ≡ length before + j → j < length part
    → line_at text k ≡ line_at part j
line_in text before part after k j is at lt =
    ap (λ (ls : List (List ℕ)). first_of (drop k ls)) is
    ∙ ap (λ (i : ℕ). first_of (drop i (before ++ (part ++ after)))) at
    ∙ ap (λ (ls : List (List ℕ)). first_of ls) (drop-append-add before (part ++ after) j)
    ∙ first_in part after j lt

some_lines : (kind : WorkKind) (k : ℕ) (part : List (List ℕ)) → IsTransaction kind k part → 0 < length part
some_lines kind k [] none = absurd none
some_lines kind k (line ∷ part) one = omega arith

-- of the transactions of a group, and those after it
group_stands : (text before rest : List (List ℕ)) (i n k : ℕ) (kind : WorkKind) (parts : List (List (List ℕ))) (ts : List RawParts)
    → text ≡ before ++ (joined parts ++ rest) → length before ≡ 2 * i + n → AreTransactions kind k parts
    → AllStand text (n + length (joined parts)) ts → AllStand text n (raws_of_group i k kind parts ++ ts)
group_stands text before rest i n k kind [] ts is size formed more =
    let none : n + 0 ≡ n = omega arith in subst (λ (m : ℕ). AllStand text m ts) none more
group_stands text before rest i n k kind (part ∷ parts) ts is size formed more =
    let here : text ≡ before ++ (part ++ (joined parts ++ rest)) = is ∙ ap (λ (ls : List (List ℕ)). before ++ ls) (append_assoc part (joined parts) rest) in
    let next : text ≡ (before ++ part) ++ (joined parts ++ rest) = here ∙ sym (append_assoc before part (joined parts ++ rest)) in
    let longer : length (before ++ part) ≡ 2 * i + (n + length part) = length-append before part ∙ omega (arith, size) in
    let sum : n + length (joined (part ∷ parts)) ≡ n + length part + length (joined parts) = (let both = length-append part (joined parts) in omega (arith, both)) in
    let left = subst (λ (m : ℕ). AllStand text m ts) sum more in (
      (some_lines kind k part formed.0, λ j lt. line_in text before part (joined parts ++ rest) (2 * i + n + j) j here (omega (arith, size)) lt),
      group_stands text (before ++ part) rest i (n + length part) (k + 1) kind parts ts next longer formed.1 left,
    )

grouped : (head trailer : List ℕ) (body after : List (List ℕ)) → (head ∷ body ++ trailer ∷ []) ++ after ≡ (head ∷ []) ++ (body ++ (trailer ∷ after))
grouped head trailer body after = ap (λ (ls : List (List ℕ)). head ∷ ls) (append_assoc body (trailer ∷ []) after)

-- of groups from the number i on
groups_stand : (text before rest : List (List ℕ)) (i n : ℕ) (gs : List FileGroup) → text ≡ before ++ (lines_of_groups gs ++ rest) → length before + 1 ≡ 2 * i + n
    → AreGroups i gs → AllStand text n (raws_of i gs)
groups_stand text before rest i n [] is size formed = tt
groups_stand text before rest i n (g ∷ gs) is size formed =
    let body = joined g.transactions in
    let after = lines_of_groups gs ++ rest in
    let whole : text ≡ before ++ (lines_of_group g ++ after) = is ∙ ap (λ (ls : List (List ℕ)). before ++ ls) (append_assoc (lines_of_group g) (lines_of_groups gs) rest) in
    let split : text ≡ before ++ ((g.head ∷ []) ++ (body ++ (g.trailer ∷ after))) = whole ∙ ap (λ (ls : List (List ℕ)). before ++ ls) (grouped g.head g.trailer body after) in
    let start : text ≡ (before ++ g.head ∷ []) ++ (body ++ (g.trailer ∷ after)) = split ∙ sym (append_assoc before (g.head ∷ []) (body ++ (g.trailer ∷ after))) in
    let headed : length (before ++ g.head ∷ []) ≡ 2 * i + n = (let one = length-append before (g.head ∷ []) in omega (arith, one, size)) in
    let next : text ≡ (before ++ lines_of_group g) ++ after = whole ∙ sym (append_assoc before (lines_of_group g) after) in
    let longer : length (before ++ lines_of_group g) + 1 ≡ 2 * (i + 1) + (n + length body) =
    (let one = length-append before (lines_of_group g) in let two = length-append body (g.trailer ∷ []) in omega (arith, one, two, size))
    in
    group_stands text (before ++ g.head ∷ []) (g.trailer ∷ after) i n 0 g.kind g.transactions (raws_of (i + 1) gs) start headed formed.0.transactions
    (groups_stand text (before ++ lines_of_group g) rest (i + 1) (n + length body) gs next longer formed.1)

pub all_stand : (text : List (List ℕ)) (f : File) → IsFile text f → AllStand text 0 (raws_of 1 f.groups)
all_stand text f formed =
    let body = lines_of_groups f.groups in
    let is : text ≡ (f.header ∷ []) ++ (body ++ (f.trailer ∷ f.tail)) = formed.lines ∙ grouped f.header f.trailer body f.tail in
    groups_stand text (f.header ∷ []) (f.trailer ∷ f.tail) 1 0 f.groups is (omega arith) formed.groups

pub stands_among : (text : List (List ℕ)) (n : ℕ) (before after : List RawParts) (t : RawParts) → AllStand text n (before ++ t ∷ after) → Stands text (n + lines_in before) t
stands_among text n [] after t all = let none : n ≡ n + 0 = omega arith in subst (λ (m : ℕ). Stands text m t) none all.0
stands_among text n (b ∷ before) after t all =
    let sum : n + length b.lines + lines_in before ≡ n + (length b.lines + lines_in before) = omega arith in
    subst (λ (m : ℕ). Stands text m t) sum (stands_among text (n + length b.lines) before after t all.1)
