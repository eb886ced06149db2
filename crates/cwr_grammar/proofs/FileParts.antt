-- What a file's parts give.
use Rattle.std.proofs.Common.{◌≡◌, ℕ, ◌+◌, cond, List, [], ◌∷◌, ◌++◌, length, Some, arith, refl, ap, ◌∙◌, append_assoc, length-append}
use Rattle.cwr_grammar.specs.declared.role.Role.{Role}
use Rattle.cwr_grammar.specs.declared.role.Role.TheVariants.{GroupHeader, TransactionHeader}
use Rattle.cwr_record.specs.declared.works.WorkKind.{WorkKind}
use Rattle.cwr_grammar.specs.Roles.{role_of}
use Rattle.cwr_grammar.specs.File.{File, FileGroup, IsFile, AreGroups, AreTransactions, AreDetails, records_of, lines_of_group, lines_of_groups, joined}
use Rattle.cwr_grammar.specs.RawParts.{RawParts, raws_of, raws_of_group}
use Rattle.cwr_grammar.specs.Visiting.{is_detail}
use Rattle.cwr_grammar.specs.Collected.{details, raws, raws_after, group_count, group_count_at, record_count, record_count_at}

-- a fold of lines, at a line whose type is known
raws_line : (line : List ℕ) (kind : Role) (rest : List (List ℕ)) (g t : ℕ) → role_of line ≡ kind → raws (line ∷ rest) g t ≡ raws_after kind line (details rest) (raws rest) g t
raws_line line kind rest g t e = ap (λ (k : Role). raws_after k line (details rest) (raws rest) g t) e

details_line : (line : List ℕ) (kind : Role) (rest : List (List ℕ)) → role_of line ≡ kind → details (line ∷ rest) ≡ cond (is_detail kind) (line ∷ details rest) []
details_line line kind rest e = ap (λ (k : Role). cond (is_detail k) (line ∷ details rest) []) e

raws_details : (j d : ℕ) (ds rest : List (List ℕ)) (g t : ℕ) → AreDetails j d ds → raws (ds ++ rest) g t ≡ raws rest g t
raws_details j d [] rest g t h = refl
raws_details j d (line ∷ ds) rest g t h = raws_line line _ (ds ++ rest) g t h.0 ∙ raws_details j (d + 1) ds rest g t h.1

details_details : (j d : ℕ) (ds rest : List (List ℕ)) → AreDetails j d ds → details rest ≡ [] → details (ds ++ rest) ≡ ds
details_details j d [] rest h none = none
details_details j d (line ∷ ds) rest h none = details_line line _ (ds ++ rest) h.0 ∙ ap (λ (xs : List (List ℕ)). line ∷ xs) (details_details j (d + 1) ds rest h.1 none)

details_transactions : (k : WorkKind) (j : ℕ) (ts : List (List (List ℕ))) (rest : List (List ℕ)) → AreTransactions k j ts → details rest ≡ [] → details (joined ts ++ rest) ≡ []
details_transactions k j [] rest h none = none
details_transactions k j ([] ∷ ts) rest h none = absurd h.0
details_transactions k j ((line ∷ ds) ∷ ts) rest h none = details_line line _ (ds ++ joined ts ++ rest) h.0.0

raws_transactions : (k : WorkKind) (j : ℕ) (ts : List (List (List ℕ))) (rest : List (List ℕ)) (g : ℕ) → AreTransactions k j ts → details rest ≡ []
    → (t : ℕ) × (raws (joined ts ++ rest) g j ≡ raws_of_group g j k ts ++ raws rest g t)
raws_transactions k j [] rest g h none = (j, refl)
raws_transactions k j ([] ∷ ts) rest g h none = absurd h.0
raws_transactions k j ((line ∷ ds) ∷ ts) rest g h none =
    let more = raws_transactions k (j + 1) ts rest g h.1 none in
    let lone : raws (line ∷ (ds ++ (joined ts ++ rest))) g j ≡ record { group = g; sequence = j; kind = k; lines = line ∷ details (ds ++ (joined ts ++ rest)) } ∷ raws (ds ++ (joined ts ++ rest)) g (j + 1) =
    raws_line line (TransactionHeader (Some k) (Some j) (Some 0)) (ds ++ (joined ts ++ rest)) g j h.0.0 in (
      more.0,
      ap (λ (xs : List (List ℕ)). raws (line ∷ xs) g j) (append_assoc ds (joined ts) rest)
          ∙ lone
          ∙ ap (λ (xs : List (List ℕ)). record { group = g; sequence = j; kind = k; lines = line ∷ xs } ∷ raws (ds ++ (joined ts ++ rest)) g (j + 1)) (details_details j 1 ds (joined ts ++ rest) h.0.1 (details_transactions k (j + 1) ts rest h.1 none))
          ∙ ap (λ (xs : List RawParts). record { group = g; sequence = j; kind = k; lines = line ∷ ds } ∷ xs) (raws_details j 1 ds (joined ts ++ rest) g (j + 1) h.0.1 ∙ more.1),
    )

pub group_parts : (x : FileGroup) (others rest : List (List ℕ)) → lines_of_group x ++ others ++ rest ≡ x.head ∷ (joined x.transactions ++ (x.trailer ∷ (others ++ rest)))
group_parts x others rest = append_assoc (lines_of_group x) others rest ∙ ap (λ (xs : List (List ℕ)). x.head ∷ xs) (append_assoc (joined x.transactions) (x.trailer ∷ []) (others ++ rest))

raws_groups : (i : ℕ) (gs : List FileGroup) (rest : List (List ℕ)) (g t : ℕ) → AreGroups i gs → g + 1 ≡ i → ((g' t' : ℕ) → raws rest g' t' ≡ []) → raws (lines_of_groups gs ++ rest) g t ≡ raws_of i gs
raws_groups i [] rest g t h e none = none g t
raws_groups i (x ∷ gs) rest g t (head, others) e none =
    let after = lines_of_groups gs ++ rest in
    let body = raws_transactions x.kind 0 x.transactions (x.trailer ∷ (lines_of_groups gs ++ rest)) i head.transactions (details_line x.trailer _ (lines_of_groups gs ++ rest) head.trailer) in
    ap (λ (xs : List (List ℕ)). raws xs g t) (group_parts x (lines_of_groups gs) rest)
    ∙ raws_line x.head (GroupHeader (Some x.kind) (Some i)) (joined x.transactions ++ (x.trailer ∷ (lines_of_groups gs ++ rest))) g t head.head
    ∙ ap (λ (k : ℕ). raws (joined x.transactions ++ (x.trailer ∷ (lines_of_groups gs ++ rest))) k 0) e
    ∙ body.1
    ∙ ap (λ (xs : List RawParts). raws_of_group i 0 x.kind x.transactions ++ xs) (raws_line x.trailer _ (lines_of_groups gs ++ rest) i body.0 head.trailer ∙ raws_groups (i + 1) gs rest i body.0 others refl none)

pub file_raws : (text : List (List ℕ)) (f : File) → IsFile text f → raws text 0 0 ≡ raws_of 1 f.groups
file_raws text f h =
    ap (λ (xs : List (List ℕ)). raws xs 0 0) (h.lines ∙ ap (λ (xs : List (List ℕ)). f.header ∷ xs) (append_assoc (lines_of_groups f.groups) (f.trailer ∷ []) f.tail))
    ∙ raws_line f.header _ (lines_of_groups f.groups ++ (f.trailer ∷ f.tail)) 0 0 h.header
    ∙ raws_groups 1 f.groups (f.trailer ∷ f.tail) 0 0 h.groups refl (λ g t. raws_line f.trailer _ f.tail g t h.trailer)

-- ---- counts

count_line : (line : List ℕ) (kind : Role) (rest : List (List ℕ)) → role_of line ≡ kind → group_count (line ∷ rest) ≡ group_count_at kind (group_count rest)
count_line line kind rest e = ap (λ (k : Role). group_count_at k (group_count rest)) e

record_line : (line : List ℕ) (kind : Role) (rest : List (List ℕ)) → role_of line ≡ kind → record_count (line ∷ rest) ≡ record_count_at kind (record_count rest)
record_line line kind rest e = ap (λ (k : Role). record_count_at k (record_count rest)) e

count_details : (j d : ℕ) (ds rest : List (List ℕ)) → AreDetails j d ds → (group_count (ds ++ rest) ≡ group_count rest) × (record_count (ds ++ rest) ≡ length ds + record_count rest)
count_details j d [] rest h = (refl, omega arith)
count_details j d (line ∷ ds) rest h =
    let more = count_details j (d + 1) ds rest h.1 in
    (count_line line _ (ds ++ rest) h.0 ∙ more.0, record_line line _ (ds ++ rest) h.0 ∙ omega (arith, more.1))

count_transactions : (k : WorkKind) (j : ℕ) (ts : List (List (List ℕ))) (rest : List (List ℕ)) → AreTransactions k j ts
    → (group_count (joined ts ++ rest) ≡ group_count rest) × (record_count (joined ts ++ rest) ≡ length (joined ts) + record_count rest)
count_transactions k j [] rest h = (refl, omega arith)
count_transactions k j ([] ∷ ts) rest h = absurd h.0
count_transactions k j ((line ∷ ds) ∷ ts) rest h =
    let more = count_transactions k (j + 1) ts rest h.1 in
    let here = count_details j 1 ds (joined ts ++ rest) h.0.1 in
    let parts = append_assoc ds (joined ts) rest in (
      ap (λ (xs : List (List ℕ)). group_count (line ∷ xs)) parts ∙ count_line line _ (ds ++ (joined ts ++ rest)) h.0.0 ∙ here.0 ∙ more.0,
      ap (λ (xs : List (List ℕ)). record_count (line ∷ xs)) parts ∙ record_line line _ (ds ++ (joined ts ++ rest)) h.0.0 ∙ omega (arith, here.1, more.1, length-append ds (joined ts)),
    )

count_groups : (i : ℕ) (gs : List FileGroup) (rest : List (List ℕ)) → AreGroups i gs
    → (group_count (lines_of_groups gs ++ rest) ≡ length gs + group_count rest) × (record_count (lines_of_groups gs ++ rest) ≡ length (lines_of_groups gs) + record_count rest)
count_groups i [] rest h = (omega arith, omega arith)
count_groups i (x ∷ gs) rest (head, others) =
    let more = count_groups (i + 1) gs rest others in
    let after = x.trailer ∷ (lines_of_groups gs ++ rest) in
    let here = count_transactions x.kind 0 x.transactions (x.trailer ∷ (lines_of_groups gs ++ rest)) head.transactions in
    let parts = group_parts x (lines_of_groups gs) rest in
    let end = count_line x.trailer _ (lines_of_groups gs ++ rest) head.trailer in
    let end_records = record_line x.trailer _ (lines_of_groups gs ++ rest) head.trailer in (
      ap group_count parts ∙ count_line x.head _ (joined x.transactions ++ (x.trailer ∷ (lines_of_groups gs ++ rest))) head.head ∙ omega (arith, here.0, end, more.0),
      ap record_count parts ∙ record_line x.head _ (joined x.transactions ++ (x.trailer ∷ (lines_of_groups gs ++ rest))) head.head
          ∙ omega (arith, here.1, end_records, more.1, length-append (lines_of_group x) (lines_of_groups gs), length-append (joined x.transactions) (x.trailer ∷ [])),
    )

pub file_groups : (text : List (List ℕ)) (f : File) → IsFile text f → group_count text ≡ length f.groups
file_groups text f h =
    let body = count_groups 1 f.groups (f.trailer ∷ f.tail) h.groups in
    let end = count_line f.trailer _ f.tail h.trailer in
    ap group_count (h.lines ∙ ap (λ (xs : List (List ℕ)). f.header ∷ xs) (append_assoc (lines_of_groups f.groups) (f.trailer ∷ []) f.tail))
    ∙ count_line f.header _ (lines_of_groups f.groups ++ (f.trailer ∷ f.tail)) h.header ∙ omega (arith, body.0, end)

pub file_records : (text : List (List ℕ)) (f : File) → IsFile text f → record_count text ≡ length (records_of f)
file_records text f h =
    let body = count_groups 1 f.groups (f.trailer ∷ f.tail) h.groups in
    let end = record_line f.trailer _ f.tail h.trailer in
    ap record_count (h.lines ∙ ap (λ (xs : List (List ℕ)). f.header ∷ xs) (append_assoc (lines_of_groups f.groups) (f.trailer ∷ []) f.tail))
    ∙ record_line f.header _ (lines_of_groups f.groups ++ (f.trailer ∷ f.tail)) h.header ∙ omega (arith, body.1, end, length-append (lines_of_groups f.groups) (f.trailer ∷ []))
