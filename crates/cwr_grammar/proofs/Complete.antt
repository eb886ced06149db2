-- An envelope has no fault.
use Rattle.std.proofs.Common.{◌≡◌, ℕ, zero, suc, ◌+◌, eqb, true, false, List, [], ◌∷◌, ◌++◌, length, Option, Some, None, arith, refl, ap, ◌∙◌, append_assoc, eq-eqb}
use Rattle.std.proofs.Math.Bool.{and-false}
use Rattle.std.specs.List.{list_any}
use Rattle.cwr_grammar.specs.declared.role.Role.{Role}
use Rattle.cwr_grammar.specs.declared.role.Role.TheVariants.{FileHeader, GroupHeader, TransactionHeader, Detail, GroupTrailer, FileTrailer}
use Rattle.cwr_record.specs.declared.works.WorkKind.{WorkKind}
use Rattle.cwr_record.specs.declared.works.WorkKind.TheVariants.{Nwr, Rev}
use Rattle.cwr_grammar.specs.Before.{in_group, in_transaction, group_kind, groups, transactions, all_transactions, group_lines, transaction_lines, is_file_trailer, is_nil}
use Rattle.cwr_grammar.specs.FaultTests.{same_kind}
use Rattle.cwr_grammar.specs.FirstFault.{role_fault}
use Rattle.cwr_grammar.proofs.Enveloped.{first_role_fault, Group, transaction, transactions_from, size, all_transactions_of, all_lines_of, group_text, groups_from, envelope}
use Rattle.cwr_grammar.proofs.Accepted.{details_from}

-- a line without a fault
pub step : (before rest : List Role) (line : Role) → role_fault before line ≡ None → first_role_fault before (line ∷ rest) ≡ first_role_fault (line ∷ before) rest
step before rest line none = rw none refl

same : (n : ℕ) → eqb n n ≡ true
same n = eq-eqb n n refl

-- lines that end in a group
pub record Opened (before : List Role) (k : WorkKind) (g a l t m : ℕ) : Type 0 where
  pub goes : list_any is_file_trailer before ≡ false
  pub some : is_nil before ≡ false
  pub group : in_group before ≡ true
  pub kind : group_kind before ≡ Some k
  pub groups : groups before ≡ g
  pub all : all_transactions before ≡ a
  pub lines : length before ≡ l
  pub transactions : transactions before ≡ t
  pub group_lines : length (group_lines before) ≡ m

-- and in a transaction
pub record Within (before : List Role) (k : WorkKind) (j g a l m d : ℕ) : Type 0 where
  pub opened : Opened before k g a l (j + 1) m
  pub inside : in_transaction before ≡ true
  pub details : length (transaction_lines before) ≡ d

-- lines that end between groups
pub record Closed (before : List Role) (g a l : ℕ) : Type 0 where
  pub goes : list_any is_file_trailer before ≡ false
  pub some : is_nil before ≡ false
  pub group : in_group before ≡ false
  pub groups : groups before ≡ g
  pub all : all_transactions before ≡ a
  pub lines : length before ≡ l

detail_clear : (before : List Role) (k : WorkKind) (j g a l m d : ℕ) → Within before k j g a l m d → role_fault before (Detail (Some j) (Some (d + 1))) ≡ None
detail_clear before k j g a l m d h = rw (h.opened.goes, h.opened.some, h.opened.group, h.inside, h.opened.transactions, h.details, same (j + 1), same (d + 1)) refl

within_at : (before : List Role) (k : WorkKind) (j g a l m d l' m' d' : ℕ) → l ≡ l' → m ≡ m' → d ≡ d' → Within before k j g a l m d → Within before k j g a l' m' d'
within_at before k j g a l m d l' m' d' p q r h = rw (← p, ← q, ← r) h

detail_next : (before : List Role) (k : WorkKind) (j g a l m d x y : ℕ) → Within before k j g a l m d → Within (Detail (Some x) (Some y) ∷ before) k j g a (l + 1) (m + 1) (d + 1)
detail_next before k j g a l m d x y h = record {
  opened = record {
    goes = h.opened.goes;
    some = refl;
    group = h.opened.group;
    kind = h.opened.kind;
    groups = h.opened.groups;
    all = h.opened.all;
    lines = omega (arith, h.opened.lines);
    transactions = h.opened.transactions;
    group_lines = omega (arith, h.opened.group_lines);
  };
  inside = h.inside;
  details = omega (arith, h.details);
}

details_clear : (n : ℕ) (before : List Role) (k : WorkKind) (j g a l m d : ℕ) (rest : List Role) → Within before k j g a l m d
    → (after : List Role) × Within after k j g a (l + n) (m + n) (d + n) × (first_role_fault before (details_from j (d + 1) n ++ rest) ≡ first_role_fault after rest)
details_clear zero before k j g a l m d rest h = (before, within_at before k j g a l m d (l + 0) (m + 0) (d + 0) (omega arith) (omega arith) (omega arith) h, refl)
details_clear (suc n) before k j g a l m d rest h =
    let here = detail_clear before k j g a l m d h in
    let next = details_clear n (Detail (Some j) (Some (d + 1)) ∷ before) k j g a (l + 1) (m + 1) (d + 1) rest (detail_next before k j g a l m d j (d + 1) h) in (
      next.0,
      within_at next.0 k j g a (l + 1 + n) (m + 1 + n) (d + 1 + n) (l + suc n) (m + suc n) (d + suc n) (omega arith) (omega arith) (omega arith) next.1,
      step before (details_from j (d + 1 + 1) n ++ rest) (Detail (Some j) (Some (d + 1))) here ∙ next.2,
    )

same_kind_is : (k : WorkKind) → same_kind (Some k) (Some k) ≡ true
same_kind_is Nwr = refl
same_kind_is Rev = refl

head_clear : (before : List Role) (k : WorkKind) (g a l t m : ℕ) → Opened before k g a l t m → role_fault before (TransactionHeader (Some k) (Some t) (Some 0)) ≡ None
head_clear before k g a l t m h = rw (h.goes, h.some, h.group, h.kind, same_kind_is k, h.transactions, same t) refl

head_next : (before : List Role) (k : WorkKind) (g a l t m : ℕ) (x : Option WorkKind) (y z : Option ℕ) → Opened before k g a l t m → Within (TransactionHeader x y z ∷ before) k t g (a + 1) (l + 1) (m + 1) 0
head_next before k g a l t m x y z h = record {
  opened = record {
    goes = h.goes;
    some = refl;
    group = h.group;
    kind = h.kind;
    groups = h.groups;
    all = omega (arith, h.all);
    lines = omega (arith, h.lines);
    transactions = omega (arith, h.transactions);
    group_lines = omega (arith, h.group_lines);
  };
  inside = refl;
  details = refl;
}

opened_at : (before : List Role) (k : WorkKind) (g a l t m a' l' t' m' : ℕ) → a ≡ a' → l ≡ l' → t ≡ t' → m ≡ m' → Opened before k g a l t m → Opened before k g a' l' t' m'
opened_at before k g a l t m a' l' t' m' p q r s h = rw (← p, ← q, ← r, ← s) h

transactions_clear : (ns : List ℕ) (before : List Role) (k : WorkKind) (g a l t m : ℕ) (rest : List Role) → Opened before k g a l t m
    → (after : List Role) × Opened after k g (a + length ns) (l + size ns) (t + length ns) (m + size ns) × (first_role_fault before (transactions_from k t ns ++ rest) ≡ first_role_fault after rest)
transactions_clear [] before k g a l t m rest h = (before, opened_at before k g a l t m (a + 0) (l + 0) (t + 0) (m + 0) (omega arith) (omega arith) (omega arith) (omega arith) h, refl)
transactions_clear (n ∷ ns) before k g a l t m rest h =
    let head = TransactionHeader (Some k) (Some t) (Some 0) in
    let tail = transactions_from k (t + 1) ns in
    let d = details_clear n (TransactionHeader (Some k) (Some t) (Some 0) ∷ before) k t g (a + 1) (l + 1) (m + 1) 0 (transactions_from k (t + 1) ns ++ rest) (head_next before k g a l t m (Some k) (Some t) (Some 0) h) in
    let next = transactions_clear ns d.0 k g (a + 1) (l + 1 + n) (t + 1) (m + 1 + n) rest d.1.opened in (
      next.0,
      opened_at next.0 k g (a + 1 + length ns) (l + 1 + n + size ns) (t + 1 + length ns) (m + 1 + n + size ns) (a + suc (length ns)) (l + (n + 1 + size ns)) (t + suc (length ns)) (m + (n + 1 + size ns)) (omega arith) (omega arith) (omega arith) (omega arith) next.1,
      ap (first_role_fault before) (append_assoc (transaction k t n) tail rest) ∙ step before (details_from t 1 n ++ (tail ++ rest)) head (head_clear before k g a l t m h) ∙ d.2 ∙ next.2,
    )

group_head_clear : (before : List Role) (k : WorkKind) (g a l : ℕ) → Closed before g a l → role_fault before (GroupHeader (Some k) (Some (g + 1))) ≡ None
group_head_clear before k g a l h = rw (h.goes, h.some, h.group, h.groups, same (g + 1)) refl

group_head_next : (before : List Role) (k : WorkKind) (g a l : ℕ) (y : Option ℕ) → Closed before g a l → Opened (GroupHeader (Some k) y ∷ before) k (g + 1) a (l + 1) 0 0
group_head_next before k g a l y h = record { goes = h.goes; some = refl; group = refl; kind = refl; groups = omega (arith, h.groups); all = h.all; lines = omega (arith, h.lines); transactions = refl; group_lines = refl }

group_end_clear : (before : List Role) (k : WorkKind) (g a l t m : ℕ) → Opened before k g a l t m → role_fault before (GroupTrailer (Some g) (Some t) (Some (m + 2))) ≡ None
group_end_clear before k g a l t m h = rw (h.goes, h.some, h.group, h.groups, h.transactions, h.group_lines, same g, same t, same (m + 2)) refl

group_end_next : (before : List Role) (k : WorkKind) (g a l t m : ℕ) (x y z : Option ℕ) → Opened before k g a l t m → Closed (GroupTrailer x y z ∷ before) g a (l + 1)
group_end_next before k g a l t m x y z h = record { goes = h.goes; some = refl; group = and-false _; groups = h.groups; all = h.all; lines = omega (arith, h.lines) }

closed_at : (before : List Role) (g a l g' a' l' : ℕ) → g ≡ g' → a ≡ a' → l ≡ l' → Closed before g a l → Closed before g' a' l'
closed_at before g a l g' a' l' p q r h = rw (← p, ← q, ← r) h

pub group_end_is : (g t m t' m' : ℕ) → t ≡ t' → m ≡ m' → GroupTrailer (Some g) (Some t) (Some m) ≡ GroupTrailer (Some g) (Some t') (Some m')
group_end_is g t m t' m' p q = cc

groups_clear : (gs : List Group) (before : List Role) (g a l : ℕ) (rest : List Role) → Closed before g a l
    → (after : List Role) × Closed after (g + length gs) (a + all_transactions_of gs) (l + all_lines_of gs) × (first_role_fault before (groups_from (g + 1) gs ++ rest) ≡ first_role_fault after rest)
groups_clear [] before g a l rest h = (before, closed_at before g a l (g + 0) (a + 0) (l + 0) (omega arith) (omega arith) (omega arith) h, refl)
groups_clear (x ∷ gs) before g a l rest h =
    let head = GroupHeader (Some x.kind) (Some (g + 1)) in
    let others = groups_from (g + 1 + 1) gs ++ rest in
    let end = GroupTrailer (Some (g + 1)) (Some (length x.details)) (Some (2 + size x.details)) in
    let t = transactions_clear x.details (GroupHeader (Some x.kind) (Some (g + 1)) ∷ before) x.kind (g + 1) a (l + 1) 0 0 (end ∷ others) (group_head_next before x.kind g a l (Some (g + 1)) h) in
    let opened = opened_at t.0 x.kind (g + 1) (a + length x.details) (l + 1 + size x.details) (0 + length x.details) (0 + size x.details) (a + length x.details) (l + 1 + size x.details) (length x.details) (size x.details) refl refl (omega arith) (omega arith) t.1 in
    let clear : role_fault t.0 end ≡ None = ap (role_fault t.0) (group_end_is (g + 1) (length x.details) (2 + size x.details) (length x.details) (size x.details + 2) refl (omega arith)) ∙ group_end_clear t.0 x.kind (g + 1) (a + length x.details) (l + 1 + size x.details) (length x.details) (size x.details) opened in
    let next = groups_clear gs (end ∷ t.0) (g + 1) (a + length x.details) (l + 1 + size x.details + 1) rest (group_end_next t.0 x.kind (g + 1) (a + length x.details) (l + 1 + size x.details) (length x.details) (size x.details) _ _ _ opened) in
    let grouped : groups_from (g + 1) (x ∷ gs) ++ rest ≡ head ∷ (transactions_from x.kind 0 x.details ++ (end ∷ others)) =
    append_assoc (group_text (g + 1) x) (groups_from (g + 1 + 1) gs) rest ∙ ap (λ (y : List Role). head ∷ y) (append_assoc (transactions_from x.kind 0 x.details) (end ∷ []) others) in (
      next.0,
      closed_at next.0 (g + 1 + length gs) (a + length x.details + all_transactions_of gs) (l + 1 + size x.details + 1 + all_lines_of gs) (g + suc (length gs)) (a + (length x.details + all_transactions_of gs)) (l + (size x.details + 2 + all_lines_of gs)) (omega arith) (omega arith) (omega arith) next.1,
      ap (first_role_fault before) grouped ∙ step before (transactions_from x.kind 0 x.details ++ (end ∷ others)) head (group_head_clear before x.kind g a l h) ∙ t.2 ∙ step t.0 others end clear ∙ next.2,
    )

file_end_clear : (before : List Role) (g a l : ℕ) → Closed before g a l → role_fault before (FileTrailer (Some g) (Some a) (Some (l + 1))) ≡ None
file_end_clear before g a l h = rw (h.goes, h.some, h.group, h.groups, h.all, h.lines, same g, same a, same (l + 1)) refl

pub file_end_is : (g a l g' a' l' : ℕ) → g ≡ g' → a ≡ a' → l ≡ l' → FileTrailer (Some g) (Some a) (Some l) ≡ FileTrailer (Some g') (Some a') (Some l')
file_end_is g a l g' a' l' p q r = cc

pub envelope_clear : (gs : List Group) → first_role_fault [] (envelope gs) ≡ None
envelope_clear gs =
    let end = FileTrailer (Some (length gs)) (Some (all_transactions_of gs)) (Some (2 + all_lines_of gs)) in
    let start : Closed (FileHeader true ∷ []) 0 0 1 = record { goes = refl; some = refl; group = refl; groups = refl; all = refl; lines = refl } in
    let body = groups_clear gs (FileHeader true ∷ []) 0 0 1 (end ∷ []) start in
    let clear : role_fault body.0 end ≡ None = ap (role_fault body.0) (file_end_is (length gs) (all_transactions_of gs) (2 + all_lines_of gs) (0 + length gs) (0 + all_transactions_of gs) (1 + all_lines_of gs + 1) (omega arith) (omega arith) (omega arith)) ∙ file_end_clear body.0 (0 + length gs) (0 + all_transactions_of gs) (1 + all_lines_of gs) body.1 in
    body.2 ∙ step body.0 [] end clear
