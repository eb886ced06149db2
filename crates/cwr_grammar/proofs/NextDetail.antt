-- The next detail of an open transaction has no fault, nor has the header of the transaction that comes after it.
use Rattle.std.proofs.Common.{◌≡◌, ◌∙◌, ℕ, suc, ◌+◌, ◌-◌, ◌<◌, Bool, true, false, ◌&&◌, ◌||◌, eqb, eq-eqb, cond, List, [], ◌∷◌, length, map, filter, Some, None, arith, refl, sym, ap, subst}
use Rattle.std.specs.List.{list_any}
use Rattle.cwr_field.proofs.lemmas.Tests.{parts}
use Rattle.cwr_grammar.specs.Awaited.{next_detail, next_header}
use Rattle.cwr_record.specs.declared.works.WorkKind.{WorkKind}
use Rattle.cwr_record.specs.declared.works.WorkKind.TheVariants.{Nwr, Rev}
use Rattle.cwr_grammar.specs.Before.{in_group, in_transaction, group_kind, group_lines, transactions, transaction_lines, is_ended, is_nil, is_transaction_header}
use Rattle.cwr_grammar.specs.Counted.{counts_of}
use Rattle.cwr_grammar.specs.FaultTests.{is_headless, same_kind}
use Rattle.cwr_grammar.specs.File.{IsPlain}
use Rattle.cwr_grammar.specs.FirstFault.{role_fault, line_fault}
use Rattle.cwr_grammar.specs.Roles.{role_of}
use Rattle.cwr_grammar.specs.Visiting.{leaves_open}
use Rattle.cwr_grammar.specs.declared.file_counts.FileCounts.{FileCounts}
use Rattle.cwr_grammar.specs.declared.role.Role.{Role}
use Rattle.cwr_grammar.specs.declared.role.Role.TheVariants.{FileHeader, GroupHeader, TransactionHeader, Detail, GroupTrailer, FileTrailer, Unnamed}
use Rattle.cwr_grammar.proofs.ReadSteps.{no_fault}

some_line : (before : List Role) → in_group before ≡ true → is_nil before ≡ false
some_line [] e = absurd cc
some_line (b ∷ before) e = refl

-- where some line passes, they are not none
some_pass : (p : Role → Bool) (roles : List Role) → list_any p roles ≡ true → 0 < length (filter p roles)
some_pass p [] e = absurd cc
some_pass p (r ∷ roles) e =
    (elim (p r) as (λ b. (b || list_any p roles) ≡ true → 0 < length (cond b (r ∷ filter p roles) (filter p roles))) [
      | true ↦ λ _. omega arith
      | false ↦ λ rest. some_pass p roles rest
    ]) e

-- by its role
pub detail_clear : (before : List Role) → is_ended before ≡ false → in_group before ≡ true → in_transaction before ≡ true
    → role_fault before (Detail (Some (transactions before - 1)) (Some (length (transaction_lines before) + 1))) ≡ None
detail_clear before goes group inside =
    let began : 0 < transactions before = some_pass is_transaction_header (group_lines before) inside in
    let number : eqb (transactions before - 1 + 1) (transactions before) ≡ true = eq-eqb _ _ (omega (arith, began)) in
    let place : eqb (length (transaction_lines before) + 1) (length (transaction_lines before) + 1) ≡ true = eq-eqb _ _ refl in
    rw (goes, some_line before group, group, inside, number, place) refl

pub clear_at : (before : List Role) (s : FileCounts) → s ≡ counts_of before → s.is_ended ≡ false → (s.in_group && s.in_transaction) ≡ true → role_fault before (next_detail s) ≡ None
clear_at before s is goes inside =
    let P : FileCounts → Type 0 = λ x. x.is_ended ≡ false → (x.in_group && x.in_transaction) ≡ true → role_fault before (next_detail x) ≡ None in
    let at : P (counts_of before) = λ g i. let both = parts _ _ i in detail_clear before g both.0 both.1 in
    subst P (sym is) at goes inside

-- and as a line
pub line_clear : (before : List (List ℕ)) (line : List ℕ) (s : FileCounts) → s ≡ counts_of (map role_of before) → s.is_ended ≡ false → (s.in_group && s.in_transaction) ≡ true
    → role_of line ≡ next_detail s → IsPlain line → None ≡ line_fault before line
line_clear before line s is goes inside read plain =
    let group : in_group (map role_of before) ≡ true = sym (ap (λ (x : FileCounts). x.in_group) is) ∙ (parts _ _ inside).0 in
    let headed : false ≡ is_headless (map role_of before) (next_detail s) = sym (ap (λ (b : Bool). b && true) (some_line (map role_of before) group)) in
    no_fault before line (next_detail s) s is goes (sym read) headed (sym plain.0) (sym (clear_at (map role_of before) s is goes inside)) plain.1

same_as_itself : (kind : WorkKind) → same_kind (Some kind) (Some kind) ≡ true
same_as_itself Nwr = refl
same_as_itself Rev = refl

header_clear : (before : List Role) (kind : WorkKind) → is_ended before ≡ false → in_group before ≡ true → group_kind before ≡ Some kind
    → role_fault before (TransactionHeader (Some kind) (Some (transactions before)) (Some 0)) ≡ None
header_clear before kind goes group is =
    let number : eqb (transactions before) (transactions before) ≡ true = eq-eqb _ _ refl in
    rw (goes, some_line before group, group, is, same_as_itself kind, number) refl

header_at : (before : List Role) (s : FileCounts) (kind : WorkKind) → s ≡ counts_of before → s.is_ended ≡ false → s.in_group ≡ true → s.kind ≡ Some kind → role_fault before (next_header kind s) ≡ None
header_at before s kind is goes group named =
    let P : FileCounts → Type 0 = λ x. x.is_ended ≡ false → x.in_group ≡ true → x.kind ≡ Some kind → role_fault before (next_header kind x) ≡ None in
    let at : P (counts_of before) = λ g i k. header_clear before kind g i k in
    subst P (sym is) at goes group named

pub header_line_clear : (before : List (List ℕ)) (line : List ℕ) (s : FileCounts) (kind : WorkKind) → s ≡ counts_of (map role_of before) → s.is_ended ≡ false → (s.in_group && s.in_transaction) ≡ true
    → s.kind ≡ Some kind → role_of line ≡ next_header kind s → IsPlain line → None ≡ line_fault before line
header_line_clear before line s kind is goes inside named read plain =
    let open_group : s.in_group ≡ true = (parts _ _ inside).0 in
    let group : in_group (map role_of before) ≡ true = sym (ap (λ (x : FileCounts). x.in_group) is) ∙ open_group in
    let headed : false ≡ is_headless (map role_of before) (next_header kind s) = sym (ap (λ (b : Bool). b && true) (some_line (map role_of before) group)) in
    no_fault before line (next_header kind s) s is goes (sym read) headed (sym plain.0) (sym (header_at (map role_of before) s kind is goes open_group named)) plain.1

pub counted_next : (before : List Role) (s next : FileCounts) → s ≡ counts_of before → next ≡ record s { lines = s.lines + 1; group_lines = s.group_lines + 1; details = s.details + 1 }
    → next ≡ counts_of (next_detail s ∷ before)
counted_next before s next is more =
    let lines : length before + 1 ≡ suc (length before) = omega arith in
    let group : length (group_lines before) + 1 ≡ suc (length (group_lines before)) = omega arith in
    let details : length (transaction_lines before) + 1 ≡ suc (length (transaction_lines before)) = omega arith in
    more ∙ ap (λ (x : FileCounts). record x { lines = x.lines + 1; group_lines = x.group_lines + 1; details = x.details + 1 }) is ∙ rw (lines, group, details) refl

-- a line that leaves a transaction open does not end the file
pub open_goes_on : (role : Role) (before : List Role) → is_ended before ≡ false → leaves_open role ≡ true → is_ended (role ∷ before) ≡ false
open_goes_on (Detail j d) before goes opens = goes
open_goes_on (TransactionHeader kind j d) before goes opens = goes
open_goes_on (FileHeader valid) before goes opens = goes
open_goes_on (GroupHeader kind i) before goes opens = goes
open_goes_on (GroupTrailer i t r) before goes opens = goes
open_goes_on (FileTrailer g t r) before goes opens = absurd cc
open_goes_on Unnamed before goes opens = goes
