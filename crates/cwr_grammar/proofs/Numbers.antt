-- The numbers that a line states have as many digits as their fields, and so the counts of a file are small.
use Rattle.std.proofs.Common.{◌≡◌, ℕ, ◌+◌, ◌<◌, ◌^◌, Bool, true, false, cond, List, [], ◌∷◌, length, map, Option, Some, None, IfSome, arith, refl, sym, ap, ◌∙◌, subst}
use Rattle.std.specs.List.{list_all}
use Rattle.std.specs.Char.{is_ascii_digit}
use Rattle.std.specs.Char.{digit_value}
use Rattle.std.specs.Str.Parse.{digits_value, AllDigits}
use Rattle.std.proofs.lemmas.Bool.Decides.{nat_tests}
use Rattle.std.proofs.lemmas.Int.Digits.{digits_value-lt}
use Rattle.cwr_field.specs.Number.{number_of}
use Rattle.cwr_record.specs.Columns as column
use Rattle.cwr_record.specs.Columns.{field_at}
use Rattle.cwr_record.specs.declared.columns.Column.{Column}
use Rattle.cwr_record.specs.RecordTypes.{type_of}
use Rattle.cwr_record.specs.declared.record_type.RecordType.{RecordType}
use Rattle.cwr_record.specs.declared.record_type.RecordType.TheVariants.{Hdr, Grh, Grt, Trl, Nwr, Rev, Ack, Spu, Spt, Opu, Swr, Swt, Pwr, Owr, Alt, Xrf, Other, Carried, Bad}
use Rattle.cwr_grammar.specs.declared.role.Role.{Role}
use Rattle.cwr_grammar.specs.declared.role.Role.TheVariants.{FileHeader, GroupHeader, TransactionHeader, Detail, GroupTrailer, FileTrailer, Unnamed}
use Rattle.cwr_grammar.specs.declared.file_counts.FileCounts.{FileCounts}
use Rattle.cwr_grammar.specs.Before.{groups, is_file_trailer}
use Rattle.cwr_grammar.specs.Counted.{counts_of, FitsHeader}
use Rattle.cwr_grammar.specs.FaultTests.{is_headless, has_control, is_long, is_tail, is_after_end}
use Rattle.cwr_grammar.specs.FirstFault.{role_fault, line_fault}
use Rattle.cwr_grammar.specs.Roles.{role_of, role_at}
use Rattle.cwr_grammar.proofs.Accepted.{head_is, group_head_is, file_end_is}
use Rattle.cwr_grammar.proofs.FileLaw.{unchain}
use Rattle.cwr_field.proofs.lemmas.Tests.{parts}
use Rattle.cwr_field.proofs.lemmas.Spelling.{length-field}

-- what the numbers of a role are below
abbrev pub HasSmallNumbers : Role → Type 0
HasSmallNumbers (GroupHeader kind group) = IfSome group (λ n. n < 10 ^ 5)
HasSmallNumbers (TransactionHeader kind transaction place) = IfSome transaction (λ n. n < 10 ^ 8)
HasSmallNumbers (GroupTrailer group transactions records) = IfSome records (λ n. n < 10 ^ 8)
HasSmallNumbers (FileTrailer groups transactions records) = IfSome records (λ n. n < 10 ^ 8)
HasSmallNumbers (FileHeader valid) = Unit {0}
HasSmallNumbers (Detail transaction place) = IfSome place (λ n. n < 10 ^ 8)
HasSmallNumbers Unnamed = Unit {0}

-- ---- digits

digit_below : (c : ℕ) → is_ascii_digit c ≡ true → digit_value c < 10
digit_below c e = grind (arith, nat_tests)

are_digits : (bytes : List ℕ) → list_all is_ascii_digit bytes ≡ true → AllDigits 10 bytes
are_digits [] e = tt
are_digits (c ∷ bytes) e = let h = parts (is_ascii_digit c) (list_all is_ascii_digit bytes) e in (digit_below c h.0, are_digits bytes h.1)

number_below : (bytes : List ℕ) (width : ℕ) → length bytes ≡ width → IfSome (number_of bytes) (λ n. n < 10 ^ width)
number_below bytes width long =
    let P : Bool → Type 0 = λ b. list_all is_ascii_digit bytes ≡ b → IfSome (cond b (Some (digits_value 10 bytes)) None) (λ n. n < 10 ^ width) in
    (elim (list_all is_ascii_digit bytes) as P [ true ↦ λ e. rw (← long) (digits_value-lt 10 bytes (are_digits bytes e)) | false ↦ λ _. tt ]) refl

field_below : (line : List ℕ) (c : Column) → IfSome (number_of (field_at line c)) (λ n. n < 10 ^ c.width)
field_below line c = number_below (field_at line c) c.width (length-field line c.start c.width)

-- ---- roles

small_at : (t : RecordType) (line : List ℕ) → HasSmallNumbers (role_at t line)
small_at Grh line = field_below line column.group_head_group
small_at Grt line = field_below line column.group_trailer_records
small_at Trl line = field_below line column.file_trailer_records
small_at Nwr line = field_below line column.prefix_transaction
small_at Rev line = field_below line column.prefix_transaction
small_at Ack line = field_below line column.prefix_transaction
small_at Other line = field_below line column.prefix_transaction
small_at Hdr line = tt
small_at Spu line = field_below line column.prefix_detail
small_at Spt line = field_below line column.prefix_detail
small_at Opu line = field_below line column.prefix_detail
small_at Swr line = field_below line column.prefix_detail
small_at Swt line = field_below line column.prefix_detail
small_at Pwr line = field_below line column.prefix_detail
small_at Owr line = field_below line column.prefix_detail
small_at Alt line = field_below line column.prefix_detail
small_at Xrf line = field_below line column.prefix_detail
small_at Carried line = field_below line column.prefix_detail
small_at Bad line = tt

pub small_role : (line : List ℕ) (role : Role) → role_of line ≡ role → HasSmallNumbers role
small_role line role e = subst HasSmallNumbers e (small_at (type_of line) line)

-- ---- counts

-- a line without a fault has no fault by its role
pub clear_role : (before : List (List ℕ)) (line : List ℕ) → is_after_end before ≡ false → None ≡ line_fault before line → role_fault (map role_of before) (role_of line) ≡ None
clear_role before line goes clear =
    (unchain (is_after_end before) (is_headless (map role_of before) (role_of line)) (has_control line) (is_long line) (role_fault (map role_of before) (role_of line)) (cond (is_tail line) None (Some 11)) goes (sym clear)).2

-- and no control byte
pub clear_control : (before : List (List ℕ)) (line : List ℕ) → is_after_end before ≡ false → None ≡ line_fault before line → has_control line ≡ false
clear_control before line goes clear =
    (unchain (is_after_end before) (is_headless (map role_of before) (role_of line)) (has_control line) (is_long line) (role_fault (map role_of before) (role_of line)) (cond (is_tail line) None (Some 11)) goes (sym clear)).1

small_is : (o : Option ℕ) (n k : ℕ) → o ≡ Some n → IfSome o (λ m. m < k) → n < k
small_is None n k e h = absurd cc
small_is (Some m) n k e h = let same : m ≡ n = cc in omega (arith, same, h)

groups_stay : (role : Role) (before : List Role) → role_fault before role ≡ None → HasSmallNumbers role → groups before < 10 ^ 5 → groups (role ∷ before) < 10 ^ 5
groups_stay (GroupHeader k i) before clear small few =
    let h = group_head_is before k i clear in
    let lt = small_is i (groups before + 1) (10 ^ 5) h.3 small in omega (arith, lt)
groups_stay (FileHeader valid) before clear small few = few
groups_stay (TransactionHeader k j d) before clear small few = few
groups_stay (Detail j d) before clear small few = few
groups_stay (GroupTrailer i t r) before clear small few = few
groups_stay (FileTrailer g t r) before clear small few = few
groups_stay Unnamed before clear small few = few

pub few_groups_after : (before : List (List ℕ)) (line : List ℕ) (role : Role) (s next : FileCounts) → s ≡ counts_of (map role_of before) → next ≡ counts_of (role ∷ map role_of before) → role ≡ role_of line
    → role_fault (map role_of before) (role_of line) ≡ None → s.groups < 10 ^ 5 → next.groups < 10 ^ 5
few_groups_after before line role s next is next_is read clear few =
    let now : groups (map role_of before) < 10 ^ 5 = subst (λ (n : ℕ). n < 10 ^ 5) (ap (λ (x : FileCounts). x.groups) is) few in
    let clear_at : role_fault (map role_of before) role ≡ None = ap (role_fault (map role_of before)) read ∙ clear in
    subst (λ (n : ℕ). n < 10 ^ 5) (sym (ap (λ (x : FileCounts). x.groups) next_is)) (groups_stay role (map role_of before) clear_at (small_role line role (sym read)) now)

fits_at : (role : Role) (before : List Role) (s : FileCounts) → s ≡ counts_of before → role_fault before role ≡ None → HasSmallNumbers role → s.groups < 10 ^ 5 → FitsHeader role s
fits_at (TransactionHeader k j d) before s is clear small few =
    let h = head_is before k j d clear in
    let lt = small_is j _ (10 ^ 8) h.2 small in
    (few, omega (arith, lt, ap (λ (x : FileCounts). x.transactions) is))
fits_at (GroupHeader k i) before s is clear small few = tt
fits_at (FileHeader valid) before s is clear small few = tt
fits_at (Detail j d) before s is clear small few = tt
fits_at (GroupTrailer i t r) before s is clear small few = tt
fits_at (FileTrailer g t r) before s is clear small few = tt
fits_at Unnamed before s is clear small few = tt

pub fits_header : (before : List (List ℕ)) (line : List ℕ) (role : Role) (s : FileCounts) → s ≡ counts_of (map role_of before) → role ≡ role_of line
    → role_fault (map role_of before) (role_of line) ≡ None → s.groups < 10 ^ 5 → FitsHeader role s
fits_header before line role s is read clear few =
    fits_at role (map role_of before) s is (ap (role_fault (map role_of before)) read ∙ clear) (small_role line role (sym read)) few

records_at_end : (role : Role) (before : List Role) → role_fault before role ≡ None → HasSmallNumbers role → is_file_trailer role ≡ true → length before + 1 < 10 ^ 8
records_at_end (FileTrailer g t r) before clear small e = small_is r (length before + 1) (10 ^ 8) (file_end_is before g t r clear).3 small
records_at_end (GroupHeader k i) before clear small e = absurd cc
records_at_end (FileHeader valid) before clear small e = absurd cc
records_at_end (TransactionHeader k j d) before clear small e = absurd cc
records_at_end (Detail j d) before clear small e = absurd cc
records_at_end (GroupTrailer i t r) before clear small e = absurd cc
records_at_end Unnamed before clear small e = absurd cc

-- the records of a file that ends without a fault
pub few_records : (before : List (List ℕ)) (line : List ℕ) (role : Role) (next : FileCounts) → next ≡ counts_of (role ∷ map role_of before) → role ≡ role_of line
    → role_fault (map role_of before) (role_of line) ≡ None → is_file_trailer role ≡ true → next.lines < 10 ^ 8
few_records before line role next is read clear last =
    let lt = records_at_end role (map role_of before) (ap (role_fault (map role_of before)) read ∙ clear) (small_role line role (sym read)) last in
    omega (arith, lt, ap (λ (x : FileCounts). x.lines) is)
