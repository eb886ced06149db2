-- A record is read from the first bytes of its line alone.
use Rattle.std.proofs.Common.{◌≡◌, ◌∙◌, ℕ, zero, suc, ◌+◌, ◌-◌, ◌<◌, ◌≤◌, List, [], ◌∷◌, ◌++◌, Some, length, take, drop, replicate, refl, sym, ap, add_comm, append_assoc, arith}
use Rattle.std.proofs.lemmas.List.{length-take, length-drop, length-append, length-replicate, replicate-append-replicate, take-take, take-append-le, take_all, drop_all, drop-take}
use Rattle.cwr_field.specs.Layout.{field}
use Rattle.cwr_field.specs.Share.{share_of}
use Rattle.cwr_record.specs.Columns as column
use Rattle.cwr_record.specs.Columns.{field_at}
use Rattle.cwr_record.specs.declared.columns.Column.{Column}
use Rattle.cwr_record.specs.declared.record_type.RecordType.{RecordType}
use Rattle.cwr_record.specs.declared.record_type.RecordType.TheVariants.{Spu, Opu, Spt, Swr, Owr, Swt, Pwr, Alt, Xrf}
use Rattle.cwr_record.specs.Parties.{RightColumns, ownership_columns}
use Rattle.cwr_rules.specs.declared.record.Shares.{Shares}
use Rattle.cwr_rules.specs.Records.{record_as, owned_at, shares_from}

-- the position of a column's last byte
abbrev end_of : Column → ℕ
end_of c = c.start - 1 + c.width

-- the position of the last byte that a rule reads of a line of this type
abbrev pub last_byte : RecordType → ℕ
last_byte Spu = end_of column.publisher_synchronization_ownership
last_byte Opu = end_of column.publisher_synchronization_ownership
last_byte Spt = end_of column.publisher_territory_territory
last_byte Swr = end_of column.writer_synchronization_ownership
last_byte Owr = end_of column.writer_synchronization_ownership
last_byte Swt = end_of column.writer_territory_territory
last_byte Pwr = end_of column.link_publisher_party
last_byte _ = end_of column.every_record_type

-- a field that ends within the first n bytes
field_in_front : (line : List ℕ) (start width n : ℕ) → start - 1 + width ≤ n → n ≤ length line → field (take n line) start width ≡ field line start width
field_in_front line start width n within long =
    let at = start - 1 in
    let rest = n - at in
    let parts : at + rest ≡ n = omega (arith, within) in
    let front : drop at (take n line) ≡ take rest (drop at line) = ap (λ (m : ℕ). drop at (take m line)) (sym parts) ∙ drop-take at rest line in
    let whole : width ≤ length (drop at line) = omega (arith, within, long, length-drop at line) in
    let enough : width ≤ length (take rest (drop at line)) = omega (arith, within, whole, length-take rest (drop at line)) in
    ap (λ (bytes : List ℕ). take width (bytes ++ replicate width 32)) front
    ∙ take-append-le width (take rest (drop at line)) (replicate width 32) enough
    ∙ take-take width rest (drop at line) (omega (arith, within))
    ∙ sym (take-append-le width (drop at line) (replicate width 32) whole)

pub at_column : (line : List ℕ) (c : Column) (n : ℕ) → end_of c ≤ n → n ≤ length line → field_at (take n line) c ≡ field_at line c
at_column line c n within long = field_in_front line c.start c.width n within long

-- two lines with the same fields are the same record
same_fields : (t : RecordType) (one other : List ℕ) → ((c : Column) → end_of c ≤ last_byte t → field_at one c ≡ field_at other c) → record_as t one ≡ record_as t other
same_fields Spu one other f = rw (
  f column.publisher_party (omega arith),
  f column.publisher_performing_ownership (omega arith),
  f column.publisher_mechanical_ownership (omega arith),
  f column.publisher_synchronization_ownership (omega arith),
) refl
same_fields Opu one other f = rw (
  f column.publisher_party (omega arith),
  f column.publisher_performing_ownership (omega arith),
  f column.publisher_mechanical_ownership (omega arith),
  f column.publisher_synchronization_ownership (omega arith),
) refl
same_fields Spt one other f = rw (
  f column.publisher_territory_party (omega arith),
  f column.publisher_territory_performing_collection (omega arith),
  f column.publisher_territory_mechanical_collection (omega arith),
  f column.publisher_territory_synchronization_collection (omega arith),
  f column.publisher_territory_indicator (omega arith),
  f column.publisher_territory_territory (omega arith),
) refl
same_fields Swr one other f = rw (
  f column.writer_party (omega arith),
  f column.writer_performing_ownership (omega arith),
  f column.writer_mechanical_ownership (omega arith),
  f column.writer_synchronization_ownership (omega arith),
) refl
same_fields Owr one other f = rw (
  f column.writer_performing_ownership (omega arith),
  f column.writer_mechanical_ownership (omega arith),
  f column.writer_synchronization_ownership (omega arith),
) refl
same_fields Swt one other f = rw (
  f column.writer_territory_party (omega arith),
  f column.writer_territory_performing_collection (omega arith),
  f column.writer_territory_mechanical_collection (omega arith),
  f column.writer_territory_synchronization_collection (omega arith),
  f column.writer_territory_indicator (omega arith),
  f column.writer_territory_territory (omega arith),
) refl
same_fields Pwr one other f = rw (f column.link_publisher_party (omega arith)) refl
same_fields Alt one other f = refl
same_fields Xrf one other f = refl
same_fields _ one other f = rw (f column.every_record_type (omega arith)) refl

pub read_in_front : (t : RecordType) (line : List ℕ) (n : ℕ) → last_byte t ≤ n → n ≤ length line → record_as t (take n line) ≡ record_as t line
read_in_front t line n le long = same_fields t (take n line) line (λ c within. at_column line c n (omega (arith, within, le)) long)

drop_none : (n : ℕ) → drop {A = ℕ} n [] ≡ []
drop_none zero = refl
drop_none (suc n) = refl

-- blanks behind a line leave blanks behind what is dropped of it
drop_padded : (n : ℕ) (line : List ℕ) (k : ℕ) → (j : ℕ) × (drop n (line ++ replicate k 32) ≡ drop n line ++ replicate j 32)
drop_padded zero line k = (k, refl)
drop_padded (suc n) [] zero = (0, refl)
drop_padded (suc n) [] (suc k) =
    let rest = drop_padded n [] k in
    (rest.0, rest.1 ∙ ap (λ (bytes : List ℕ). bytes ++ replicate rest.0 32) (drop_none n))
drop_padded (suc n) (x ∷ line) k = drop_padded n line k

take_padded : (width j : ℕ) (bytes : List ℕ) → take width ((bytes ++ replicate j 32) ++ replicate width 32) ≡ take width (bytes ++ replicate width 32)
take_padded width j bytes =
    let front = bytes ++ replicate width 32 in
    let blanks : replicate {A = ℕ} j 32 ++ replicate width 32 ≡ replicate width 32 ++ replicate j 32 =
    replicate-append-replicate j width 32 ∙ ap (λ (n : ℕ). replicate n 32) (add_comm j width) ∙ sym (replicate-append-replicate width j 32) in
    let same : (bytes ++ replicate j 32) ++ replicate width 32 ≡ front ++ replicate j 32 =
    append_assoc bytes (replicate j 32) (replicate width 32) ∙ ap (λ (end : List ℕ). bytes ++ end) blanks ∙ sym (append_assoc bytes (replicate width 32) (replicate j 32)) in
    ap (λ (text : List ℕ). take width text) same
    ∙ take-append-le width front (replicate j 32) (omega (arith, length-append bytes (replicate width 32), length-replicate {A = ℕ} width 32))

-- a field of a line is that of the line with blanks behind it
field_padded : (line : List ℕ) (start width k : ℕ) → field (line ++ replicate k 32) start width ≡ field line start width
field_padded line start width k =
    let after = drop_padded (start - 1) line k in
    ap (λ (bytes : List ℕ). take width (bytes ++ replicate width 32)) after.1 ∙ take_padded width after.0 (drop (start - 1) line)

last_within : (t : RecordType) → last_byte t ≤ 150
last_within Spu = omega arith
last_within Opu = omega arith
last_within Spt = omega arith
last_within Swr = omega arith
last_within Owr = omega arith
last_within Swt = omega arith
last_within Pwr = omega arith
last_within _ = omega arith

-- a record is read from the line's first 150 bytes, with blanks behind its end
pub read_of_padded : (t : RecordType) (line : List ℕ) → record_as t (field line 1 150) ≡ record_as t line
read_of_padded t line =
    let whole = line ++ replicate 150 32 in
    read_in_front t whole 150 (last_within t) (omega (arith, length-append line (replicate 150 32), length-replicate {A = ℕ} 150 32))
    ∙ same_fields t whole line (λ c within. field_padded line c.start c.width 150)

-- a field behind the line's end is blank
pub blank_behind : (line : List ℕ) (c : Column) → length line < c.start → field_at line c ≡ replicate c.width 32
blank_behind line c short =
    let none : drop (c.start - 1) line ≡ [] = drop_all (c.start - 1) line (omega (arith, short)) in
    ap (λ (bytes : List ℕ). take c.width (bytes ++ replicate c.width 32)) none
    ∙ take_all c.width (replicate c.width 32) (omega (arith, length-replicate {A = ℕ} c.width 32))

abbrev blank_shares : Shares
blank_shares = record { performing = Some 0; mechanical = Some 0; synchronization = Some 0 }

-- shares behind the line's end are blank
shares_behind : (line : List ℕ) (c : RightColumns) → c.performing.width ≡ 5 → c.mechanical.width ≡ 5 → c.synchronization.width ≡ 5
    → length line < c.performing.start → length line < c.mechanical.start → length line < c.synchronization.start → shares_from line c ≡ blank_shares
shares_behind line c wp wm ws p m s =
    let one : (column : Column) → column.width ≡ 5 → length line < column.start → share_of (field_at line column) ≡ Some 0 =
    λ column five short. ap share_of (blank_behind line column short) ∙ ap (λ (n : ℕ). share_of (replicate n 32)) five in
    rw (one c.performing wp p, one c.mechanical wm m, one c.synchronization ws s) refl

pub owned_behind_publisher : (t : RecordType) (line : List ℕ) → ownership_columns t ≡ ownership_columns Spu → length line < 116 → owned_at t line ≡ blank_shares
owned_behind_publisher t line is short = ap (shares_from line) is ∙ shares_behind line (ownership_columns Spu) refl refl refl (omega arith) (omega arith) (omega arith)

pub owned_behind_writer : (t : RecordType) (line : List ℕ) → ownership_columns t ≡ ownership_columns Swr → length line < 130 → owned_at t line ≡ blank_shares
owned_behind_writer t line is short = ap (shares_from line) is ∙ shares_behind line (ownership_columns Swr) refl refl refl (omega arith) (omega arith) (omega arith)
