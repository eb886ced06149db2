-- A record's type is named by the first three bytes of its line.
use Rattle.std.proofs.Common.{◌≡◌, ℕ, Bool, true, false, cond, List, [], ◌∷◌, refl, sym}
use Rattle.std.specs.Prelude.{codes}
use Rattle.std.specs.List.{list_all}
use Rattle.std.specs.Char.{is_ascii_uppercase}
use Rattle.std.specs.Str.{bytes_eq}
use Rattle.std.proofs.lemmas.Slice.Eq.{bytes_eq-Decides}
use Rattle.cwr_record.specs.Columns.{field_at, every_record_type}
use Rattle.cwr_record.specs.declared.record_type.RecordType.{RecordType}
use Rattle.cwr_record.specs.declared.record_type.RecordType.TheVariants as of_type
use Rattle.cwr_record.specs.RecordTypes.{is_other}
use Rattle.cwr_rules.specs.Records.{record_as, record_of}
use Rattle.cwr_rules.specs.Rules.{name_of}

-- a record of the type, read from the line, has its name
record IsNamed (line : List ℕ) (t : RecordType) : Type 0 where
  pub name : name_of (record_as t line) ≡ field_at line every_record_type

-- the type beside the first name that is this one
abbrev type_in : List (List ℕ × RecordType) → List ℕ → RecordType → RecordType
type_in [] name last = last
type_in (row ∷ rows) name last = cond (bytes_eq name row.0) row.1 (type_in rows name last)

abbrev AllNamed : List ℕ → List (List ℕ × RecordType) → Type 0
AllNamed line [] = Unit {0}
AllNamed line (row ∷ rows) = (field_at line every_record_type ≡ row.0 → IsNamed line row.1) × AllNamed line rows

by_table : (line : List ℕ) (rows : List (List ℕ × RecordType)) (last : RecordType) → AllNamed line rows → IsNamed line last → IsNamed line (type_in rows (field_at line every_record_type) last)
by_table line [] last h k = k
by_table line (row ∷ rows) last h k =
    let P : Bool → Type 0 = λ b. bytes_eq (field_at line every_record_type) row.0 ≡ b → IsNamed line (cond b row.1 (type_in rows (field_at line every_record_type) last)) in
    (elim (bytes_eq (field_at line every_record_type) row.0) as P [ true ↦ λ e. h.0 ((bytes_eq-Decides (field_at line every_record_type) row.0).0 e) | false ↦ λ e. by_table line rows last h.1 k ]) refl

abbrev names : List (List ℕ × RecordType)
names =
    (codes "NWR", of_type.Nwr)
    ∷ (codes "REV", of_type.Rev)
    ∷ (codes "SPU", of_type.Spu)
    ∷ (codes "SPT", of_type.Spt)
    ∷ (codes "OPU", of_type.Opu)
    ∷ (codes "SWR", of_type.Swr)
    ∷ (codes "SWT", of_type.Swt)
    ∷ (codes "PWR", of_type.Pwr)
    ∷ (codes "OWR", of_type.Owr)
    ∷ (codes "ALT", of_type.Alt)
    ∷ (codes "XRF", of_type.Xrf)
    ∷ (codes "HDR", of_type.Hdr)
    ∷ (codes "GRH", of_type.Grh)
    ∷ (codes "GRT", of_type.Grt)
    ∷ (codes "TRL", of_type.Trl)
    ∷ (codes "ACK", of_type.Ack)
    ∷ []

all_named : (line : List ℕ) → AllNamed line names
all_named line = (λ e. record { name = refl }, (λ e. record { name = refl }, (λ e. record { name = sym e }, (λ e. record { name = sym e }, (λ e. record { name = sym e }, (λ e. record { name = sym e }, (λ e. record { name = sym e }, (λ e. record { name = sym e }, (λ e. record { name = sym e }, (λ e. record { name = sym e }, (λ e. record { name = sym e }, (λ e. record { name = refl }, (λ e. record { name = refl }, (λ e. record { name = refl }, (λ e. record { name = refl }, (λ e. record { name = refl }, tt))))))))))))))))

unread : (line : List ℕ) (a b : Bool) → IsNamed line (cond a of_type.Other (cond b of_type.Carried of_type.Bad))
unread line true b = record { name = refl }
unread line false true = record { name = refl }
unread line false false = record { name = refl }

pub names_are : (line : List ℕ) → name_of (record_of line) ≡ field_at line every_record_type
names_are line =
    let n = field_at line every_record_type in
    (by_table line names (cond (is_other n) of_type.Other (cond (list_all is_ascii_uppercase n) of_type.Carried of_type.Bad)) (all_named line) (unread line (is_other n) (list_all is_ascii_uppercase n))).name
