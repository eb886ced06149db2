-- Totals are at most the whole for each record.
use Rattle.std.proofs.Common.{◌≡◌, ℕ, ◌*◌, ◌<◌, ◌≤◌, Bool, true, false, cond, leb, List, [], ◌∷◌, length, Option, Some, None, arith, refl}
use Rattle.std.specs.Prelude.{filter, option_and_then}
use Rattle.std.proofs.lemmas.Bool.Decides.{nat_tests}
use Rattle.cwr_field.specs.Layout.{is_blank}
use Rattle.cwr_field.specs.Number.{number_of, max_count}
use Rattle.cwr_field.specs.Share.{whole, share_of}
use Rattle.cwr_record.specs.declared.record_type.RecordType.{RecordType}
use Rattle.cwr_record.specs.declared.record_type.RecordType.TheVariants as of_type
use Rattle.cwr_record.specs.Columns.{field_at}
use Rattle.cwr_record.specs.Parties.{RightColumns, ownership_columns, collection_columns}
use Rattle.cwr_record.specs.RecordTypes.{type_of}
use Rattle.cwr_rules.specs.declared.record.Record.{Record}
use Rattle.cwr_rules.specs.declared.record.Shares.{Shares}
use Rattle.cwr_rules.specs.declared.totals.Totals.{Totals}
use Rattle.cwr_rules.specs.Records.{record_as, records_of, shares_from}
use Rattle.cwr_rules.specs.Totals.{valued, total, performing_share, mechanical_share, synchronization_share, shares_of, totals_of}
use Rattle.cwr_rules.specs.Collected.{AreSmall, IsCapped, AreCapped}

capped : (o : Option ℕ) → valued (option_and_then (λ n. cond (leb n whole) (Some n) None) o) ≤ whole
capped None = omega arith
capped (Some n) =
    let P : Bool → Type 0 = λ b. leb n whole ≡ b → valued (cond b (Some n) None) ≤ whole in
    (elim (leb n whole) as P [ true ↦ λ h. grind (arith, nat_tests) | false ↦ λ h. omega arith ]) refl

share_small : (bytes : List ℕ) → valued (share_of bytes) ≤ whole
share_small bytes =
    elim (is_blank bytes) as (λ b. valued (cond b (Some 0) (option_and_then (λ n. cond (leb n whole) (Some n) None) (number_of bytes))) ≤ whole) [
      | true ↦ omega arith
      | false ↦ capped (number_of bytes)
    ]

by_line : (line : List ℕ) (columns : RightColumns) (r : Record) → shares_of r ≡ shares_from line columns → IsCapped r
by_line line columns r is = record {
  performing = rw is (share_small (field_at line columns.performing));
  mechanical = rw is (share_small (field_at line columns.mechanical));
  synchronization = rw is (share_small (field_at line columns.synchronization));
}

no_shares : (r : Record) → valued (shares_of r).performing ≡ 0 → valued (shares_of r).mechanical ≡ 0 → valued (shares_of r).synchronization ≡ 0 → IsCapped r
no_shares r p m s = record { performing = omega arith; mechanical = omega arith; synchronization = omega arith }

pub as_capped : (t : RecordType) (line : List ℕ) → IsCapped (record_as t line)
as_capped of_type.Spu line = by_line line (ownership_columns of_type.Spu) (record_as of_type.Spu line) refl
as_capped of_type.Opu line = by_line line (ownership_columns of_type.Opu) (record_as of_type.Opu line) refl
as_capped of_type.Spt line = by_line line (collection_columns of_type.Spt) (record_as of_type.Spt line) refl
as_capped of_type.Swr line = by_line line (ownership_columns of_type.Swr) (record_as of_type.Swr line) refl
as_capped of_type.Owr line = by_line line (ownership_columns of_type.Owr) (record_as of_type.Owr line) refl
as_capped of_type.Swt line = by_line line (collection_columns of_type.Swt) (record_as of_type.Swt line) refl
as_capped of_type.Pwr line = no_shares (record_as of_type.Pwr line) refl refl refl
as_capped of_type.Alt line = no_shares (record_as of_type.Alt line) refl refl refl
as_capped of_type.Xrf line = no_shares (record_as of_type.Xrf line) refl refl refl
as_capped of_type.Hdr line = no_shares (record_as of_type.Hdr line) refl refl refl
as_capped of_type.Grh line = no_shares (record_as of_type.Grh line) refl refl refl
as_capped of_type.Grt line = no_shares (record_as of_type.Grt line) refl refl refl
as_capped of_type.Trl line = no_shares (record_as of_type.Trl line) refl refl refl
as_capped of_type.Nwr line = no_shares (record_as of_type.Nwr line) refl refl refl
as_capped of_type.Rev line = no_shares (record_as of_type.Rev line) refl refl refl
as_capped of_type.Ack line = no_shares (record_as of_type.Ack line) refl refl refl
as_capped of_type.Other line = no_shares (record_as of_type.Other line) refl refl refl
as_capped of_type.Carried line = no_shares (record_as of_type.Carried line) refl refl refl
as_capped of_type.Bad line = no_shares (record_as of_type.Bad line) refl refl refl

pub records_capped : (lines : List (List ℕ)) → AreCapped (records_of lines)
records_capped [] = tt
records_capped (line ∷ lines) = (as_capped (type_of line) line, records_capped lines)

pub total_le : (right : Shares → Option ℕ) → ((r : Record) → IsCapped r → valued (right (shares_of r)) ≤ whole) → (p : Record → Bool) (records : List Record)
    → AreCapped records → total right (filter p records) ≤ whole * length records
total_le right capped p [] h = omega arith
total_le right capped p (r ∷ records) h =
    let rest = total_le right capped p records h.1 in
    let here = capped r h.0 in
    elim (p r) as (λ b. total right (cond b (r ∷ filter p records) (filter p records)) ≤ whole * length (r ∷ records)) [
      | true ↦ omega arith
      | false ↦ omega arith
    ]

pub record TotalsLe (limit : ℕ) (t : Totals) : Type 0 where
  pub performing : t.performing ≤ limit
  pub mechanical : t.mechanical ≤ limit
  pub synchronization : t.synchronization ≤ limit

pub totals_le : (p : Record → Bool) (records : List Record) → AreCapped records → TotalsLe (whole * length records) (totals_of p records)
totals_le p records h = record {
  performing = total_le performing_share (λ r k. k.performing) p records h;
  mechanical = total_le mechanical_share (λ r k. k.mechanical) p records h;
  synchronization = total_le synchronization_share (λ r k. k.synchronization) p records h;
}

pub totals_small : (p : Record → Bool) (records : List Record) (t : Totals) → length records < max_count → AreCapped records → t ≡ totals_of p records → AreSmall t
totals_small p records t lt h is =
    let le = totals_le p records h in
    rw is (record { performing = omega (arith, le.performing); mechanical = omega (arith, le.mechanical); synchronization = omega (arith, le.synchronization) })
