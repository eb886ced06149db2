-- A detail of a transaction, as the rules read it (CWR 2.2: SPU, OPU, SPT, SWR, OWR, SWT, PWR, ALT, XRF).
use Rattle.std.specs.Prelude.{ℕ, List, Option, slice_index, map}
use Rattle.cwr_field.specs.Layout.{party_of}
use Rattle.cwr_field.specs.Share.{share_of}
use Rattle.cwr_record.specs.declared.record_type.RecordType.{RecordType}
use Rattle.cwr_record.specs.declared.record_type.RecordType.TheVariants as of_type
use Rattle.cwr_record.specs.RecordTypes.{type_of}
use Rattle.cwr_record.specs.Columns.{field_at, every_record_type, link_publisher_party}
use Rattle.cwr_record.specs.Parties.{RightColumns, party_column, ownership_columns, collection_columns, indicator_column, territory_column}
use Rattle.cwr_record.specs.Territory.{territory_of}
use Rattle.cwr_rules.specs.declared.record.Shares.{Shares}
use Rattle.cwr_rules.specs.declared.record.Territory.{Territory}
use Rattle.cwr_rules.specs.declared.record.Record.{Record}
use Rattle.cwr_rules.specs.declared.record.Record.TheVariants.{Spu, Opu, Spt, Swr, Owr, Swt, Pwr, Alt, Xrf, Carried}

-- the shares of the three rights in these columns; `None` for one that is not valid
abbrev pub shares_from : List ℕ → RightColumns → Shares
shares_from line columns = record {
  performing = share_of (field_at line columns.performing);
  mechanical = share_of (field_at line columns.mechanical);
  synchronization = share_of (field_at line columns.synchronization);
}

-- the ownership shares of a line with a record of this type
abbrev pub owned_at : RecordType → List ℕ → Shares
owned_at t line = shares_from line (ownership_columns t)

-- the collection shares of a line with a record of this type
abbrev pub collected_at : RecordType → List ℕ → Shares
collected_at t line = shares_from line (collection_columns t)

-- the interested party number of a line with a record of this type; `None` where it is blank
abbrev pub party_at : RecordType → List ℕ → Option (List ℕ)
party_at t line = party_of (field_at line (party_column t))

-- the indicator of a territory, one byte, and its TIS code, `None` where that is not valid
abbrev pub territory_at : RecordType → List ℕ → Territory
territory_at t line = record {
  indicator = slice_index (field_at line (indicator_column t)) 0;
  code = territory_of (field_at line (territory_column t));
}

-- a line, read as a record of this type; types that the rules do not read are carried along
abbrev pub record_as : RecordType → List ℕ → Record
record_as of_type.Spu line = Spu (party_at of_type.Spu line) (owned_at of_type.Spu line)
record_as of_type.Opu line = Opu (party_at of_type.Opu line) (owned_at of_type.Opu line)
record_as of_type.Spt line = Spt (party_at of_type.Spt line) (collected_at of_type.Spt line) (territory_at of_type.Spt line)
record_as of_type.Swr line = Swr (party_at of_type.Swr line) (owned_at of_type.Swr line)
record_as of_type.Owr line = Owr (owned_at of_type.Owr line)
record_as of_type.Swt line = Swt (party_at of_type.Swt line) (collected_at of_type.Swt line) (territory_at of_type.Swt line)
record_as of_type.Pwr line = Pwr (party_of (field_at line link_publisher_party))
record_as of_type.Alt line = Alt
record_as of_type.Xrf line = Xrf
record_as _ line = Carried (field_at line every_record_type)

-- a line, read as the record that its first three bytes name
abbrev pub record_of : List ℕ → Record
record_of line = record_as (type_of line) line

-- the lines, each read as its record
abbrev pub records_of : List (List ℕ) → List Record
records_of lines = map record_of lines
