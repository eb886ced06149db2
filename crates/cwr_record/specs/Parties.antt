-- Interested parties, and the shares that they own and collect, in any record that names them (CWR 2.2).
use Rattle.std.specs.Prelude.{ℕ, Bool, true, false, List, [], ◌∷◌, Option}
use Rattle.cwr_field.specs.Share.{share_of}
use Rattle.cwr_record.specs.Columns as column
use Rattle.cwr_record.specs.declared.columns.Column.{Column}
use Rattle.cwr_record.specs.declared.record_type.RecordType.{RecordType}
use Rattle.cwr_record.specs.declared.record_type.RecordType.TheVariants.{Spu, Spt, Opu, Swr, Swt, Owr}

-- the records of a publisher or a writer: who owns shares
abbrev pub has_ownership : RecordType → Bool
has_ownership Spu = true
has_ownership Opu = true
has_ownership Swr = true
has_ownership Owr = true
has_ownership _ = false

-- the records of a territory: who collects shares, and where
abbrev pub has_collection : RecordType → Bool
has_collection Spt = true
has_collection Swt = true
has_collection _ = false

-- Interested Party #
abbrev pub party_column : RecordType → Column
party_column Spu = column.publisher_party
party_column Opu = column.publisher_party
party_column Spt = column.publisher_territory_party
party_column Swt = column.writer_territory_party
party_column _ = column.writer_party

-- a column for each right: performing, mechanical, synchronization
pub record RightColumns : Type 0 where
  pub performing : Column
  pub mechanical : Column
  pub synchronization : Column

-- the shares in these columns of a line: performing, mechanical, synchronization; `None` for one that is not valid
abbrev pub shares_at : List ℕ → RightColumns → List (Option ℕ)
shares_at line columns =
    share_of (column.field_at line columns.performing)
    ∷ share_of (column.field_at line columns.mechanical)
    ∷ share_of (column.field_at line columns.synchronization)
    ∷ []

-- where an SPU or OPU has its ownership shares
abbrev pub publisher_ownership : RightColumns
publisher_ownership = record {
  performing = column.publisher_performing_ownership;
  mechanical = column.publisher_mechanical_ownership;
  synchronization = column.publisher_synchronization_ownership;
}

-- where an SWR or OWR has its ownership shares
abbrev pub writer_ownership : RightColumns
writer_ownership = record {
  performing = column.writer_performing_ownership;
  mechanical = column.writer_mechanical_ownership;
  synchronization = column.writer_synchronization_ownership;
}

-- PR Ownership Share, MR Ownership Share, SR Ownership Share
abbrev pub ownership_columns : RecordType → RightColumns
ownership_columns Spu = publisher_ownership
ownership_columns Opu = publisher_ownership
ownership_columns _ = writer_ownership

-- where an SPT has its collection shares
abbrev pub publisher_collection : RightColumns
publisher_collection = record {
  performing = column.publisher_territory_performing_collection;
  mechanical = column.publisher_territory_mechanical_collection;
  synchronization = column.publisher_territory_synchronization_collection;
}

-- where an SWT has its collection shares
abbrev pub writer_collection : RightColumns
writer_collection = record {
  performing = column.writer_territory_performing_collection;
  mechanical = column.writer_territory_mechanical_collection;
  synchronization = column.writer_territory_synchronization_collection;
}

-- PR Collection Share, MR Collection Share, SR Collection Share
abbrev pub collection_columns : RecordType → RightColumns
collection_columns Spt = publisher_collection
collection_columns _ = writer_collection

-- Inclusion/Exclusion Indicator
abbrev pub indicator_column : RecordType → Column
indicator_column Spt = column.publisher_territory_indicator
indicator_column _ = column.writer_territory_indicator

-- TIS Numeric Code
abbrev pub territory_column : RecordType → Column
territory_column Spt = column.publisher_territory_territory
territory_column _ = column.writer_territory_territory
