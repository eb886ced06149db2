-- The fields of a line that break a transaction rule: a list of three, `None` where there are fewer.
use Rattle.std.specs.Prelude.{ℕ, Bool, not, ◌||◌, ◌==◌, List, [], ◌∷◌, Option, Some, None, is_none, slice_index, if◌then◌else◌}
use Rattle.cwr_field.specs.Share.{share_of}
use Rattle.cwr_record.specs.Columns as column
use Rattle.cwr_record.specs.Columns.{field_at}
use Rattle.cwr_record.specs.Parties.{RightColumns, has_collection, party_column, ownership_columns, collection_columns, indicator_column, territory_column}
use Rattle.cwr_record.specs.RecordTypes.{type_of}
use Rattle.cwr_record.specs.Territory.{territory_of}
use Rattle.cwr_record.specs.declared.columns.Column.{Column}
use Rattle.cwr_record.specs.declared.record_type.RecordType.{RecordType}
use Rattle.cwr_rules.specs.Head.{is_copyright_date, is_duration}
use Rattle.cwr_report.specs.declared.finding.Spot.{Spot}
use Rattle.cwr_report.specs.declared.finding.FieldName.{FieldName}
use Rattle.cwr_report.specs.declared.finding.FieldName.TheVariants as name

-- the field, by name and column, where it breaks the rule; else `None`
abbrev pub spot_where : Bool → FieldName → Column → Option Spot
spot_where broken called at = if broken then Some (record { name = called; column = at }) else None

-- no field
abbrev pub no_fields : List (Option Spot)
no_fields = None ∷ None ∷ None ∷ []

-- one field, by name and column
abbrev pub one_field : FieldName → Column → List (Option Spot)
one_field called at = Some (record { name = called; column = at }) ∷ None ∷ None ∷ []

-- J5: the copyright date, the duration, or both
abbrev pub wrong_dates : List ℕ → List (Option Spot)
wrong_dates line =
    spot_where (not (is_copyright_date (field_at line column.work_head_copyright_date))) name.CopyrightDate column.work_head_copyright_date
    ∷ spot_where (not (is_duration (field_at line column.work_head_duration))) name.Duration column.work_head_duration
    ∷ None
    ∷ []

-- a share that is not valid; else `None`
abbrev pub wrong_share : List ℕ → FieldName → Column → Option Spot
wrong_share line called at = spot_where (is_none (share_of (field_at line at))) called at

-- the ownership shares that are not valid, in these columns
abbrev pub wrong_ownership : List ℕ → RightColumns → List (Option Spot)
wrong_ownership line columns =
    wrong_share line name.PerformingOwnership columns.performing
    ∷ wrong_share line name.MechanicalOwnership columns.mechanical
    ∷ wrong_share line name.SynchronizationOwnership columns.synchronization
    ∷ []

-- the collection shares that are not valid, in these columns
abbrev pub wrong_collection : List ℕ → RightColumns → List (Option Spot)
wrong_collection line columns =
    wrong_share line name.PerformingCollection columns.performing
    ∷ wrong_share line name.MechanicalCollection columns.mechanical
    ∷ wrong_share line name.SynchronizationCollection columns.synchronization
    ∷ []

-- J6: the shares of a record of this type that are not valid
abbrev pub wrong_shares : RecordType → List ℕ → List (Option Spot)
wrong_shares t line = if has_collection t then wrong_collection line (collection_columns t) else wrong_ownership line (ownership_columns t)

-- the byte is neither I nor E
abbrev pub is_no_indicator : ℕ → Bool
is_no_indicator byte = not ((byte == 73) || (byte == 69))

-- J14: the indicator, the TIS code, or both, in a record of this type
abbrev pub wrong_territory : RecordType → List ℕ → List (Option Spot)
wrong_territory t line =
    spot_where (is_no_indicator (slice_index (field_at line (indicator_column t)) 0)) name.Indicator (indicator_column t)
    ∷ spot_where (is_none (territory_of (field_at line (territory_column t)))) name.Territory (territory_column t)
    ∷ None
    ∷ []

-- the fields of the line that break the rule J with this number
abbrev pub fields_of : ℕ → List ℕ → List (Option Spot)
fields_of number line =
    if number == 1 then one_field name.RecordType column.every_record_type
    else if number == 2 then one_field name.WorkTitle column.work_head_title
    else if number == 3 then one_field name.SubmitterWorkNumber column.work_head_submitter_number
    else if number == 4 then one_field name.Iswc column.work_head_iswc
    else if number == 5 then wrong_dates line
    else if number == 6 then wrong_shares (type_of line) line
    else if number == 7 then one_field name.PartyNumber (party_column (type_of line))
    else if number == 8 then one_field name.PartyNumber (party_column (type_of line))
    else if number == 9 then one_field name.PublisherPartyNumber column.link_publisher_party
    else if number == 14 then wrong_territory (type_of line) line
    else no_fields
