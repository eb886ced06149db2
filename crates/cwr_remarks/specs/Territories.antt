-- The territories of a publisher or a writer of the submitter: those after its record, up to the next one of its type
-- or the end of the transaction.
use Rattle.std.specs.Prelude.{ℕ, Bool, true, false, ◌&&◌, ◌==◌, List, [], ◌∷◌, Option, Some, None, slice_index, if◌then◌else◌}
use Rattle.cwr_record.specs.Columns.{field_at}
use Rattle.cwr_record.specs.Parties.{indicator_column}
use Rattle.cwr_record.specs.RecordTypes.{type_of}
use Rattle.cwr_record.specs.declared.record_type.RecordType.{RecordType}
use Rattle.cwr_record.specs.declared.record_type.RecordType.TheVariants.{Hdr, Grh, Grt, Trl, Nwr, Rev, Ack, Spu, Spt, Swr, Swt, Other, Bad}
use Rattle.cwr_remarks.specs.declared.remark.Remarked.{Remarked}
use Rattle.cwr_remarks.specs.declared.remark.Remarked.TheVariants.{OnlyExcluded}

-- the record can have territories: an SPU or an SWR
abbrev pub has_territories : RecordType → Bool
has_territories Spu = true
has_territories Swr = true
has_territories _ = false

-- the record is a territory of the one before it: an SPT of an SPU, an SWT of an SWR
abbrev pub is_territory_of : RecordType → RecordType → Bool
is_territory_of Spu Spt = true
is_territory_of Swr Swt = true
is_territory_of _ _ = false

-- the record belongs to no transaction, or begins one
abbrev pub is_outside : RecordType → Bool
is_outside Hdr = true
is_outside Grh = true
is_outside Grt = true
is_outside Trl = true
is_outside Nwr = true
is_outside Rev = true
is_outside Ack = true
is_outside Other = true
is_outside _ = false

-- no territory of the record of type `leading` stands behind this one
abbrev pub is_end : RecordType → RecordType → Bool
is_end Spu Spu = true
is_end Swr Swr = true
is_end leading t = is_outside t

-- the line has no record type, so that it is not known what it was meant to be
abbrev pub is_untyped : RecordType → Bool
is_untyped Bad = true
is_untyped _ = false

-- the territory has the indicator E
abbrev pub is_exclusion : RecordType → List ℕ → Bool
is_exclusion t line = slice_index (field_at line (indicator_column t)) 0 == 69

-- Of these lines, which follow a record: all its territories are exclusions, and there is at least one; `some` says
-- whether there was one before these lines. It is not so where the lines end before the territories do, or where one
-- of them has no record type.
abbrev pub are_excluded : RecordType → Bool → List (List ℕ) → Bool
are_excluded leading some [] = false
are_excluded leading some (line ∷ lines) =
    if is_territory_of leading (type_of line) then is_exclusion (type_of line) line && are_excluded leading true lines
    else if is_end leading (type_of line) then some
    else if is_untyped (type_of line) then false
    else are_excluded leading some lines

-- a remark on a record of this type, given the lines after it, where all its territories are exclusions
abbrev pub only_excluded : RecordType → List (List ℕ) → Option Remarked
only_excluded leading after = if has_territories leading && are_excluded leading false after then Some OnlyExcluded else None
