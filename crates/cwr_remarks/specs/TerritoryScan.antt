-- What one line after a record says about the record's territories.
use Rattle.std.specs.Prelude.{ℕ, Bool, List}
use Rattle.cwr_record.specs.declared.record_type.RecordType.{RecordType}
use Rattle.cwr_remarks.specs.Territories.{are_excluded}
use Rattle.cwr_remarks.specs.declared.territories.TerritoryScan.{TerritoryScan}
use Rattle.cwr_remarks.specs.declared.territories.TerritoryScan.TheVariants.{All, SoFar}

-- with the lines after it: all of the territories are exclusions, and there is at least one
abbrev pub scanned_with : RecordType → List (List ℕ) → TerritoryScan → Bool
scanned_with leading after (All excluded) = excluded
scanned_with leading after (SoFar some) = are_excluded leading some after
