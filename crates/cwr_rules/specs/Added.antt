-- The sums of the shares of a transaction.
use Rattle.std.specs.Prelude.{ℕ, List, drop, find, Option, option_map}
use Rattle.cwr_grammar.specs.RawParts.{RawParts}
use Rattle.cwr_rules.specs.declared.record.Record.{Record}
use Rattle.cwr_rules.specs.declared.added.AddedShares.{AddedShares}
use Rattle.cwr_rules.specs.declared.added.Over.{Over}
use Rattle.cwr_rules.specs.Records.{records_of}
use Rattle.cwr_rules.specs.Totals.{collection, ownership, is_over, codes_of}

-- the records behind the header, as the rules read them
abbrev pub details_of : RawParts → List Record
details_of transaction = records_of (drop 1 transaction.lines)

-- the territory with this TIS code, and what is collected there
abbrev pub over_at : List Record → ℕ → Over
over_at records code = record { territory = code; totals = collection code records }

-- the first territory, in the order of the records, whose collection shares are in some right above 100.06 per cent
abbrev pub first_over : List Record → Option Over
first_over records = option_map (over_at records) (find (λ code. is_over (collection code records)) (codes_of records))

-- the ownership totals of a transaction, and the first territory whose collection totals are too large
abbrev pub added_in : RawParts → AddedShares
added_in t = record { ownership = ownership (details_of t); over = first_over (details_of t) }
