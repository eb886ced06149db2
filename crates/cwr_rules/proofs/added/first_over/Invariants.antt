use Rattle.std.proofs.Common.{◌≡◌}
use Rattle.std.specs.Prelude.{find, option_map}
use Rattle.cwr_rules.specs.Added.{over_at, first_over}
use Rattle.cwr_rules.specs.Records.{records_of}
use Rattle.cwr_rules.specs.Totals.{collection, is_over, codes_of}
use Rattle.cwr_rules.proofs.added.first_over.Given as goal

-- none of the records that were passed has such a territory
abbrev pub invariant-loop-line : goal.invariant-loop-line
invariant-loop-line g l =
    option_map (over_at (records_of l.fn.lines)) (find (λ code. is_over (collection code (records_of l.fn.lines))) (codes_of (records_of l.line-iterator)))
    ≡ first_over (records_of l.fn.lines)
