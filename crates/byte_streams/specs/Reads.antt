-- The number of reads of a source.
use Rattle.std.specs.Prelude.{ℕ, ◌+◌}
use Rattle.byte_streams.specs.declared.reads.Steps.{Steps, Zero, After'}

-- the number of reads that were made
abbrev pub steps_made : Steps → ℕ
steps_made Zero = 0
steps_made (After' shape before) = steps_made before + 1
