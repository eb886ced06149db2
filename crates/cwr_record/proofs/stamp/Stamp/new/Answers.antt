use Rattle.std.proofs.Common.{rules, arith}
use Rattle.cwr_field.proofs.lemmas.Printable.{printable-padded}
use Rattle.cwr_record.proofs.stamp.Stamp.new.Goals as goal

pub invariant_of-result : goal.invariant_of-result
invariant_of-result c =
    (omega arith, rw c.filled-name.ensures (printable-padded 45 c.args.name.now (search rules)))
