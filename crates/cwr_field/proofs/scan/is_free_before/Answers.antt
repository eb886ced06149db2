use Rattle.std.proofs.Common.{refl, arith}
use Rattle.cwr_field.specs.Scan.{is_sought}
use Rattle.cwr_field.proofs.lemmas.ManyBytes.{none_to}
use Rattle.cwr_field.proofs.scan.is_free_before.Goals as goal

pub loop-at-preserved : goal.loop-at-preserved
loop-at-preserved c = (omega arith, none_to (is_sought c.args.sought) c.args.bytes.now c.loop-at.at c.loop-at.at _ (omega arith) c.loop-at.invariant.1 (c.if-has_in_block.ensures.none refl))
