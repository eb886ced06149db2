use Rattle.std.proofs.Common.{eqb, arith}
use Rattle.cwr_field.proofs.lemmas.ManyBytes.{none_left, left_none}
use Rattle.cwr_field.proofs.scan.has_byte_in_run.Goals as goal

pub returns : goal.returns
returns c = record {
  none = none_left eqb c.args.byte 16 c.args.bytes.now c.args.at (omega arith) c.requires;
  only_then = left_none eqb c.args.byte 16 c.args.bytes.now c.args.at (omega arith) c.requires;
}
