use Rattle.std.proofs.Common.{refl}
use Rattle.cwr_field.proofs.lemmas.DigitPairs.{table_pair}
use Rattle.cwr_field.proofs.number.pair_of.Goals as goal

pub returns : goal.returns
returns c = let p = table_pair c.args.number c.requires in rw (p.tens, p.ones) refl
