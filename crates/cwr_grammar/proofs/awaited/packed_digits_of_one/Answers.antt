use Rattle.std.proofs.Common.{refl}
use Rattle.cwr_grammar.specs.Awaited.{packed_digits_of}
use Rattle.cwr_grammar.proofs.awaited.packed_digits_of_one.Goals as goal

pub returns : goal.returns
unfolding packed_digits_of
returns c = refl
