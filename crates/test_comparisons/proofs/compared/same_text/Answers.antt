use Rattle.std.proofs.Common.{rules}
use Rattle.test_comparisons.proofs.compared.same_text.Goals as goal

pub returns : goal.returns
returns c = search rules
