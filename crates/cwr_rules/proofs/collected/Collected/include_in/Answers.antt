use Rattle.std.proofs.Common.{◌∙◌, sym}
use Rattle.cwr_rules.proofs.collected.Collected.include_in.Goals as goal

pub returns-in_ok-include-in-Some : goal.returns-in_ok-include-in-Some
returns-in_ok-include-in-Some g c = λ rest r is shares so_far. c.in_ok-include-in-Some.ensures rest r (is ∙ sym c.in-Some.ensures) shares so_far
