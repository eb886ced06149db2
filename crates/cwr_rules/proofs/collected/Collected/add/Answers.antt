use Rattle.std.proofs.Common.{refl, ap}
use Rattle.cwr_rules.specs.Totals.{shares_of}
use Rattle.cwr_rules.proofs.collected.Collected.add.Goals as goal

pub returns-in_ok-include_in-in-Spt : goal.returns-in_ok-include_in-in-Spt
returns-in_ok-include_in-in-Spt g c = λ rest so_far. c.in_ok-include_in-in-Spt.ensures rest c.args.detail.now (rw c.in-Spt.is refl) (ap shares_of c.in-Spt.is) so_far

pub returns-in_ok-include_in-in-Swt : goal.returns-in_ok-include_in-in-Swt
returns-in_ok-include_in-in-Swt g c = λ rest so_far. c.in_ok-include_in-in-Swt.ensures rest c.args.detail.now (rw c.in-Swt.is refl) (ap shares_of c.in-Swt.is) so_far
