use Rattle.std.proofs.Common.{◌∙◌, Bool, ap}
use Rattle.std.specs.Prelude.{◌||◌}
use Rattle.cwr_rules.specs.Collected.{found_in, kept_at}
use Rattle.cwr_rules.specs.Totals.{is_over}
use Rattle.cwr_rules.proofs.Collecting.{collect_more}
use Rattle.cwr_rules.proofs.collected.Collected.include.Goals as goal

pub returns : goal.returns
returns g c = λ rest r is shares so_far.
    let before = c.args.self.now in
    let after = c.add_at.new.self in
    let totals = c.in_ok-totals.totals in
    let over = c.is_over_or-self.ensures ∙ ap (λ (b : Bool). is_over totals || b) c.in_ok-totals.ensures.same in
    collect_more (found_in before.first (kept_at before.others)) (found_in after.first (kept_at after.others)) before.is_over c.is_over_or-self.result rest r c.args.code totals c.args.shares is shares
    c.in_ok-totals.ensures.totals c.in_ok-totals.ensures.found over so_far
