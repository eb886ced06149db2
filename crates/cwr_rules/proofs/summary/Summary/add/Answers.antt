use Rattle.cwr_rules.proofs.summary.Summary.add.Goals as goal

pub returns : goal.returns
returns g c = λ before so_far. record {
  sums_are = c.add.ensures before so_far.sums_are;
  holds = c.in_ok-add_publisher.ensures before so_far.holds;
  collected = c.in_ok-add.ensures before so_far.collected;
}
