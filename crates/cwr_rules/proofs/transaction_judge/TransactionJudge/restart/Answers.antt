use Rattle.std.proofs.Common.{[], refl, rules}
use Rattle.cwr_rules.proofs.transaction_judge.TransactionJudge.restart.Goals as goal

pub returns : goal.returns
returns g c = record {
  head = c.args.head.now;
  details = [];
  lines_are = refl;
  clean = c.requires.clean;
  header_is = c.read.ensures.value;
  nine_digits = c.read.ensures.nine_digits;
  so_far = search rules;
}
