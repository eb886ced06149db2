use Rattle.std.proofs.Common.{inr, sym}
use Rattle.std.proofs.Math.Seq.{drop-length}
use Rattle.cwr_grammar.proofs.FirstLine.{lines-ended, lines-unended, lines-take_ended}
use Rattle.cwr_grammar.proofs.lines.other_line.Goals as goal

pub returns-in-Some-clause-line : goal.returns-in-Some-clause-line
returns-in-Some-clause-line c = rw c.without_return.ensures (lines-ended c.args.text.now c.in-Some.end c.in-Some.ensures.value)

pub returns-in-Some-clause-whole : goal.returns-in-Some-clause-whole
returns-in-Some-clause-whole c = inr (λ more. rw c.without_return.ensures (lines-take_ended c.args.text.now c.in-Some.end c.in-Some.ensures.value more))

pub returns-in-Some-clause-ended : goal.returns-in-Some-clause-ended
returns-in-Some-clause-ended c = λ _ more. rw c.without_return.ensures (lines-take_ended c.args.text.now c.in-Some.end c.in-Some.ensures.value more)

pub returns-in-None-clause-line : goal.returns-in-None-clause-line
returns-in-None-clause-line c = rw (drop-length c.args.text.now) (lines-unended c.args.text.now c.requires c.in-None.ensures.value)

pub returns-in-None-clause-unended : goal.returns-in-None-clause-unended
returns-in-None-clause-unended c = λ _. sym c.in-None.ensures.value
