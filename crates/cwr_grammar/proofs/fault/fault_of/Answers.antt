use Rattle.std.proofs.Common.{map}
use Rattle.cwr_grammar.specs.Roles.{role_of}
use Rattle.cwr_grammar.proofs.ReadSteps.{grammar_fault, long_fault, no_fault, long_is, short_is}
use Rattle.cwr_grammar.proofs.fault.fault_of.Goals as goal

pub returns-then-line-gt-LONGEST_LINE : goal.returns-then-line-gt-LONGEST_LINE
returns-then-line-gt-LONGEST_LINE c = λ before e.
    long_fault before c.args.line.now c.args.role.now c.args.counts.now e c.requires.goes c.requires.role (c.if-is_headless.ensures (map role_of before) e) (c.if-holds_control.ensures) (c.in_default.ensures (map role_of before) e) (long_is c.args.line.now c.if-line-gt-LONGEST_LINE.true)

pub returns-else-line-gt-LONGEST_LINE : goal.returns-else-line-gt-LONGEST_LINE
returns-else-line-gt-LONGEST_LINE c = λ before e.
    no_fault before c.args.line.now c.args.role.now c.args.counts.now e c.requires.goes c.requires.role (c.if-is_headless.ensures (map role_of before) e) (c.if-holds_control.ensures) (c.in_default.ensures (map role_of before) e) (short_is c.args.line.now c.if-line-gt-LONGEST_LINE.false)

pub returns-in-Some : goal.returns-in-Some
returns-in-Some c = λ before e.
    grammar_fault before c.args.line.now c.args.role.now c.args.counts.now c.in-Some.number e c.requires.goes c.requires.role (c.if-is_headless.ensures (map role_of before) e) (c.if-holds_control.ensures) (c.in-Some.ensures (map role_of before) e)
