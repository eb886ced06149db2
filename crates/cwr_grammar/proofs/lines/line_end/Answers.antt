use Rattle.std.proofs.Common.{arith, rules}
use Rattle.cwr_grammar.proofs.Controls.{clean_newline, clean_return}
use Rattle.cwr_grammar.proofs.lines.line_end.Goals as goal

pub returns-then-text-end-eq10-clause-line : goal.returns-then-text-end-eq10-clause-line
returns-then-text-end-eq10-clause-line c = (clean_newline c.args.text.now c.args.end c.requires (omega arith) (search rules)).split

pub returns-then-text-end-eq10-clause-whole : goal.returns-then-text-end-eq10-clause-whole
returns-then-text-end-eq10-clause-whole c = (clean_newline c.args.text.now c.args.end c.requires (omega arith) (search rules)).whole

pub returns-then-text-end-eq10-clause-clean : goal.returns-then-text-end-eq10-clause-clean
returns-then-text-end-eq10-clause-clean c = (clean_newline c.args.text.now c.args.end c.requires (omega arith) (search rules)).clean

pub returns-then-text-end-eq10-2-clause-line : goal.returns-then-text-end-eq10-2-clause-line
returns-then-text-end-eq10-2-clause-line c = (clean_return c.args.text.now c.args.end c.requires (omega arith) (search rules) (search rules)).split

pub returns-then-text-end-eq10-2-clause-whole : goal.returns-then-text-end-eq10-2-clause-whole
returns-then-text-end-eq10-2-clause-whole c = (clean_return c.args.text.now c.args.end c.requires (omega arith) (search rules) (search rules)).whole

pub returns-then-text-end-eq10-2-clause-clean : goal.returns-then-text-end-eq10-2-clause-clean
returns-then-text-end-eq10-2-clause-clean c = (clean_return c.args.text.now c.args.end c.requires (omega arith) (search rules) (search rules)).clean
