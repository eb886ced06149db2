use Rattle.std.proofs.Common.{refl}
use Rattle.cwr_grammar.proofs.Controls.{none_tells, mask_tells}
use Rattle.cwr_grammar.proofs.control_bytes.before_control.Goals as goal

pub returns-then-not-has_in_block : goal.returns-then-not-has_in_block
returns-then-not-has_in_block c = none_tells c.args.text.now c.args.at c.requires (c.if-not-has_in_block.ensures.none refl)

pub returns : goal.returns
returns c = mask_tells c.args.text.now c.args.at c.requires
