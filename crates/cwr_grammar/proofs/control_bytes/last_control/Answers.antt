use Rattle.std.proofs.Common.{◌-◌, length, arith}
use Rattle.cwr_grammar.proofs.Controls.{last_is}
use Rattle.cwr_grammar.proofs.control_bytes.last_control.Goals as goal

pub returns : goal.returns
returns c = last_is c.args.text.now (length c.args.text.now - 64) c.before_control.result (omega (arith, c.requires.long)) c.before_control.ensures c.requires.before
