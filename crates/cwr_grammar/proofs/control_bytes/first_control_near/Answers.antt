use Rattle.std.proofs.Common.{refl}
use Rattle.cwr_grammar.proofs.Controls.{stops_at}
use Rattle.cwr_grammar.proofs.control_bytes.first_control_near.Goals as goal

pub returns-then-is_free_before : goal.returns-then-is_free_before
returns-then-is_free_before c = stops_at c.args.text.now c.args.guess c.if-guess-text.true c.if-text-guess-lt-MIN_PRINTABLE.true (c.if-is_free_before.ensures.none refl)
