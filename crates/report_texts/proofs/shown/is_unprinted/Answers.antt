use Rattle.std.proofs.Common.{le-ltb}
use Rattle.report_texts.proofs.shown.is_unprinted.Goals as goal

pub returns-else-byte-lt-MIN_PRINTABLE : goal.returns-else-byte-lt-MIN_PRINTABLE
returns-else-byte-lt-MIN_PRINTABLE c = rw (le-ltb c.args.byte 32 c.if-byte-lt-MIN_PRINTABLE.false)
