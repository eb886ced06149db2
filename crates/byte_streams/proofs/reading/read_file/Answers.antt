use Rattle.byte_streams.proofs.lemmas.Given.{both}
use Rattle.byte_streams.proofs.reading.read_file.Goals as goal

pub returns-then-is_err-clause-read_on : goal.returns-then-is_err-clause-read_on
returns-then-is_err-clause-read_on g c = (_, both _ _ _ _ _ c.loop-buffer.invariant.read c.in-Ok.ensures.bytes.0)
