use Rattle.std.specs.Io.KnownBytes.{Keeps}
use Rattle.byte_streams.proofs.through.write_repeatedly.Given as goal

-- the calls so far were interrupted, and took no known byte
abbrev pub invariant-loop : goal.invariant-loop
invariant-loop g l = Keeps (g.T.Write.contents l.fn.writer) (g.T.Write.contents l.writer)
