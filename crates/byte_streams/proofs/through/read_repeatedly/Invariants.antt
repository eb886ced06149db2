use Rattle.std.specs.Io.KnownBytes.{Keeps}
use Rattle.byte_streams.proofs.through.read_repeatedly.Given as goal

-- the calls so far were interrupted, and took no known byte
abbrev pub invariant-loop : goal.invariant-loop
invariant-loop g l = Keeps (g.T.Read.remaining l.fn.reader) (g.T.Read.remaining l.reader)
