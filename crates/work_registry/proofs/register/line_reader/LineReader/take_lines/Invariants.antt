use Rattle.std.proofs.Common.{◌≡◌, ◌++◌, List, ℕ, length}
use Rattle.work_registry.specs.RegisterReader.{IsRest}
use Rattle.work_registry.proofs.register.line_reader.LineReader.take_lines.Given as goal

-- the first bytes of the piece were read
abbrev pub invariant-loop-line : goal.invariant-loop-line
invariant-loop-line g l = record {
  front : (front : List ℕ) × (l.chunk ≡ front ++ l.rest);
  limit : l.self.read.limit ≡ l.fn.self.read.limit;
  keeps : l.self.keeps ≡ l.fn.self.keeps;
  read : (text later : List ℕ) → IsRest l.fn.self.read text (l.chunk ++ later) → IsRest l.self.read text (l.rest ++ later);
}

abbrev pub decreases-loop-line : goal.decreases-loop-line
decreases-loop-line g l = length l.rest
