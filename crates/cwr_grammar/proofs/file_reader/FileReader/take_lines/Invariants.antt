use Rattle.std.proofs.Common.{◌-◌, ◌+◌, ◌≤◌, ℕ, List, length}
use Rattle.cwr_grammar.specs.ReadUpTo.{IsReadUpTo, StandsAt}
use Rattle.cwr_grammar.proofs.file_reader.FileReader.take_lines.Given as goal

-- the lines so far are read of any text that has the bytes
abbrev pub invariant-loop-line : goal.invariant-loop-line
invariant-loop-line g l = record {
  inside : l.at ≤ length l.bytes;
  read : (first : g.row.V.Denot) (text : List ℕ) (at : ℕ) → StandsAt l.bytes text at → IsReadUpTo (g.V.Visitor.keeps first l.fn.visitor) l.fn.self text at
      → IsReadUpTo (g.V.Visitor.keeps first l.visitor) l.self text (at + l.at);
}

abbrev pub decreases-loop-line : goal.decreases-loop-line
decreases-loop-line g l = length l.bytes - l.at
