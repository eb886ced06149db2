use Rattle.std.proofs.Common.{◌≡◌, ◌-◌, ◌+◌, ◌≤◌, ℕ, List, length, drop}
use Rattle.cwr_grammar.specs.ReadUpTo.{IsReadUpTo}
use Rattle.cwr_grammar.proofs.file_reader.FileReader.finish.Given as goal

-- the lines so far are read of any text that ends with the bytes
abbrev pub invariant-loop-line : goal.invariant-loop-line
invariant-loop-line g l = record {
  inside : l.at ≤ length l.last;
  read : (first : g.row.V.Denot) (text : List ℕ) (at : ℕ) → drop at text ≡ l.last → IsReadUpTo (g.V.Visitor.keeps first l.fn.visitor) l.fn.self text at
      → IsReadUpTo (g.V.Visitor.keeps first l.visitor) l.self text (at + l.at);
}

abbrev pub decreases-loop-line : goal.decreases-loop-line
decreases-loop-line g l = length l.last - l.at
