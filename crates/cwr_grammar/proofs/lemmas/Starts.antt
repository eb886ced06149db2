-- A reader has gone past no line of any text yet.
use Rattle.std.proofs.Common.{ℕ, List, [], Option, None, refl, arith}
use Rattle.cwr_record.specs.declared.control.Header.{Header}
use Rattle.cwr_grammar.specs.RawParts.{RawParts}
use Rattle.cwr_grammar.specs.ReadUpTo.{IsReadUpTo, at_start}
use Rattle.cwr_grammar.proofs.Visits.{visiting_begins}

pub starts : (K : Option Header → List RawParts → Option RawParts → Type 0) (text : List ℕ) → K None [] None → IsReadUpTo K at_start text 0
starts K text kept = record {
  goes = λ _. record { before = []; whole = []; current = None; visiting = visiting_begins (K None) text kept; no_tail = refl };
  ended = λ e. absurd cc;
  first = λ _. refl;
  headless = λ _. refl;
  headed = λ some. absurd (omega (arith, some));
}
