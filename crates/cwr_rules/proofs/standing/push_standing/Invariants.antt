use Rattle.std.proofs.Common.{◌≡◌, ℕ, ◌++◌, List, drop}
use Rattle.cwr_rules.specs.Parties.{HoldsParties, kept_in}
use Rattle.cwr_rules.specs.TransactionState.{standing}
use Rattle.cwr_rules.proofs.standing.push_standing.Given as goal

abbrev pub invariant-loop-finding : goal.invariant-loop-finding
invariant-loop-finding g l =
    (parties : List (List ℕ)) → HoldsParties (kept_in l.known.first l.known.set) parties
    → l.faults.items ++ standing parties (drop l.finding-index l.findings) ≡ l.fn.faults.items ++ standing parties l.findings
