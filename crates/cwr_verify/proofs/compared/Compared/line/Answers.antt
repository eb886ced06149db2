use Rattle.std.proofs.Common.{◌≡◌, ℕ, ◌+◌, List, arith, rules, subst, take}
use Rattle.std.specs.Prelude.{◌==◌, count_by}
use Rattle.std.proofs.lemmas.List.Sums.{count_by-le-length}
use Rattle.cwr_verify.proofs.Comparing.{unlike_at}
use Rattle.cwr_verify.specs.Compared.{Compared, IsComparing}
use Rattle.cwr_verify.proofs.compared.Compared.line.Goals as goal

pub returns : goal.returns
returns c = λ text unlike.
    let front : List ℕ = take c.self.inside.same c.self.inside.expected.now in
    let ends : c.count-ends.result ≡ count_by (λ byte. byte == 10) front = search rules in
    let counted : c.saturating_add.result ≡ count_by (λ byte. byte == 10) front + 1 =
    omega (arith, c.saturating_add.ensures, ends, c.iter.ensures.bound, count_by-le-length (λ (byte : ℕ). byte == 10) front) in
    unlike_at c.args.self.now text c.saturating_add.result (subst IsComparing c.self.view_is c.self.invariant)
    (subst (λ (s : Compared). c.saturating_add.result ≡ count_by (λ byte. byte == 10) (take s.same s.expected) + 1) c.self.view_is counted) unlike
