use Rattle.std.proofs.Common.{ℕ, List, Option, sym, ap, ◌∙◌}
use Rattle.std.specs.Prelude.{not}
use Rattle.cwr_rules.specs.Rules.{is_unknown}
use Rattle.cwr_rules.specs.Parties.{kept_in}
use Rattle.cwr_rules.proofs.parties.Parties.is_unknown.Goals as goal

pub returns-in-Some : goal.returns-in-Some
returns-in-Some g c = λ parties holds.
    ap not (c.has.ensures ∙ ap (λ (k : ℕ × ℕ). kept_in c.args.self.now.first c.args.self.now.set k) c.key_of.ensures.value ∙ holds c.in-Some.party c.key_of.ensures.number) ∙ ap (λ (p : Option (List ℕ)). is_unknown parties p) (sym c.in-Some.is)

pub returns-in-None : goal.returns-in-None
returns-in-None g c = λ parties holds. ap (λ (p : Option (List ℕ)). is_unknown parties p) (sym c.in-None.is)
