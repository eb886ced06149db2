use Rattle.std.proofs.Common.{◌∙◌, is_eq}
use Rattle.cwr_rules.specs.Parties.{key_cmp}
use Rattle.cwr_rules.proofs.PartyKeys.{same_key}
use Rattle.cwr_rules.proofs.parties.is_same_party.Goals as goal

pub returns : goal.returns
returns c =
    c.is_same.ensures
    ∙ (λ i. is_eq (key_cmp (c.key_of-key.ensures.value i) (c.key_of.ensures.value i)))
    ∙ same_key c.args.one c.args.other c.key_of-key.ensures.number c.key_of.ensures.number
