use Rattle.std.proofs.Common.{◌≡◌, ℕ, Bool, ap, ◌∙◌, is_eq}
use Rattle.std.specs.Prelude.{◌||◌}
use Rattle.cwr_rules.specs.Parties.{key_cmp, key_of}
use Rattle.cwr_rules.proofs.PartyKeys.{same_key}
use Rattle.cwr_rules.proofs.parties.Parties.add.Goals as goal

joined : (a same eq had knew : Bool) → a ≡ (same || had) → same ≡ eq → had ≡ knew → a ≡ (eq || knew)
joined a same eq had knew h e k = h ∙ ap (λ (b : Bool). b || had) e ∙ ap (λ (b : Bool). eq || b) k

pub returns : goal.returns
returns g c = λ parties knows q is.
    joined _ _ _ _ _ (c.in_ok-keep.ensures (key_of q)) (ap (λ (k : ℕ × ℕ). is_eq (key_cmp k (key_of q))) c.key_of.ensures.value ∙ same_key c.args.party q c.key_of.ensures.number is) (knows q is)
