use Rattle.std.proofs.Common.{◌≡◌, ◌∷◌, true, Option, Some, None, refl, is_some, is_none}
use Rattle.std.specs.Prelude.{◌&&◌}
use Rattle.cwr_rules.specs.declared.last_block.LastBlock.{LastBlock}
use Rattle.cwr_rules.specs.LastBlock.{last_block}
use Rattle.cwr_rules.proofs.OrderLaw.{prefix_from_place, place_from_prefix}
use Rattle.cwr_rules.proofs.laws.order_breaks_once.Goals as goal

cases : (a b : Option LastBlock) → (is_some a && is_none b) ≡ true → (p : LastBlock) × (a ≡ Some p) × (b ≡ None)
cases (Some p) None e = (p, refl, refl)
cases (Some p) (Some q) e = absurd cc
cases None b e = absurd cc

joined : (a b : Option LastBlock) (p : LastBlock) → a ≡ Some p → ((q : LastBlock) → b ≡ Some q → ⊥) → (is_some a && is_none b) ≡ true
joined (Some p') None p e h = refl
joined (Some p') (Some q) p e h = absurd (h q refl)
joined None b p e h = absurd cc

never : (b : Option LastBlock) (q : LastBlock) → b ≡ None → b ≡ Some q → ⊥
never None q e h = absurd cc
never (Some r) q e h = absurd cc

pub returns : goal.returns
returns c = λ before r. (
  λ h.
      let k = cases (last_block before) (last_block (r ∷ before)) h in
      (prefix_from_place before k.0 k.1, λ p. let q = place_from_prefix (r ∷ before) p in never (last_block (r ∷ before)) q.0 k.2 q.1),
  λ h.
      let p = place_from_prefix before h.0 in
      joined (last_block before) (last_block (r ∷ before)) p.0 p.1 (λ q e. h.1 (prefix_from_place (r ∷ before) q e)),
)
