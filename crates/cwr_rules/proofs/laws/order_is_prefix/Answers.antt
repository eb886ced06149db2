use Rattle.std.proofs.Common.{◌≡◌, Option, Some, None, IsSome, refl}
use Rattle.cwr_rules.specs.declared.last_block.LastBlock.{LastBlock}
use Rattle.cwr_rules.specs.LastBlock.{last_block}
use Rattle.cwr_rules.proofs.OrderLaw.{prefix_from_place, place_from_prefix}
use Rattle.cwr_rules.proofs.laws.order_is_prefix.Goals as goal

there : (o : Option LastBlock) → IsSome o → (p : LastBlock) × (o ≡ Some p)
there (Some p) h = (p, refl)
there None h = absurd cc

is_some_from : (o : Option LastBlock) (p : LastBlock) → o ≡ Some p → IsSome o
is_some_from (Some q) p e = refl
is_some_from None p e = absurd cc

pub returns : goal.returns
returns c = λ before. (
  λ h. let p = there (last_block before) h in prefix_from_place before p.0 p.1,
  λ h. let p = place_from_prefix before h in is_some_from (last_block before) p.0 p.1,
)
