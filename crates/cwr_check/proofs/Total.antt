-- The last line of a check.
use Rattle.std.proofs.Common.{◌≡◌, ℕ, List, ◌++◌}
use Rattle.std.specs.Prelude.{codes}
use Rattle.std.specs.Fmt.{decimal}
use Rattle.cwr_field.proofs.lemmas.Pieces.{then}
use Rattle.cwr_check.specs.CheckText.{total_line}

pub total_written : (all faulty : ℕ) (out a b c d : List ℕ) → a ≡ out ++ decimal all → b ≡ a ++ codes " transactions, "
    → c ≡ b ++ decimal faulty → d ≡ c ++ codes " with faults\n" → d ≡ out ++ total_line all faulty
total_written all faulty out a b c d p q r s =
    let between = codes " transactions, " in
    then out c d (decimal all ++ between ++ decimal faulty) (codes " with faults\n")
    (then out b c (decimal all ++ between) (decimal faulty) (then out a b (decimal all) between p q) r) s
