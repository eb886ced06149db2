use Rattle.std.proofs.Common.{◌≡◌, ◌∙◌, ◌<◌, ◌≤◌, ◌&&◌, ℕ, Bool, ap, arith, nat_lt, refl}
use Rattle.std.proofs.lemmas.Bool.Decides.{nat_tests}
use Rattle.register_tables.specs.declared.shares.Bands.{Bands}
use Rattle.register_tables.specs.Counting.{counted}
use Rattle.register_tables.specs.Summary.{is_half, is_more, is_quarter}
use Rattle.register_tables.proofs.shares.banded.Goals.{then-left-gt0, else-left-gt0, then-left-gt2500, else-left-gt2500, then-left-gt5000, else-left-gt5000}
use Rattle.register_tables.proofs.shares.banded.Goals as goal

-- above a bound the second test decides
above : (a b : ℕ) (r s : Bool) → a < b → r ≡ s → r ≡ (nat_lt a b && s)
above a b r s lt is = grind (arith, nat_tests)

-- up to the bound the tests fail
below : (a b : ℕ) (r s : Bool) → b ≤ a → r ≡ nat_lt a b → r ≡ (nat_lt a b && s)
below a b r s le is = grind (arith, nat_tests)

abbrev bands : ℕ → ℕ → ℕ → ℕ → ℕ → Bands
bands n q h m a = record { none = n; quarter = q; half = h; more = m; all = a }

-- of equal counts the bands are the same
same_bands : (n n' q q' h h' m m' a a' : ℕ) → n ≡ n' → q ≡ q' → h ≡ h' → m ≡ m' → a ≡ a' → bands n q h m a ≡ bands n' q' h' m' a'
same_bands n n' q q' h h' m m' a a' en eq eh em ea = rw (en, eq, eh, em, ea) refl

pub returns : goal.returns
returns c =
    let left : ℕ = c.args.left in
    let quarter : c.if-left-gt0.counted ≡ is_quarter left =
    elim c.if-left-gt0.branch [
      | then-left-gt0 w ↦ above 0 left _ _ w.if-left-gt0.true w.counted-is
      | else-left-gt0 w ↦ below 0 left _ _ w.if-left-gt0.false w.counted-is
    ] in
    let half : c.if-left-gt2500.counted ≡ is_half left =
    elim c.if-left-gt2500.branch [
      | then-left-gt2500 w ↦ above 2500 left _ _ w.if-left-gt2500.true w.counted-is
      | else-left-gt2500 w ↦ below 2500 left _ _ w.if-left-gt2500.false w.counted-is
    ] in
    let more : c.if-left-gt5000.counted ≡ is_more left =
    elim c.if-left-gt5000.branch [
      | then-left-gt5000 w ↦ above 5000 left _ _ w.if-left-gt5000.true w.counted-is
      | else-left-gt5000 w ↦ below 5000 left _ _ w.if-left-gt5000.false w.counted-is
    ] in
    same_bands c.counted.result _ c.counted-2.result _ c.counted-3.result _ c.counted-4.result _ c.counted-5.result _
    c.counted.ensures (c.counted-2.ensures ∙ ap (counted c.args.bands.quarter) quarter) (c.counted-3.ensures ∙ ap (counted c.args.bands.half) half)
    (c.counted-4.ensures ∙ ap (counted c.args.bands.more) more) c.counted-5.ensures
