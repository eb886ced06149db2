-- How wide bars are.
use Rattle.std.proofs.Common.{◌≡◌, ◌∙◌, ℕ, ◌+◌, ◌-◌, ◌*◌, ◌/◌, ◌<◌, ◌≤◌, Bool, ap, arith, min, ne_eqb, if◌then◌else◌}
use Rattle.std.proofs.Math.Nat.{div-lt_iff_lt-mul}
use Rattle.std.proofs.lemmas.Nat.{le-div}
use Rattle.summary_pages.specs.SummaryPage.{bar_width}

-- the part of the whole, rounded up
part : ℕ → ℕ → ℕ
part n whole = (320 * n + whole - 1) / whole

some : (n whole : ℕ) → 0 < whole → bar_width n whole ≡ min 320 (part n whole)
unfolding bar_width part
some n whole lt = ap (λ (b : Bool). if b then 0 else min 320 ((320 * n + whole - 1) / whole)) (ne_eqb whole 0 (λ e. let zero : whole ≡ 0 = e in omega (arith, lt, zero)))

most : (n whole : ℕ) → 0 < whole → n ≤ whole → part n whole < 321
unfolding part
most n whole lt le = (div-lt_iff_lt-mul lt).1 (omega (arith, lt, le))

pub exact : (n whole : ℕ) → 0 < whole → n ≤ whole → bar_width n whole ≡ (320 * n + whole - 1) / whole
unfolding part
exact n whole lt le = let few = most n whole lt le in some n whole lt ∙ omega (arith, few)

pub seen : (n whole : ℕ) → 0 < n → n ≤ whole → 0 < bar_width n whole
unfolding part
seen n whole lt le =
    let has : 0 < whole = omega (arith, lt, le) in
    let is = some n whole has in
    let one : 1 ≤ part n whole = le-div 1 (320 * n + whole - 1) whole has (omega (arith, lt)) in
    omega (arith, is, one)

pub full : (whole : ℕ) → 0 < whole → bar_width whole whole ≡ 320
unfolding part
full whole lt =
    let is = some whole whole lt in
    let all : 320 ≤ part whole whole = le-div 320 (320 * whole + whole - 1) whole lt (omega (arith, lt)) in
    omega (arith, is, all)
