-- Findings that are counted by rule.
use Rattle.std.proofs.Common.{◌≡◌, ◌∙◌, ℕ, ◌+◌, ◌<◌, ◌≤◌, ◌^◌, ◌-◌, Bool, true, false, cond, List, ◌∷◌, length, drop, get_or, set, count_by, refl, sym, ap, arith, eqb-true, []}
use Rattle.std.specs.Prelude.{◌==◌}
use Rattle.std.proofs.lemmas.Bool.{eqb-false}
use Rattle.std.proofs.lemmas.List.{drop_all, drop_more, get_or-set_same, get_or-set_other, length-set}
use Rattle.std.proofs.lemmas.List.Sums.{count_by-le-length, sum_by-append}
use Rattle.cwr_report.specs.declared.finding.Finding.{Finding}
use Rattle.check_pages.specs.Sections.{is_of}
use Rattle.check_pages.specs.Tallies.{IsTally}

-- one of a rule is counted
step : (counts : List ℕ) (m n : ℕ) (b : Bool) → (m == n) ≡ b → m < length counts → get_or (set counts m (get_or counts m 0 + 1)) n 0 ≡ get_or counts n 0 + cond b 1 0
step counts m n true is lt =
    let same : m ≡ n = eqb-true m n is in
    ap (λ (k : ℕ). get_or (set counts m (get_or counts m 0 + 1)) k 0) (sym same)
    ∙ get_or-set_same counts m (get_or counts m 0 + 1) 0 lt
    ∙ ap (λ (k : ℕ). get_or counts k 0 + 1) same
step counts m n false is lt =
    let same : get_or counts n 0 ≡ get_or counts n 0 + 0 = omega arith in
    get_or-set_other counts m n (get_or counts m 0 + 1) 0 (λ e. eqb-false m n is (sym e)) ∙ same

-- one finding more
more : (n : ℕ) (f : Finding) (fs : List Finding) (b : Bool) → (f.fault.number == n) ≡ b → count_by (is_of n) (f ∷ fs) ≡ cond b 1 0 + count_by (is_of n) fs
more n f fs b is =
    let zero_more : 0 + cond b 1 0 ≡ cond b 1 0 = omega arith in
    sum_by-append (λ x. cond (is_of n x) 1 0) (f ∷ []) fs ∙ ap (λ (c : Bool). 0 + cond c 1 0 + count_by (is_of n) fs) is ∙ ap (λ (k : ℕ). k + count_by (is_of n) fs) zero_more

-- the next finding is counted, and those behind it are left
pub counted_on : (counts new : List ℕ) (fs : List Finding) (i m n total : ℕ) (d : Finding) → i < length fs → m ≡ (get_or fs i d).fault.number → m < length counts → new ≡ set counts m (get_or counts m 0 + 1)
    → get_or counts n 0 + count_by (is_of n) (drop i fs) ≡ total → get_or new n 0 + count_by (is_of n) (drop (i + 1) fs) ≡ total
counted_on counts new fs i m n total d lt number within is so_far =
    let f = get_or fs i d in
    let left = count_by (is_of n) (drop (i + 1) fs) in
    let one = cond (m == n) 1 0 in
    let first : get_or new n 0 ≡ get_or counts n 0 + one = ap (λ (l : List ℕ). get_or l n 0) is ∙ step counts m n (m == n) refl within in
    let second : count_by (is_of n) (drop i fs) ≡ one + left = ap (λ l. count_by (is_of n) l) (drop_more fs i d lt) ∙ more n f (drop (i + 1) fs) (m == n) (ap (λ (k : ℕ). k == n) (sym number)) in
    omega (arith, first, second, so_far)

-- so few are counted that one more can be
pub few : (counts : List ℕ) (fs : List Finding) (i m : ℕ) → m < 256 → length fs < 2 ^ 64 - 1
    → ((n : ℕ) → n < 256 → get_or counts n 0 + count_by (is_of n) (drop i fs) ≡ count_by (is_of n) fs) → get_or counts m 0 < 2 ^ 64 - 1
few counts fs i m small short each = omega (arith, each m small, count_by-le-length (is_of m) fs)

-- a finding is counted with those before it
pub counted : (counts new : List ℕ) (m : ℕ) (f : Finding) (fs : List Finding) → m ≡ f.fault.number → m < 256 → new ≡ set counts m (get_or counts m 0 + 1) → IsTally counts fs → IsTally new (f ∷ fs)
counted counts new m f fs number small is tally = record {
  size = ap (λ (l : List ℕ). length l) is ∙ length-set counts m (get_or counts m 0 + 1) ∙ tally.size;
  each = λ n lt.
      let first : get_or new n 0 ≡ get_or counts n 0 + cond (m == n) 1 0 = ap (λ (l : List ℕ). get_or l n 0) is ∙ step counts m n (m == n) refl (omega (arith, tally.size)) in
      let second : count_by (is_of n) (f ∷ fs) ≡ cond (m == n) 1 0 + count_by (is_of n) fs = more n f fs (m == n) (ap (λ (k : ℕ). k == n) (sym number)) in
      omega (arith, first, second, tally.each n lt);
}

-- all are counted
pub none_left : (k n : ℕ) (fs : List Finding) (i total : ℕ) → length fs ≤ i → k + count_by (is_of n) (drop i fs) ≡ total → k ≡ total
none_left k n fs i total past all = let none : count_by (is_of n) (drop i fs) ≡ 0 = ap (λ l. count_by (is_of n) l) (drop_all i fs past) in omega (arith, none, all)
