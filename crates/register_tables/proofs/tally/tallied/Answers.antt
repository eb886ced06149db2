use Rattle.std.proofs.Common.{◌≡◌, ◌∙◌, ℕ, ap, refl}
use Rattle.register_tables.specs.declared.tally.Tally.{Tally}
use Rattle.register_tables.specs.Counting.{counted}
use Rattle.register_tables.proofs.tally.tallied.Goals as goal

abbrev counts : ℕ → ℕ → ℕ → ℕ → ℕ → Tally
counts a d c r n = record { accepted = a; duplicates = d; conflicts = c; rejected = r; current = n }

-- of equal counts the tallies are the same
same_counts : (a a' d d' c c' r r' n n' : ℕ) → a ≡ a' → d ≡ d' → c ≡ c' → r ≡ r' → n ≡ n' → counts a d c r n ≡ counts a' d' c' r' n'
same_counts a a' d d' c c' r r' n n' ea ed ec er en = rw (ea, ed, ec, er, en) refl

pub returns : goal.returns
returns c =
    same_counts c.counted.result _ c.counted-2.result _ c.counted-3.result _ c.counted-4.result _ c.counted-5.result _
    (c.counted.ensures ∙ ap (counted c.args.tally.accepted) c.fits_status.ensures)
    (c.counted-2.ensures ∙ ap (counted c.args.tally.duplicates) c.fits_status-2.ensures)
    (c.counted-3.ensures ∙ ap (counted c.args.tally.conflicts) c.fits_status-3.ensures)
    (c.counted-4.ensures ∙ ap (counted c.args.tally.rejected) c.fits_status-4.ensures)
    c.counted-5.ensures
