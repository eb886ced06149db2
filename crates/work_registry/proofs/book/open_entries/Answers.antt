use Rattle.std.proofs.Common.{arith, ◌≡◌, ◌<◌, ◌+◌, ◌++◌, ℕ, List, length, map, take, drop, ap, sym, get_or, set, ◌∙◌, ◌≤◌, refl, append-nil}
use Rattle.std.proofs.lemmas.List.{take_all, drop_all}
use Rattle.std.proofs.lemmas.List.Edits.{map_over_more}
use Rattle.work_registry.specs.EntryValue.{EntryValue}
use Rattle.work_registry.specs.Register.{opened}
use Rattle.work_registry.proofs.book.open_entries.Goals as goal

-- the entry that is written is seen as y, and was read as x
over_more : (xs ys : List EntryValue) (i : ℕ) (x y : EntryValue) → y ≡ x → i < length xs → ys ≡ map opened (take i xs) ++ drop i xs → x ≡ get_or ys i x
    → set ys i (opened y) ≡ map opened (take (i + 1) xs) ++ drop (i + 1) xs
over_more xs ys i x y same lt so_far read = ap (λ (e : EntryValue). set ys i (opened e)) same ∙ map_over_more opened xs ys i x lt so_far read

-- at the end all are seen
over_all : (xs ys : List EntryValue) (i : ℕ) → length xs ≤ i → ys ≡ map opened (take i xs) ++ drop i xs → ys ≡ map opened xs
over_all xs ys i le so_far =
    so_far ∙ ap (λ (zs : List EntryValue). map opened (take i xs) ++ zs) (drop_all i xs le) ∙ append-nil (map opened (take i xs)) ∙ ap (λ (zs : List EntryValue). map opened zs) (take_all i xs le)

pub loop-entry-preserved : goal.loop-entry-preserved
loop-entry-preserved g c =
    let lt : c.loop-entry.entry-index < length c.args.history.now = omega (arith, c.loop-entry-test.true, c.loop-entry.auto.entry-index-end) in
    over_more c.args.history.now c.loop-entry.history c.loop-entry.entry-index c.entry-item.result _ (c.entry.view_is ∙ sym c.entry-item.is) lt c.loop-entry.invariant c.entry-item.is

pub loop-entry-init : goal.loop-entry-init
loop-entry-init g c = refl

pub returns : goal.returns
returns g c = over_all c.args.history.now c.loop-entry.history c.loop-entry.entry-index (omega (arith, c.loop-entry-test.false, c.loop-entry.auto.entry-index-end)) c.loop-entry.invariant
