use Rattle.std.proofs.Common.{◌≡◌, ◌∙◌, ◌+◌, ◌-◌, ◌<◌, ℕ, List, ap, arith, length, subst, map, filter, take}
use Rattle.std.specs.List.{range_with_len}
use Rattle.work_registry.specs.EntryValue.{EntryValue}
use Rattle.work_registry.specs.Rows.{rows_of}
use Rattle.register_tables.specs.declared.conflicts.Conflicted.{Conflicted}
use Rattle.register_tables.specs.Counting.{AreCounted}
use Rattle.register_tables.specs.Summary.{conflicted, conflicts_ahead, has_conflicts, ranked}
use Rattle.register_tables.specs.WorksTable.{last_work}
use Rattle.register_tables.proofs.Counts.{largest_step}
use Rattle.register_tables.proofs.conflicts.largest.Goals as goal

pub loop-before-preserved : goal.loop-before-preserved
loop-before-preserved g c =
    let history : List EntryValue = c.args.book.now.history in
    let i : ℕ = c.loop-before.before in
    let some = c.loop-before-test.true in
    let within = c.loop-before.auto.before in
    let counted : AreCounted c.args.last history c.in_ok-counts.counts.items =
    subst (λ (entries : List EntryValue). AreCounted c.args.last entries c.in_ok-counts.counts.items) c.history.ensures.entries c.in_ok-counts.ensures in
    let size = counted.size in
    let lt : i - 1 < length c.in_ok-counts.counts.items = omega (arith, size, some, within) in
    let one : ℕ → Conflicted = λ n. record { work = i - 1 + 1; conflicts = n } in
    let is : one c.index.result.now ≡ conflicted history (i - 1 + 1) = ap one (c.index.ensures ∙ counted.each (i - 1) c.index.result.now lt) in
    c.in_ok-place_any.ensures ∙ largest_step (conflicted history) i c.args.last (one c.index.result.now) c.loop-before.top.items some within is c.loop-before.invariant

pub returns : goal.returns
returns g c =
    let history : List EntryValue = c.args.book.now.history in
    let end : c.loop-before.before ≡ 0 = omega (arith, c.loop-before-test.false) in
    let top : ℕ → ℕ → List Conflicted = λ i n. take 10 (ranked conflicts_ahead (filter has_conflicts (map (conflicted history) (range_with_len (i + 1) (n - i))))) in
    let all : c.args.last - 0 ≡ last_work (rows_of history) = omega (arith, c.requires) in
    subst (λ (n : ℕ). c.loop-before.top.items ≡ take 10 (ranked conflicts_ahead (filter has_conflicts (map (conflicted history) (range_with_len 1 n))))) all
    (subst (λ (i : ℕ). c.loop-before.top.items ≡ top i c.args.last) end c.loop-before.invariant)
