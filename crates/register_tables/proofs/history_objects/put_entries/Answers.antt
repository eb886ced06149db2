use Rattle.std.proofs.Common.{◌+◌, ℕ, List, Option, arith, drop, get_or, if◌then◌else◌, sym, subst}
use Rattle.work_registry.specs.EntryValue.{EntryValue}
use Rattle.register_tables.specs.HistoryJson.{entry_json}
use Rattle.register_tables.specs.HistoryTable.{entry_rows}
use Rattle.register_tables.specs.Summary.{count}
use Rattle.register_tables.specs.Wanted.{is_wanted}
use Rattle.register_tables.proofs.Steps.{IsPart, begun, gone_on}
use Rattle.register_tables.proofs.Entries.{next_entry}
use Rattle.register_tables.proofs.RowCounts.{next_count, counted_on, few_more, within}
use Rattle.register_tables.proofs.history_objects.put_entries.Goals as goal

pub loop-before-init : goal.loop-before-init
loop-before-init g c = record {
  text = begun _ _;
  rows = omega arith;
  few = omega arith;
}

pub overflow_add-rows : goal.overflow_add-rows
overflow_add-rows g c = let most = within (is_wanted c.args.wanted.now c.index-entries-before.result) _ _ _ c.loop-before.invariant.few c.in_ok-rows.ensures.rows c.loop-before-test.true in omega (arith, most)

pub loop-before-preserved : goal.loop-before-preserved
loop-before-preserved g c =
    let entries : List EntryValue = c.args.entries.now in
    let i : ℕ = c.loop-before.before in
    let start : Option (List ℕ) = g.W.Write.contents c.args.out.now in
    let before : Option (List ℕ) = g.W.Write.contents c.loop-before.out in
    let after : Option (List ℕ) = g.W.Write.contents c.put_wanted.new.out in
    let left : List ℕ = entry_rows entry_json c.args.wanted.now (i + 1 + 1) (drop (i + 1) entries) in
    let total : List ℕ = entry_rows entry_json c.args.wanted.now 1 entries in
    record {
      text = gone_on start before after _ left total
          (subst (λ (text : List ℕ). IsPart start before text total) (next_entry entry_json c.args.wanted.now entries i c.index-entries-before.result c.loop-before-test.true) c.loop-before.invariant.text)
          (rw (sym c.index-entries-before.is) c.in_ok-rows.ensures.text);
      rows = counted_on c.loop-before.rows (if is_wanted c.args.wanted.now (get_or entries i c.index-entries-before.result) then 1 else 0) (count (is_wanted c.args.wanted.now) (drop i entries)) (count (is_wanted c.args.wanted.now) (drop (i + 1) entries))
          (count (is_wanted c.args.wanted.now) entries) c.loop-before.invariant.rows (next_count (is_wanted c.args.wanted.now) entries i c.index-entries-before.result c.loop-before-test.true)
          (rw (sym c.index-entries-before.is) c.in_ok-rows.ensures.rows);
      few = few_more (is_wanted c.args.wanted.now c.index-entries-before.result) c.loop-before.rows i c.loop-before.invariant.few c.in_ok-rows.ensures.rows;
    }
