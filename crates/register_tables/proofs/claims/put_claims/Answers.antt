use Rattle.std.proofs.Common.{◌+◌, ℕ, Bool, List, Option, arith, drop, filter, get_or, if◌then◌else◌, sym, subst}
use Rattle.std.specs.List.{flat_map}
use Rattle.csv.specs.Writing.{text_written}
use Rattle.work_registry.specs.Rows.{rows_of}
use Rattle.work_registry.specs.EntryValue.{EntryValue}
use Rattle.register_tables.specs.ClaimsTable.{claim_line, is_listed}
use Rattle.register_tables.specs.Summary.{count}
use Rattle.register_tables.proofs.Steps.{IsPart, begun, gone_on, next_piece}
use Rattle.register_tables.proofs.RowCounts.{next_count, counted_on, few_more, within}
use Rattle.register_tables.proofs.claims.put_claims.Goals as goal

pub loop-entry-init : goal.loop-entry-init
loop-entry-init g c = record {
  ready = c.requires;
  text = begun _ _;
  rows = omega arith;
  few = omega arith;
}

pub overflow_add-rows : goal.overflow_add-rows
overflow_add-rows g c = let most = within (is_listed c.args.wanted.now (rows_of c.args.book.now.history) c.entry-item.result) _ _ _ c.loop-entry.invariant.few c.in_ok-rows.ensures.rows c.loop-entry-test.true in omega (arith, most)

pub loop-entry-preserved : goal.loop-entry-preserved
loop-entry-preserved g c =
    let entries : List EntryValue = c.history-entries.result.now in
    let i : ℕ = c.loop-entry.entry-index in
    let listed : EntryValue → Bool = is_listed c.args.wanted.now (rows_of c.args.book.now.history) in
    let start : Option (List ℕ) = text_written g.W.Write.contents c.args.out.now in
    let before : Option (List ℕ) = text_written g.W.Write.contents c.loop-entry.out in
    let after : Option (List ℕ) = text_written g.W.Write.contents c.put_listed.new.out in
    let left : List ℕ = flat_map (claim_line c.args.form) (filter listed (drop (i + 1) entries)) in
    let total : List ℕ = flat_map (claim_line c.args.form) (filter listed entries) in
    record {
      ready = c.in_ok-rows.ensures.ready;
      text = gone_on start before after _ left total
          (subst (λ (text : List ℕ). IsPart start before text total) (next_piece listed (claim_line c.args.form) entries i c.entry-item.result c.loop-entry-test.true) c.loop-entry.invariant.text)
          (rw (sym c.entry-item.is) c.in_ok-rows.ensures.text);
      rows = counted_on c.loop-entry.rows (if listed (get_or entries i c.entry-item.result) then 1 else 0) (count listed (drop i entries)) (count listed (drop (i + 1) entries)) (count listed entries)
          c.loop-entry.invariant.rows (next_count listed entries i c.entry-item.result c.loop-entry-test.true) (rw (sym c.entry-item.is) c.in_ok-rows.ensures.rows);
      few = few_more (listed c.entry-item.result) c.loop-entry.rows i c.loop-entry.invariant.few c.in_ok-rows.ensures.rows;
    }
