use Rattle.std.proofs.Common.{◌≡◌, ◌∙◌, ◌+◌, ◌-◌, ℕ, List, Option, ap, arith, length, filter, if◌then◌else◌, subst, zero-add}
use Rattle.std.specs.List.{flat_map, range_with_len}
use Rattle.csv.specs.Writing.{text_written}
use Rattle.work_registry.specs.EntryValue.{EntryValue}
use Rattle.work_registry.specs.Rows.{rows_of}
use Rattle.register_tables.specs.WorksTable.{is_wanted_work, last_work, work_line, work_lines}
use Rattle.register_tables.specs.WorkTotals.{blank_work}
use Rattle.register_tables.proofs.Steps.{IsPart, begun, gone_on}
use Rattle.register_tables.specs.Summary.{count}
use Rattle.register_tables.proofs.WorkRows.{next_work, next_work_count}
use Rattle.register_tables.proofs.RowCounts.{counted_on, few_more, within}
use Rattle.register_tables.proofs.works.put_works.Goals as goal

pub loop-before-init : goal.loop-before-init
loop-before-init g c =
    let history : List EntryValue = c.args.book.now.history in
    let n : ℕ = length c.args.works.now in
    let start : Option (List ℕ) = text_written g.W.Write.contents c.args.out.now in
    let total : List ℕ = work_lines c.args.form c.args.wanted.now history in
    let whole : n - 0 ≡ n = omega arith in
    let all : last_work (rows_of history) ≡ n - 0 = omega (arith, whole, c.requires.kept.size) in
    record {
      ready = c.requires.ready;
      text = subst (λ (m : ℕ). IsPart start start (flat_map (work_line c.args.form history) (filter (is_wanted_work c.args.wanted.now) (range_with_len 1 m))) total) all (begun start total);
      rows = ap (λ (m : ℕ). 0 + count (is_wanted_work c.args.wanted.now) (range_with_len 1 m)) whole ∙ zero-add (count (is_wanted_work c.args.wanted.now) (range_with_len 1 n));
      few = omega arith;
    }

pub overflow_add-rows : goal.overflow_add-rows
overflow_add-rows g c = let most = within (is_wanted_work c.args.wanted.now (c.loop-before.before + 1)) _ _ _ c.loop-before.invariant.few c.in_ok-rows.ensures.rows c.loop-before-test.true in omega (arith, most)

pub loop-before-preserved : goal.loop-before-preserved
loop-before-preserved g c =
    let history : List EntryValue = c.args.book.now.history in
    let i : ℕ = c.loop-before.before in
    let n : ℕ = length c.args.works.now in
    let start : Option (List ℕ) = text_written g.W.Write.contents c.args.out.now in
    let before : Option (List ℕ) = text_written g.W.Write.contents c.loop-before.out in
    let after : Option (List ℕ) = text_written g.W.Write.contents c.put_wanted.new.out in
    let left : List ℕ = flat_map (work_line c.args.form history) (filter (is_wanted_work c.args.wanted.now) (range_with_len (i + 1 + 1) (n - (i + 1)))) in
    let total : List ℕ = work_lines c.args.form c.args.wanted.now history in
    record {
      ready = c.in_ok-rows.ensures.ready;
      text = gone_on start before after _ left total
          (subst (λ (text : List ℕ). IsPart start before text total) (next_work c.args.form c.args.wanted.now history i n c.loop-before-test.true) c.loop-before.invariant.text)
          (rw (c.requires.kept.each i blank_work c.loop-before-test.true) at c.in_ok-rows.ensures.text);
      rows = counted_on c.loop-before.rows (if is_wanted_work c.args.wanted.now (i + 1) then 1 else 0) (count (is_wanted_work c.args.wanted.now) (range_with_len (i + 1) (n - i))) (count (is_wanted_work c.args.wanted.now) (range_with_len (i + 1 + 1) (n - (i + 1))))
          (count (is_wanted_work c.args.wanted.now) (range_with_len 1 n)) c.loop-before.invariant.rows (next_work_count c.args.wanted.now i n c.loop-before-test.true) c.in_ok-rows.ensures.rows;
      few = few_more (is_wanted_work c.args.wanted.now (i + 1)) c.loop-before.rows i c.loop-before.invariant.few c.in_ok-rows.ensures.rows;
    }
