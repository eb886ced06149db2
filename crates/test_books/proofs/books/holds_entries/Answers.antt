use Rattle.std.proofs.Common.{◌≡◌, ◌+◌, List, length, get_or, rules, arith, sym, ap, ◌∙◌}
use Rattle.std.proofs.lemmas.List.{get_or_read}
use Rattle.work_registry.specs.EntryValue.{EntryValue}
use Rattle.test_books.specs.Calls.{entry_numbered}
use Rattle.test_books.proofs.Numbered.{numbered_more}
use Rattle.test_books.proofs.books.holds_entries.Goals as goal

pub loop-entry-preserved : goal.loop-entry-preserved
loop-entry-preserved g c =
    let told : c.len.result ≡ c.args.count = search (rules, c.same.ensures.0, c.in_ok-same.was) in
    let counted : c.saturating_add-number.result ≡ c.loop-entry.entry-index + 1 = omega (arith, c.saturating_add-number.ensures, c.loop-entry.invariant.counted, c.loop-entry-test.true, told, c.len.ensures.value, ap (λ (h : List EntryValue). length h) c.history-entry-items.ensures.entries) in
    record {
      counted = counted;
      entries =
          numbered_more c.history-entry-items.result.now (entry_numbered c.args.before) c.loop-entry.entry-index c.loop-entry.invariant.entries
          (λ d. sym (get_or_read c.history-entry-items.result.now _ _ c.loop-entry-test.true c.entry-item.is d) ∙ c.in_ok-is_entry.ensures ∙ ap (entry_numbered c.args.before) counted);
    }

pub returns-clause-entries : goal.returns-clause-entries
returns-clause-entries g c = λ k d below.
    let equal : c.loop-entry.number ≡ c.args.count = search rules in
    ap (λ (h : List EntryValue). get_or h k d) (sym c.history-entry-items.ensures.entries) ∙ c.loop-entry.invariant.entries k d (omega (arith, below, equal, c.loop-entry.invariant.counted))
