use Rattle.std.proofs.Common.{◌≡◌, ◌+◌, false, take, drop}
use Rattle.std.specs.List.{flat_map}
use Rattle.cwr_acknowledgement.specs.Acknowledgement.{ended, all_item_lines, reported_fault_count}
use Rattle.cwr_acknowledgement.proofs.Puts.{PutsFront}
use Rattle.cwr_acknowledgement.proofs.acknowledgement.put_items.Given as goal

-- what is put and what is left make the whole
abbrev pub invariant-loop-index : goal.invariant-loop-index
invariant-loop-index g l = record {
  form : l.form ≡ l.fn.form;
  works : g.W.Sink.has_failed l.writer ≡ false;
  put : PutsFront (g.W.Sink.taken l.fn.writer) (g.W.Sink.taken l.writer) l.fn.out l.out (l.index + reported_fault_count (take l.index (g.L.Answers.items l.answers)))
      (flat_map ended (all_item_lines l.fn.form.stamp l.fn.form.header l.index (drop l.index (g.L.Answers.items l.answers))))
      (flat_map ended (all_item_lines l.fn.form.stamp l.fn.form.header 0 (g.L.Answers.items l.answers)));
}
