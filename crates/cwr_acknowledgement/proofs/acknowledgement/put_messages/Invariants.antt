use Rattle.std.proofs.Common.{◌≡◌, ◌+◌, false, drop}
use Rattle.std.specs.List.{flat_map}
use Rattle.cwr_acknowledgement.specs.Acknowledgement.{ended, message_lines}
use Rattle.cwr_acknowledgement.proofs.Puts.{PutsFront}
use Rattle.cwr_acknowledgement.proofs.acknowledgement.put_messages.Given as goal

-- what is put and what is left make the whole
abbrev pub invariant-loop-before : goal.invariant-loop-before
invariant-loop-before g l = record {
  form : l.form ≡ l.fn.form;
  works : g.W.Sink.has_failed l.writer ≡ false;
  put : PutsFront (g.W.Sink.taken l.fn.writer) (g.W.Sink.taken l.writer) l.fn.out l.out l.before
      (flat_map ended (message_lines l.index (l.before + 1) (drop l.before l.faults))) (flat_map ended (message_lines l.index 1 l.faults));
}
