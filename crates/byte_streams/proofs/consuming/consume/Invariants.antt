use Rattle.std.proofs.Common.{◌≡◌, ◌+◌, ◌-◌, ◌≤◌, false, cond}
use Rattle.byte_streams.proofs.Consumed.{IsTaking}
use Rattle.byte_streams.proofs.consuming.consume.Given as goal

-- the bytes that are passed were consumed, those behind them are held
abbrev pub invariant-loop-consumer : goal.invariant-loop-consumer
invariant-loop-consumer g l = record {
  going : g.S.Source.has_failed l.reader ≡ false;
  taking : IsTaking (g.C.Consumer.has_left l.fn.consumer l.consumer) l.window l.limit (g.S.Source.left l.fn.reader) (g.S.Source.left l.reader);
  counted : g.S.Source.reads l.reader ≤ g.S.Source.reads l.fn.reader + l.window.read + 1;
  each : l.window.is_ended ≡ false → g.S.Source.reads l.reader ≤ g.S.Source.reads l.fn.reader + l.window.read;
}

abbrev pub decreases-loop-consumer : goal.decreases-loop-consumer
decreases-loop-consumer g l = cond l.window.is_ended 0 (l.window.limit + 1 - l.window.read)
