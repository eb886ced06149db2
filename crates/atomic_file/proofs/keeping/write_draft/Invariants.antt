use Rattle.std.proofs.Common.{◌≡◌, ◌≤◌, false, length, take, drop}
use Rattle.std.specs.Prelude.{IfSome}
use Rattle.atomic_file.specs.Looking.{Only, Becomes}
use Rattle.atomic_file.specs.Keeping.{SinceThen}
use Rattle.atomic_file.proofs.keeping.write_draft.Given as goal

-- the pieces so far went into the draft, and nothing changed under the names
abbrev pub invariant-loop-chunk : goal.invariant-loop-chunk
invariant-loop-chunk g l = record {
  within : l.sent ≤ length (g.T.Chunks.left l.fn.text);
  left : drop l.sent (g.T.Chunks.left l.fn.text) ≡ g.T.Chunks.left l.text;
  works : g.P.Storage.has_failed l.storage ≡ false;
  went_out : Becomes (λ s. record s { draft = take l.sent (g.T.Chunks.left l.fn.text) }) (g.P.Storage.told l.fn.storage) (g.P.Storage.told l.storage);
  any_moment : IfSome (g.P.Storage.told l.fn.storage) (λ s. SinceThen (g.P.Storage.found l.fn.storage) (g.P.Storage.found l.storage) (λ c. c ≡ s.names));
  after : IfSome (g.P.Storage.told l.fn.storage) (λ s. Only s.names (g.P.Storage.may_find l.storage));
}

abbrev pub decreases-loop-chunk : goal.decreases-loop-chunk
decreases-loop-chunk g l = length (g.T.Chunks.left l.text)
