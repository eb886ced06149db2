use Rattle.std.proofs.Common.{◌≡◌, map}
use Rattle.atomic_file.proofs.system.sync_drafts.Given as goal

-- they are the same, in their order
abbrev pub invariant-loop-at : goal.invariant-loop-at
invariant-loop-at g l = record {
  names : map (λ f. f.names) l.followers ≡ map (λ f. f.names) l.fn.followers;
  replaces : map (λ f. f.replaces) l.followers ≡ map (λ f. f.replaces) l.fn.followers;
}
