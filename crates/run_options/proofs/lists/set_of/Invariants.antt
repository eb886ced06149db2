use Rattle.std.proofs.Common.{◌≡◌, false, drop}
use Rattle.std.specs.Prelude.{map}
use Rattle.run_options.specs.ListFault.{is_repeated, HasSame}
use Rattle.run_options.proofs.lists.set_of.Given as goal

-- the names from here on are known, and no two of them are one
abbrev pub invariant-loop-index : goal.invariant-loop-index
invariant-loop-index l = record {
  apart : is_repeated (map (λ file. file.now) (drop l.index l.files)) ≡ false;
  same : HasSame l.names.keys (map (λ file. file.now) (drop l.index l.files));
}
