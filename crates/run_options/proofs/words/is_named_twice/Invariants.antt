use Rattle.std.proofs.Common.{◌≡◌, drop}
use Rattle.std.specs.Prelude.{map}
use Rattle.run_options.specs.RunFault.{is_named_twice}
use Rattle.run_options.proofs.words.is_named_twice.Given as goal

-- no file so far is one of those after it
abbrev pub invariant-loop-index : goal.invariant-loop-index
invariant-loop-index l = is_named_twice (map (λ file. file.now) (drop l.index l.files)) ≡ is_named_twice (map (λ file. file.now) l.files)
