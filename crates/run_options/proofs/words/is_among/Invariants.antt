use Rattle.std.proofs.Common.{◌≡◌, drop}
use Rattle.std.specs.Prelude.{map}
use Rattle.std.specs.List.{list_any}
use Rattle.run_options.specs.RunFault.{is_same_file}
use Rattle.run_options.proofs.words.is_among.Given as goal

-- none so far
abbrev pub invariant-loop-other : goal.invariant-loop-other
invariant-loop-other l =
    list_any (is_same_file l.file) (map (λ other. other.now) (drop l.other-index l.others))
    ≡ list_any (is_same_file l.file) (map (λ other. other.now) l.others)
