use Rattle.std.proofs.Common.{◌≡◌, drop}
use Rattle.std.specs.Prelude.{map}
use Rattle.std.specs.List.{list_any}
use Rattle.run_options.specs.WordsFault.{is_of_file}
use Rattle.run_options.proofs.words.is_of_any.Given as goal

-- none so far
abbrev pub invariant-loop-file : goal.invariant-loop-file
invariant-loop-file l =
    list_any (is_of_file l.register) (map (λ file. file.now) (drop l.file-index l.files))
    ≡ list_any (is_of_file l.register) (map (λ file. file.now) l.files)
