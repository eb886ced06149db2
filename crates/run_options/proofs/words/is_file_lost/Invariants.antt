use Rattle.std.proofs.Common.{◌≡◌, drop}
use Rattle.std.specs.Prelude.{map}
use Rattle.std.specs.List.{list_any}
use Rattle.run_options.specs.WordsFault.{is_written_for}
use Rattle.run_options.proofs.words.is_file_lost.Given as goal

-- none so far
abbrev pub invariant-loop-file : goal.invariant-loop-file
invariant-loop-file l =
    list_any (λ word. list_any (λ file. is_written_for file word) (map (λ file. file.now) l.files)) (map (λ file. file.now) (drop l.file-index l.files))
    ≡ list_any (λ word. list_any (λ file. is_written_for file word) (map (λ file. file.now) l.files)) (map (λ file. file.now) l.files)
