use Rattle.std.proofs.Common.{◌≡◌, ◌++◌, drop, bytes_eq}
use Rattle.std.specs.Prelude.{map}
use Rattle.std.specs.List.{list_any}
use Rattle.run_options.proofs.lists.has_one_with.Given as goal

-- none so far
abbrev pub invariant-loop-file : goal.invariant-loop-file
invariant-loop-file l =
    list_any (λ word. list_any (λ file. bytes_eq word (file ++ l.end)) (map (λ file. file.now) l.files)) (map (λ file. file.now) (drop l.file-index l.files))
    ≡ list_any (λ word. list_any (λ file. bytes_eq word (file ++ l.end)) (map (λ file. file.now) l.files)) (map (λ file. file.now) l.files)
