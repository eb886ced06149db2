use Rattle.std.proofs.Common.{◌≡◌, ◌++◌, map, string_bytes, drop}
use Rattle.atomic_file.proofs.names.FileNames.of_words.Given as goal

-- the names so far are of the words so far
abbrev pub invariant-loop-word : goal.invariant-loop-word
invariant-loop-word g l = map (λ names. names.word) l.all.items ++ map (λ word. string_bytes word) (drop l.word-index l.words) ≡ map (λ word. string_bytes word) l.fn.words
