use Rattle.std.proofs.Common.{◌≡◌, drop}
use Rattle.std.specs.Prelude.{map}
use Rattle.std.specs.Str.{bytes_eq}
use Rattle.std.specs.Char.{to_ascii_uppercase}
use Rattle.rule_pages.proofs.words.is_in_capitals.Given as goal

-- so far they are the same
abbrev pub invariant-loop-i : goal.invariant-loop-i
invariant-loop-i l = bytes_eq (drop l.i l.name) (map to_ascii_uppercase (drop l.i l.word)) ≡ bytes_eq l.fn.name (map to_ascii_uppercase l.fn.word)
