-- The text that reports the first fault of a file.
use Rattle.std.specs.Prelude.{ℕ, List, ◌++◌, codes}
use Rattle.std.specs.Fmt.{decimal}

-- the text of a fault of a file: its number, and its line from 1
abbrev pub refused_text : ℕ → ℕ → List ℕ
refused_text number line = codes "refused F" ++ decimal number ++ codes " at line " ++ decimal line
