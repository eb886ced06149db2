-- The names of a file that is replaced by a draft, as contracts see them.
use Rattle.std.specs.Prelude.{ℕ, List, [], ◌∷◌, codes, Option, None, Some}
use Rattle.std.specs.Path.{path_parent}

-- a file that is given by a word, and the path that the word leads to
pub record FileWords : Type 0 where
  -- the word, as it was given
  pub word : List ℕ
  -- the path of the file that the word leads to, by way of links
  pub name : List ℕ

-- a directory by its name; the one without a name is that of the process
abbrev pub named_or_here : Option (List ℕ) → List ℕ
named_or_here None = codes "."
named_or_here (Some []) = codes "."
named_or_here (Some (first ∷ others)) = first ∷ others

-- the directory in which the file of this path lies
abbrev pub directory_of : List ℕ → List ℕ
directory_of path = named_or_here (path_parent path)
