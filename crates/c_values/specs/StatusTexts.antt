-- What the statuses mean.
use Rattle.std.specs.Prelude.{ℕ, List, [], ◌∷◌, codes, slice_index_or}

-- the texts of the statuses, of 0 first
abbrev pub status_texts : List (List ℕ)
status_texts =
    codes "done"  -- 0
    ∷ codes "the room is too small for the text"  -- 1
    ∷ codes "memory was refused"  -- 2
    ∷ codes "not a stamp"  -- 3
    ∷ codes "not a register of one registry"  -- 4
    ∷ codes "not an outcome"  -- 5
    ∷ codes "the registry is closed"  -- 6
    ∷ codes "the registry is open already"  -- 7
    ∷ codes "the word names no rule and no answer"  -- 8
    ∷ codes "the files and the register do not fit"  -- 9
    ∷ []

-- the text of a status; a number that is no status has a text that says so
abbrev pub status_text : ℕ → List ℕ
status_text status = slice_index_or status_texts status (codes "not a status")
