-- What the calls of a `Storage` do to what somebody may find under its names, and to its known state.
use Rattle.std.specs.Prelude.{◌≡◌, ◌⊎◌, ◌↔◌, List, ℕ, Option, None, Some, MatchOption, IsSomeAnd}
use Rattle.atomic_file.specs.Names.{Names, State}

-- nothing but x is found
abbrev pub Only : {X : Type 0} → X → (X → Type 0) → Type 0
Only x there = (c : _) → there c → c ≡ x

-- what is found could be found before
abbrev pub Stays : (Names → Type 0) → (Names → Type 0) → Type 0
Stays old new = (c : Names) → new c → old c

-- time goes on: what somebody may have found by now is what was found before, and what may be found now
abbrev pub GoesOn : (Names → Type 0) → (Names → Type 0) → (Names → Type 0) → Type 0
GoesOn before now may_find = (c : Names) → now c ↔ (before c ⊎ may_find c)

-- A draft may have taken a name: what is found is what was, or that with anything that the disk may have of the draft
-- in place of what lay under the name.
abbrev pub Renames : (List ℕ → Names → Names) → (Names → Type 0) → (List ℕ → Type 0) → (Names → Type 0) → Type 0
Renames change old draft new = (c : Names) → new c → old c ⊎ ((d : Names) × (text : List ℕ) × old d × draft text × (c ≡ change text d))

-- the known state becomes this; an unknown one stays unknown
abbrev pub Becomes : (State → State) → Option State → Option State → Type 0
Becomes change old new = MatchOption old (new ≡ None) (λ s. new ≡ Some (change s))

-- the known state stays, or becomes this; an unknown one stays unknown
abbrev pub MayBecome : (State → State) → Option State → Option State → Type 0
MayBecome change old new = MatchOption old (new ≡ None) (λ s. (new ≡ Some s) ⊎ (new ≡ Some (change s)))

-- the known state becomes one that P relates to it; an unknown one stays unknown
abbrev pub BecomesBy : (State → State → Type 0) → Option State → Option State → Type 0
BecomesBy P old new = MatchOption old (new ≡ None) (λ s. IsSomeAnd new (P s))
