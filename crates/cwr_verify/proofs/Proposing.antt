-- The owners of the entries so far, and one more.
use Rattle.std.proofs.Common.{◌≡◌, ◌∙◌, ℕ, ◌+◌, ◌<◌, List, [], ◌∷◌, ◌++◌, length, take, get_or, refl, sym, ap, subst}
use Rattle.std.proofs.lemmas.List.{take_more}
use Rattle.work_registry.specs.EntryValue.{EntryValue}
use Rattle.cwr_verify.specs.Proposed.{AreFirst}
use Rattle.cwr_verify.specs.Wanting.{Wanting, IsFirst, HasMovedOn}

-- one entry more
first_more : (before : List Wanting) (history : List EntryValue) (owners : List ℕ) (now next : List Wanting) (entry : EntryValue) (owner : ℕ)
    → AreFirst before history owners now → IsFirst now entry owner → HasMovedOn entry now next owner
    → AreFirst before (history ++ entry ∷ []) (owners ++ owner ∷ []) next
first_more before [] [] now next entry owner so is moved =
    (next, subst (λ (w : List Wanting). IsFirst w entry owner) so is, subst (λ (w : List Wanting). HasMovedOn entry w next owner) so moved, refl)
first_more before [] (o ∷ owners) now next entry owner so is moved = absurd so
first_more before (e ∷ history) [] now next entry owner so is moved = absurd so
first_more before (e ∷ history) (o ∷ owners) now next entry owner so is moved =
    (so.0, so.1, so.2, first_more so.0 history owners now next entry owner so.3 is moved)

-- the same by index
pub entry_more : (before : List Wanting) (history : List EntryValue) (n : ℕ) (owners all : List ℕ) (now next : List Wanting) (entry : EntryValue) (owner : ℕ)
    → n < length history → entry ≡ get_or history n entry → all ≡ owners ++ owner ∷ []
    → AreFirst before (take n history) owners now → IsFirst now entry owner → HasMovedOn entry now next owner
    → AreFirst before (take (n + 1) history) all next
entry_more before history n owners all now next entry owner lt at put so is moved =
    subst (λ (o : List ℕ). AreFirst before (take (n + 1) history) o next) (sym put)
    (subst (λ (h : List EntryValue). AreFirst before h (owners ++ owner ∷ []) next)
    (sym (take_more history n entry lt ∙ ap (λ (e : EntryValue). take n history ++ e ∷ []) (sym at)))
    (first_more before (take n history) owners now next entry owner so is moved))
