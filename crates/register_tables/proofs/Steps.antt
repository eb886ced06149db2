-- Pieces that are written one after the other, and what is left to write.
use Rattle.std.proofs.Common.{◌≡◌, ◌∙◌, ◌+◌, ◌<◌, ℕ, Bool, true, false, List, [], ◌∷◌, ◌++◌, Option, Some, None, length, drop, filter, get_or, if◌then◌else◌, refl, sym, ap, subst, append_assoc, append-nil}
use Rattle.std.specs.List.{flat_map}
use Rattle.std.specs.Io.KnownBytes.{Appends, Keeps}
use Rattle.std.proofs.lemmas.List.{drop_more}

-- two pieces in turn
pub in_turn : (a b c : Option (List ℕ)) (xs ys : List ℕ) → Appends a b xs → Appends b c ys → Appends a c (xs ++ ys)
in_turn None b c xs ys f g = tt
in_turn (Some x) None c xs ys f g = absurd f
in_turn (Some x) (Some y) None xs ys f g = absurd g
in_turn (Some x) (Some y) (Some z) xs ys f g = g ∙ ap (λ (text : List ℕ). text ++ ys) f ∙ append_assoc x xs ys

-- no piece
pub nothing : (a : Option (List ℕ)) → Appends a a []
nothing None = tt
nothing (Some x) = sym (append-nil x)

-- so much is written that with what is left it makes the whole
pub record IsPart (old new : Option (List ℕ)) (left total : List ℕ) : Type 0 where
  pub done : List ℕ
  pub written : Appends old new done
  pub whole : done ++ left ≡ total

pub begun : (a : Option (List ℕ)) (total : List ℕ) → IsPart a a total total
begun a total = record { done = []; written = nothing a; whole = refl }

pub gone_on : (a b c : Option (List ℕ)) (piece left total : List ℕ) → IsPart a b (piece ++ left) total → Appends b c piece → IsPart a c left total
gone_on a b c piece left total part more = record {
  done = part.done ++ piece;
  written = in_turn a b c part.done piece part.written more;
  whole = append_assoc part.done piece left ∙ part.whole;
}

pub completed : (a b : Option (List ℕ)) (total : List ℕ) → IsPart a b [] total → Appends a b total
completed a b total part = subst (λ (text : List ℕ). Appends a b text) (sym (append-nil part.done) ∙ part.whole) part.written

-- what is left of a list begins with the piece of its next element, where that is listed
pub next_piece : {X : Type 0} (p : X → Bool) (f : X → List ℕ) (xs : List X) (i : ℕ) (d : X) → i < length xs
    → flat_map f (filter p (drop i xs)) ≡ (if p (get_or xs i d) then f (get_or xs i d) else []) ++ flat_map f (filter p (drop (i + 1) xs))
next_piece {X} p f xs i d lt = rw (drop_more xs i d lt) (by (p (get_or xs i d)))
  where
    by : (b : Bool) → flat_map f (if b then get_or xs i d ∷ filter p (drop (i + 1) xs) else filter p (drop (i + 1) xs))
        ≡ (if b then f (get_or xs i d) else []) ++ flat_map f (filter p (drop (i + 1) xs))
    by true = refl
    by false = refl

-- what is kept stands
kept : (a b c : Option (List ℕ)) (xs : List ℕ) → Appends a b xs → Keeps b c → Appends a c xs
kept None b c xs f k = tt
kept (Some x) None c xs f k = absurd f
kept (Some x) (Some y) None xs f k = absurd k
kept (Some x) (Some y) (Some z) xs f k = k ∙ f

-- a header, and then the rows
pub table : (to a b told : Option (List ℕ)) (header rows : List ℕ) → Appends to a header → Appends a b rows → Keeps b told → Appends to told (header ++ rows)
table to a b told header rows head body k = kept to b told (header ++ rows) (in_turn to a b header rows head body) k
