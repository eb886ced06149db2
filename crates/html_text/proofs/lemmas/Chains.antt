-- Pieces that are appended one behind the other: each lemma is the first step of a page, before the others.
use Rattle.std.proofs.Common.{◌≡◌, ◌∙◌, ℕ, Bool, true, false, if◌then◌else◌, List, [], ◌∷◌, ◌++◌, ap, sym, append_assoc, append-nil}
use Rattle.std.specs.Fmt.{decimal}
use Rattle.html_text.specs.Fragments.{fragment_text}
use Rattle.html_text.specs.Pieces.{Piece, Fixed, Number, page_text}
use Rattle.html_text.specs.declared.fragment.Fragment.{Fragment}
use Rattle.html_text.proofs.lemmas.Pages.{page_append}

-- the pieces are appended
pub record Appended (start new : List ℕ) (pieces : List Piece) : Type 0 where
  pub is : new ≡ start ++ page_text pieces

-- bytes, and what is behind them
then_bytes : (start mid new bytes rest : List ℕ) → mid ≡ start ++ bytes → new ≡ mid ++ rest → new ≡ start ++ (bytes ++ rest)
then_bytes start mid new bytes rest first behind = behind ∙ ap (λ (l : List ℕ). l ++ rest) first ∙ append_assoc start bytes rest

-- markup, and the pieces behind it
pub then_fixed : (start mid new : List ℕ) (fragment : Fragment) (rest : List Piece) → mid ≡ start ++ fragment_text fragment → Appended mid new rest → Appended start new (Fixed fragment ∷ rest)
then_fixed start mid new fragment rest first behind = record { is = then_bytes start mid new (fragment_text fragment) (page_text rest) first behind.is }

-- a number, and the pieces behind it
pub then_number : (start mid new : List ℕ) (n : ℕ) (rest : List Piece) → mid ≡ start ++ decimal n → Appended mid new rest → Appended start new (Number n ∷ rest)
then_number start mid new n rest first behind = record { is = then_bytes start mid new (decimal n) (page_text rest) first behind.is }

-- some pieces, and those behind them
pub then_part : (start mid new : List ℕ) (part rest : List Piece) → mid ≡ start ++ page_text part → Appended mid new rest → Appended start new (part ++ rest)
then_part start mid new part rest first behind =
    record { is = then_bytes start mid new (page_text part) (page_text rest) first behind.is ∙ ap (λ (l : List ℕ). start ++ l) (sym (page_append part rest)) }

-- markup at the end
pub last_fixed : (start new : List ℕ) (fragment : Fragment) → new ≡ start ++ fragment_text fragment → Appended start new (Fixed fragment ∷ [])
last_fixed start new fragment is = record { is = is ∙ ap (λ (l : List ℕ). start ++ l) (sym (append-nil (fragment_text fragment))) }

-- a number at the end
pub last_number : (start new : List ℕ) (n : ℕ) → new ≡ start ++ decimal n → Appended start new (Number n ∷ [])
last_number start new n is = record { is = is ∙ ap (λ (l : List ℕ). start ++ l) (sym (append-nil (decimal n))) }

-- some pieces at the end
pub last_part : (start new : List ℕ) (part : List Piece) → new ≡ start ++ page_text part → Appended start new part
last_part start new part is = record { is = is }

-- the first of two choices
pub when_so : (b : Bool) (start new : List ℕ) (taken other : List Piece) → b ≡ true → Appended start new taken → Appended start new (if b then taken else other)
when_so b start new taken other so appended = record { is = appended.is ∙ ap (λ c. start ++ page_text (if c then taken else other)) (sym so) }

-- the second of two choices
pub when_not : (b : Bool) (start new : List ℕ) (taken other : List Piece) → b ≡ false → Appended start new other → Appended start new (if b then taken else other)
when_not b start new taken other so appended = record { is = appended.is ∙ ap (λ c. start ++ page_text (if c then taken else other)) (sym so) }
