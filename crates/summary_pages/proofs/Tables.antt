-- Parts of a summary, put together.
use Rattle.std.proofs.Common.{◌≡◌, ◌∙◌, ℕ, List, [], ◌∷◌, ◌++◌, ap, sym, append_assoc, append-nil}
use Rattle.html_text.specs.Fragments.{fragment_text}
use Rattle.html_text.specs.Pieces.{Piece, Fixed, page_text}
use Rattle.html_text.specs.declared.fragment.Fragment.{Fragment}
use Rattle.html_text.proofs.lemmas.Pages.{page_append, three}

-- three parts in turn, of which the last is markup
pub ended : (old a b new : List ℕ) (begin rows : List Piece) (end : Fragment) → a ≡ old ++ page_text begin → b ≡ a ++ page_text rows → new ≡ b ++ fragment_text end
    → new ≡ old ++ page_text (begin ++ (rows ++ Fixed end ∷ []))
ended old a b new begin rows end first second third =
    three old a b new begin rows (Fixed end ∷ []) first second (third ∙ ap (λ (l : List ℕ). b ++ l) (sym (append-nil (fragment_text end))))

-- a part between markup
pub between : (old a b new : List ℕ) (begin end : Fragment) (part : List Piece) → a ≡ old ++ fragment_text begin → b ≡ a ++ page_text part → new ≡ b ++ fragment_text end
    → new ≡ old ++ page_text (Fixed begin ∷ (part ++ Fixed end ∷ []))
between old a b new begin end part first =
    ended old a b new (Fixed begin ∷ []) part end (first ∙ ap (λ (l : List ℕ). old ++ l) (sym (append-nil (fragment_text begin))))

-- a page: four parts, and its end
pub whole : (start a b c d new : List ℕ) (w x y z : List Piece) (end : Fragment) → start ≡ [] → a ≡ start ++ page_text w → b ≡ a ++ page_text x → c ≡ b ++ page_text y → d ≡ c ++ page_text z
    → new ≡ d ++ fragment_text end → new ≡ page_text (w ++ (x ++ (y ++ (z ++ Fixed end ∷ []))))
whole start a b c d new w x y z end nothing first second third fourth last =
    three a b c new x y (z ++ Fixed end ∷ []) second third (two c d new z end fourth last)
    ∙ ap (λ (l : List ℕ). l ++ page_text (x ++ (y ++ (z ++ Fixed end ∷ [])))) (first ∙ ap (λ (l : List ℕ). l ++ page_text w) nothing)
    ∙ sym (page_append w (x ++ (y ++ (z ++ Fixed end ∷ []))))
  where
    two : (out mid new : List ℕ) (part : List Piece) (end : Fragment) → mid ≡ out ++ page_text part → new ≡ mid ++ fragment_text end → new ≡ out ++ page_text (part ++ Fixed end ∷ [])
    two out mid new part end one more =
        more
        ∙ ap (λ (l : List ℕ). l ++ fragment_text end) one
        ∙ append_assoc out (page_text part) (fragment_text end)
        ∙ ap (λ (l : List ℕ). out ++ (page_text part ++ l)) (sym (append-nil (fragment_text end)))
        ∙ ap (λ (l : List ℕ). out ++ l) (sym (page_append part (Fixed end ∷ [])))
