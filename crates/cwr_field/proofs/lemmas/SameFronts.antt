-- Two texts that are the same, cut at one place.
use Rattle.std.proofs.Common.{◌≡◌, ◌∙◌, ℕ, List, ◌++◌, length, take, drop, ap, sym, refl}
use Rattle.std.proofs.lemmas.List.{take_at, drop_at}

-- texts of one length in front are the same, and so is what follows
pub same_fronts : (a b r s : List ℕ) → length a ≡ length b → a ++ r ≡ b ++ s → (a ≡ b) × (r ≡ s)
same_fronts a b r s len e = (
  sym (take_at a r (length a) refl) ∙ ap (take (length a)) e ∙ take_at b s (length a) (sym len),
  sym (drop_at a r (length a) refl) ∙ ap (drop (length a)) e ∙ drop_at b s (length a) (sym len),
)
