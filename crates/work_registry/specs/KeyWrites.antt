-- What a key gives to a hasher: its two texts, each in one write.
use Rattle.std.specs.Prelude.{◌≡◌, ◌&&◌, ℕ, Bool, true, false, IsTrue, List, [], ◌∷◌}
use Rattle.std.proofs.Common.{ap, refl, sym, ◌∙◌, true≢false}
use Rattle.std.specs.Cmp.Lexicographic.{bytes_decides}
use Rattle.std.specs.Str.{bytes_eq}
use Rattle.work_registry.specs.declared.key.Key.{Key}
use Rattle.work_registry.specs.Rows.{same_key}

-- the texts that a key gives to a hasher, in order
abbrev pub key_writes : Key → List (List ℕ)
key_writes k = k.submitter ∷ k.number ∷ []

-- equal keys give the same
pub same-writes : (a b : Key) → IsTrue (same_key a b) → key_writes a ≡ key_writes b
same-writes a b = by (bytes_eq a.submitter b.submitter) refl (bytes_eq a.number b.number) refl
  where
    by : (s : Bool) → bytes_eq a.submitter b.submitter ≡ s → (t : Bool) → bytes_eq a.number b.number ≡ t → IsTrue (s && t) → key_writes a ≡ key_writes b
    by true p true q e = ap (λ x. x ∷ a.number ∷ []) ((bytes_decides _ _).0 p) ∙ ap (λ x. b.submitter ∷ x ∷ []) ((bytes_decides _ _).0 q)
    by true p false q e = absurd (true≢false (sym e))
    by false p t q e = absurd (true≢false (sym e))
