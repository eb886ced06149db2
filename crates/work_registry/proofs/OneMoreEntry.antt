-- A history with an entry more.
use Rattle.std.proofs.Common.{◌≡◌, ◌∙◌, ℕ, ◌+◌, Bool, true, List, [], ◌∷◌, ◌++◌, length, length-append, ap, sym}
use Rattle.std.specs.Prelude.{◌==◌, ◌&&◌}
use Rattle.work_registry.specs.EntryValue.{EntryValue}
use Rattle.work_registry.specs.Replay.{is_opening}
use Rattle.work_registry.proofs.GrowingBooks.{opening-push}

pub longer : (history grown : List EntryValue) (e : EntryValue) → grown ≡ history ++ e ∷ [] → length grown ≡ length history + 1
longer history grown e is = ap (λ (es : List EntryValue). length es) is ∙ length-append history (e ∷ [])

pub still_opening : (history grown : List EntryValue) (e : EntryValue) → grown ≡ history ++ e ∷ [] → e.session ≡ 0 → is_opening history ≡ true → is_opening grown ≡ true
still_opening history grown e is first all =
    ap is_opening is ∙ opening-push history e ∙ ap (λ (b : Bool). b && (e.session == 0)) all ∙ ap (λ (n : ℕ). n == 0) first

-- a list that is kept beside it grows with it
pub kept_with : (history grown items more : List EntryValue) (e : EntryValue) → grown ≡ history ++ e ∷ [] → more ≡ items ++ e ∷ [] → items ≡ history → more ≡ grown
kept_with history grown items more e is kept same = kept ∙ ap (λ (es : List EntryValue). es ++ e ∷ []) same ∙ sym is
