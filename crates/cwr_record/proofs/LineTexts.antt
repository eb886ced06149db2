-- The text of a line that is put together field by field.
use Rattle.std.proofs.Common.{◌≡◌, ◌∙◌, ℕ, ◌+◌, ◌≤◌, List, [], ◌++◌, length, take, ap, sym, append_assoc}
use Rattle.std.proofs.lemmas.List.{append-nil}
use Rattle.std.proofs.lemmas.Slice.{take-put_mid}
use borrow.Rule.Slice.PartMut.{put_mid}

-- a field is written behind the first n bytes, and something is put behind it
pub put_behind : (bytes room old text : List ℕ) (n k end : ℕ) → take n bytes ≡ old → room ≡ text → end ≡ n + length room → n ≤ length bytes
    → (behind : List ℕ) → take end (put_mid n k bytes room) ++ behind ≡ old ++ (text ++ behind)
put_behind bytes room old text n k end so_far is at within behind =
    ap (λ t. t ++ behind) (take-put_mid n k bytes room end at within ∙ ap (λ t. t ++ room) so_far ∙ ap (λ t. old ++ t) is) ∙ append_assoc old text behind

-- the line is appended whole: nothing stood before its fields, and nothing stands behind them
pub whole : (out new bytes line empty text : List ℕ) → new ≡ out ++ bytes → bytes ≡ line → line ++ [] ≡ empty ++ text → empty ≡ []
    → new ≡ out ++ text
whole out new bytes line empty text e is fields none =
    e ∙ ap (λ t. out ++ t) (is ∙ sym (append-nil line) ∙ fields ∙ ap (λ t. t ++ text) none)

-- nothing stood before its fields
pub fields_alone : (line empty text : List ℕ) → line ++ [] ≡ empty ++ text → empty ≡ [] → line ≡ text
fields_alone line empty text fields none = sym (append-nil line) ∙ fields ∙ ap (λ t. t ++ text) none
