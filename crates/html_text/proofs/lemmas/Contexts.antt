-- Where pieces stand: parts of a page that begin and end in text.
use Rattle.std.proofs.Common.{◌≡◌, ◌∙◌, ℕ, zero, suc, Bool, true, false, cond, List, [], ◌∷◌, ◌++◌, refl, ap}
use Rattle.std.specs.Prelude.{◌==◌, ◌||◌, replicate}
use Rattle.std.specs.List.{flat_map}
use Rattle.cwr_field.specs.Layout.{is_control}
use Rattle.html_text.specs.Contexts.{Context, Text, behind, behind_piece}
use Rattle.html_text.specs.FileNames.{file_name, name_byte}
use Rattle.html_text.specs.Fragments.{fragment_text}
use Rattle.cwr_field.specs.Shown.{is_unprinted}
use Rattle.html_text.specs.Pieces.{Piece, Fixed, Byte, Hex, cell, field_cell, shown, field_shown, text_pieces}
use Rattle.html_text.specs.declared.fragment.Fragment.TheVariants.{Beyond, Blank, ByteBox, ByteBoxEnd}

-- pieces that begin and end in text
abbrev pub Keeps : List Piece → Type 0
Keeps pieces = behind Text pieces ≡ Text

pub behind_append : (c : Context) (xs ys : List Piece) → behind c (xs ++ ys) ≡ behind (behind c xs) ys
behind_append c [] ys = refl
behind_append c (x ∷ xs) ys = behind_append (behind_piece c x) xs ys

-- pieces behind others
pub join : {d e : Context} (c : Context) (xs ys : List Piece) → behind c xs ≡ d → behind d ys ≡ e → behind c (xs ++ ys) ≡ e
join c xs ys first second = behind_append c xs ys ∙ ap (λ (k : Context). behind k ys) first ∙ second

pub both : (xs ys : List Piece) → Keeps xs → Keeps ys → Keeps (xs ++ ys)
both xs ys first second = join Text xs ys first second

pub either_in : {d : Context} (c : Context) (so : Bool) (xs ys : List Piece) → behind c xs ≡ d → behind c ys ≡ d → behind c (cond so xs ys) ≡ d
either_in c true xs ys first second = first
either_in c false xs ys first second = second

pub either : (so : Bool) (xs ys : List Piece) → Keeps xs → Keeps ys → Keeps (cond so xs ys)
either so xs ys first second = either_in Text so xs ys first second

-- pieces for each element
pub each_in : {X : Type 0} (c : Context) (f : X → List Piece) (xs : List X) → ((x : X) → behind c (f x) ≡ c) → behind c (flat_map f xs) ≡ c
each_in c f [] keeps = refl
each_in c f (x ∷ xs) keeps = join c (f x) (flat_map f xs) (keeps x) (each_in c f xs keeps)

pub each : {X : Type 0} (f : X → List Piece) (xs : List X) → ((x : X) → Keeps (f x)) → Keeps (flat_map f xs)
each f xs keeps = each_in Text f xs keeps

pub text : (bytes : List ℕ) → Keeps (text_pieces bytes)
text [] = refl
text (b ∷ bytes) = text bytes

pub in_cell : (b : ℕ) → Keeps (cell b)
unfolding fragment_text
in_cell b = either (is_unprinted b) (Fixed ByteBox ∷ Hex b ∷ Fixed ByteBoxEnd ∷ []) (Byte b ∷ []) refl refl

pub in_field : (b : ℕ) → Keeps (field_cell b)
unfolding fragment_text
in_field b = either (b == 32) (Fixed Blank ∷ []) (cell b) refl (in_cell b)

pub bytes : (l : List ℕ) → Keeps (shown l)
bytes l = each cell l in_cell

pub field_bytes : (l : List ℕ) → Keeps (field_shown l)
field_bytes l = each field_cell l in_field

pub beyond : (n : ℕ) → Keeps (replicate n (Fixed Beyond))
unfolding fragment_text
beyond zero = refl
beyond (suc n) = beyond n

in_name : (b : ℕ) → Keeps (name_byte b)
unfolding name_byte
in_name b = either (is_control b || (b == 127)) (Byte 92 ∷ Byte 120 ∷ Hex b ∷ []) (Byte b ∷ []) refl refl

-- the name of a file
pub name_of_file : (name : List ℕ) → Keeps (file_name name)
name_of_file name = each name_byte name in_name
