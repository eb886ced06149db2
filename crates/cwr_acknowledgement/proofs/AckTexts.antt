-- Two lines of one layout with the same bytes have the same texts.
use Rattle.std.proofs.Common.{◌≡◌, ◌∙◌, ℕ, ◌<◌, ◌^◌, List, [], ◌∷◌, ◌++◌, length, Some, ap, sym, append_assoc}
use Rattle.std.proofs.lemmas.List.{append_cancel_left}
use Rattle.cwr_field.specs.Layout.{padded}
use Rattle.cwr_field.proofs.lemmas.SameFronts.{same_fronts}
use Rattle.cwr_field.specs.Number.{number_of, number_text}
use Rattle.cwr_field.proofs.lemmas.DigitText.{number_of-number_text}
use Rattle.cwr_record.specs.Layout.{Part, Read, Kept, Written}
use Rattle.cwr_record.specs.Lines.{spelling, line_of}
use Rattle.cwr_record.proofs.lemmas.RoundTrip.{padded_full}
use Rattle.cwr_acknowledgement.specs.Acknowledgement.{ended}

-- each text of the record fills its field
abbrev pub Fills : {X : Type 0} → List (Part X) → X → Type 0
Fills [] x = Unit {0}
Fills (Read s part ∷ parts) x = (length (spelling s.content s.column.width (part x)) ≡ s.column.width) × Fills parts x
Fills (Kept column part ∷ parts) x = (length (part x) ≡ column.width) × Fills parts x
Fills (Written column text ∷ parts) x = Fills parts x

-- the records have the same text in each field that is read or kept
abbrev pub SameTexts : {X : Type 0} → List (Part X) → X → X → Type 0
SameTexts [] x y = Unit {0}
SameTexts (Read s part ∷ parts) x y = (spelling s.content s.column.width (part x) ≡ spelling s.content s.column.width (part y)) × SameTexts parts x y
SameTexts (Kept column part ∷ parts) x y = (part x ≡ part y) × SameTexts parts x y
SameTexts (Written column text ∷ parts) x y = SameTexts parts x y

same_lines : {X : Type 0} (parts : List (Part X)) (x y : X) (r s : List ℕ) → Fills parts x → Fills parts y
    → line_of parts x ++ r ≡ line_of parts y ++ s → SameTexts parts x y × (r ≡ s)
same_lines [] x y r s f g e = (tt, e)
same_lines (Read slot part ∷ parts) x y r s f g e =
    let a = spelling slot.content slot.column.width (part x) in
    let b = spelling slot.content slot.column.width (part y) in
    let split = same_fronts a b (line_of parts x ++ r) (line_of parts y ++ s) (f.0 ∙ sym g.0) (sym (append_assoc a (line_of parts x) r) ∙ e ∙ append_assoc b (line_of parts y) s) in
    let rest = same_lines parts x y r s f.1 g.1 split.1 in
    ((split.0, rest.0), rest.1)
same_lines (Kept column part ∷ parts) x y r s f g e =
    let a = padded column.width (part x) in
    let b = padded column.width (part y) in
    let p = padded_full column.width (part x) f.0 in
    let q = padded_full column.width (part y) g.0 in
    let len : length a ≡ length b = ap length p ∙ f.0 ∙ sym g.0 ∙ sym (ap length q) in
    let split = same_fronts a b (line_of parts x ++ r) (line_of parts y ++ s) len (sym (append_assoc a (line_of parts x) r) ∙ e ∙ append_assoc b (line_of parts y) s) in
    let rest = same_lines parts x y r s f.1 g.1 split.1 in
    ((sym p ∙ split.0 ∙ q, rest.0), rest.1)
same_lines (Written column text ∷ parts) x y r s f g e =
    let a = padded column.width text in
    same_lines parts x y r s f g
    (append_cancel_left a (line_of parts x ++ r) (line_of parts y ++ s) (sym (append_assoc a (line_of parts x) r) ∙ e ∙ append_assoc a (line_of parts y) s))

-- lines with their ends, and what follows
pub same_ended : {X : Type 0} (parts : List (Part X)) (x y : X) (r s : List ℕ) → Fills parts x → Fills parts y
    → ended (line_of parts x) ++ r ≡ ended (line_of parts y) ++ s → SameTexts parts x y × (r ≡ s)
same_ended parts x y r s f g e =
    let crlf : List ℕ = 13 ∷ 10 ∷ [] in
    let same = same_lines parts x y (crlf ++ r) (crlf ++ s) f g
    (sym (append_assoc (line_of parts x) crlf r) ∙ e ∙ append_assoc (line_of parts y) crlf s) in
    (same.0, append_cancel_left crlf r s same.1)

-- digits tell their number
pub same_number : (width a b : ℕ) → a < 10 ^ width → b < 10 ^ width → number_text width a ≡ number_text width b → a ≡ b
same_number width a b p q e =
    let known : Some a ≡ Some b = sym (number_of-number_text width a p) ∙ ap number_of e ∙ number_of-number_text width b q in
    cc
