-- A draft that takes a text piece after piece.
use Rattle.std.proofs.Common.{◌≡◌, ◌∙◌, ℕ, ◌+◌, ◌≤◌, List, ◌++◌, take, drop, length, ap, sym, subst, refl, arith, append-nil, append_assoc}
use Rattle.std.specs.Prelude.{Option, Some, None}
use Rattle.std.proofs.Math.Seq.{take-add, take-length, drop-append_seam}
use Rattle.std.proofs.lemmas.List.{take-append-le, length-append, length-drop, drop-drop}
use Rattle.std.proofs.lemmas.Option.{same_Some}
use Rattle.atomic_file.specs.Names.{State, drafting}
use Rattle.atomic_file.specs.Looking.{Becomes}

-- none of the bytes is in the draft so far
pub Becomes-begun : (old : Option State) (bytes : List ℕ) → Becomes (drafting (take 0 bytes)) old old
Becomes-begun None bytes = refl
Becomes-begun (Some s) bytes = rw (append-nil s.draft) refl

-- the first i bytes are in the draft, and then n bytes more
pub Becomes-more : (old mid new : Option State) (i n : ℕ) (bytes : List ℕ) →
    Becomes (drafting (take i bytes)) old mid → Becomes (drafting (take n (drop i bytes))) mid new →
    Becomes (drafting (take (i + n) bytes)) old new
Becomes-more None None new i n bytes first then = then
Becomes-more None (Some m) new i n bytes first then = cc
Becomes-more (Some s) None new i n bytes first then = cc
Becomes-more (Some s) (Some m) new i n bytes first then =
    let whole : m ≡ drafting (take i bytes) s = same_Some _ _ first in
    rw (then, whole, take-add i n bytes, append_assoc s.draft (take i bytes) (take n (drop i bytes))) refl

-- what is left of a text, and its next piece
pub next-chunk : (left old held chunk new : List ℕ) → left ≡ old → old ≡ held ++ new → chunk ≡ held → left ≡ chunk ++ new
next-chunk left old held chunk new so_far text there = so_far ∙ text ∙ ap (λ xs. xs ++ new) (sym there)

-- a text of which so many bytes are in the draft, and its next piece
pub chunk-within : (text chunk rest : List ℕ) (i n : ℕ) → drop i text ≡ chunk ++ rest → n ≤ length chunk → i ≤ length text → i + n ≤ length text
chunk-within text chunk rest i n cut fits within =
    let len : length (drop i text) ≡ length chunk + length rest = ap length cut ∙ length-append chunk rest in
    omega (arith, fits, within, len, length-drop i text)

pub whole_chunk-within : (text chunk rest : List ℕ) (i : ℕ) → drop i text ≡ chunk ++ rest → i ≤ length text → i + length chunk ≤ length text
whole_chunk-within text chunk rest i cut within = chunk-within text chunk rest i (length chunk) cut (omega arith) within

take-chunk : (text chunk rest : List ℕ) (i n : ℕ) → drop i text ≡ chunk ++ rest → n ≤ length chunk → take (i + n) text ≡ take i text ++ take n chunk
take-chunk text chunk rest i n cut fits =
    take-add i n text ∙ ap (λ xs. take i text ++ xs) (ap (λ xs. take n xs) cut ∙ take-append-le n chunk rest fits)

pub drop-chunk : (text chunk rest : List ℕ) (i : ℕ) → drop i text ≡ chunk ++ rest → drop (i + length chunk) text ≡ rest
drop-chunk text chunk rest i cut = sym (drop-drop (length chunk) i text) ∙ ap (λ xs. drop (length chunk) xs) cut ∙ drop-append_seam chunk rest

-- the first of the piece are in the draft too
pub Becomes-chunk : (old mid new : Option State) (text chunk rest : List ℕ) (i n : ℕ) → drop i text ≡ chunk ++ rest → n ≤ length chunk →
    Becomes (λ s. record s { draft = take i text }) old mid → Becomes (drafting (take n chunk)) mid new →
    Becomes (λ s. record s { draft = take (i + n) text }) old new
Becomes-chunk None None new text chunk rest i n cut fits first then = then
Becomes-chunk None (Some m) new text chunk rest i n cut fits first then = cc
Becomes-chunk (Some s) None new text chunk rest i n cut fits first then = cc
Becomes-chunk (Some s) (Some m) new text chunk rest i n cut fits first then =
    let so_far : m ≡ record s { draft = take i text } = same_Some _ _ first in rw (then, so_far, take-chunk text chunk rest i n cut fits) refl

-- the whole piece is
pub Becomes-whole_chunk : (old mid new : Option State) (text chunk rest : List ℕ) (i : ℕ) → drop i text ≡ chunk ++ rest →
    Becomes (λ s. record s { draft = take i text }) old mid → Becomes (drafting chunk) mid new →
    Becomes (λ s. record s { draft = take (i + length chunk) text }) old new
Becomes-whole_chunk old mid new text chunk rest i cut first then =
    let P : List ℕ → Type 0 = λ xs. Becomes (drafting xs) mid new in
    Becomes-chunk old mid new text chunk rest i (length chunk) cut (omega arith) first (subst P (sym (take-length chunk)) then)
