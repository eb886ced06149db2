-- The places of the transactions, one line further.
use Rattle.std.proofs.Common.{◌≡◌, ℕ, ◌+◌, ◌-◌, ◌≤◌, ◌<◌, ◌⊎◌, inl, inr, List, [], ◌∷◌, ◌++◌, length, take, drop, Option, Some, None, option_map, arith, refl, sym, ap, ◌∙◌, subst, append_assoc}
use Rattle.std.specs.List.{slice_range, AllByRecursion}
use Rattle.std.specs.Str.Lines.{lines}
use Rattle.std.proofs.lemmas.List.{append-nil, drop-drop, length-drop, map-append, take_all, drop_all}
use Rattle.std.proofs.Math.Seq.{take-add}
use Rattle.cwr_record.specs.declared.control.Header.{Header}
use Rattle.cwr_grammar.specs.declared.role.Role.{Role}
use Rattle.cwr_grammar.specs.declared.role.Role.TheVariants.{FileHeader, GroupHeader, TransactionHeader, Detail, GroupTrailer, FileTrailer, Unnamed}
use Rattle.cwr_grammar.specs.declared.span.Open.{Open}
use Rattle.cwr_grammar.specs.declared.span.Span.{Span}
use Rattle.cwr_grammar.specs.File.{File, IsFile}
use Rattle.cwr_grammar.specs.RawParts.{RawParts}
use Rattle.cwr_grammar.specs.ReadUpTo.{IsNextLine}
use Rattle.cwr_grammar.specs.Spans.{closed, closed_by, opened_by, open_at, raw_at, raws_at, IsInside, IsLineAt, IsOpenAt, IsSpan, Placed}
use Rattle.cwr_grammar.specs.Submitted.{IsBounded, IsSubmission}
use Rattle.cwr_grammar.specs.Visiting as visiting
use Rattle.cwr_grammar.specs.Visiting.{WasGiven, open_after, whole_after, with_line}
use Rattle.cwr_grammar.proofs.FileTexts.{HasText, all_more, are_places, file_texts}

-- ---- bytes at a position

slice_more : (text : List ℕ) (s at n : ℕ) → s ≤ at → slice_range text s (at + n) ≡ slice_range text s at ++ take n (drop at text)
slice_more text s at n le =
    let e : at + n - s ≡ at - s + n = omega arith in
    let f : s + (at - s) ≡ at = omega arith in
    ap (λ (k : ℕ). take k (drop s text)) e ∙ take-add (at - s) n (drop s text) ∙ ap (λ (xs : List ℕ). take (at - s) (drop s text) ++ take n xs) (drop-drop (at - s) s text ∙ ap (λ (k : ℕ). drop k text) f)

slice_here : (text : List ℕ) (at n : ℕ) → slice_range text at (at + n) ≡ take n (drop at text)
slice_here text at n = let e : at + n - at ≡ n = omega arith in ap (λ (k : ℕ). take k (drop at text)) e

one_more : (text : List ℕ) (s at n : ℕ) (line : List ℕ) → s ≤ at → lines (take n (drop at text)) ≡ line ∷ [] → ((more : List ℕ) → lines (slice_range text s at ++ more) ≡ lines (slice_range text s at) ++ lines more)
    → lines (slice_range text s (at + n)) ≡ lines (slice_range text s at) ++ (line ∷ [])
one_more text s at n line le alone whole =
    ap lines (slice_more text s at n le) ∙ whole (take n (drop at text)) ∙ ap (λ (xs : List (List ℕ)). lines (slice_range text s at) ++ xs) alone

whole_more : (text : List ℕ) (s at n : ℕ) (line : List ℕ) → s ≤ at → lines (take n (drop at text)) ≡ line ∷ [] → ((more : List ℕ) → lines (take n (drop at text) ++ more) ≡ line ∷ lines more)
    → ((more : List ℕ) → lines (slice_range text s at ++ more) ≡ lines (slice_range text s at) ++ lines more)
    → (more : List ℕ) → lines (slice_range text s (at + n) ++ more) ≡ lines (slice_range text s (at + n)) ++ lines more
whole_more text s at n line le alone is whole more =
    ap (λ (xs : List ℕ). lines (xs ++ more)) (slice_more text s at n le)
    ∙ ap lines (append_assoc (slice_range text s at) (take n (drop at text)) more)
    ∙ whole (take n (drop at text) ++ more)
    ∙ ap (λ (xs : List (List ℕ)). lines (slice_range text s at) ++ xs) (is more)
    ∙ sym (append_assoc (lines (slice_range text s at)) (line ∷ []) (lines more))
    ∙ ap (λ (xs : List (List ℕ)). xs ++ lines more) (sym (one_more text s at n line le alone whole))

whole_here : (text : List ℕ) (at n : ℕ) (line : List ℕ) → lines (take n (drop at text)) ≡ line ∷ [] → ((more : List ℕ) → lines (take n (drop at text) ++ more) ≡ line ∷ lines more)
    → (more : List ℕ) → lines (slice_range text at (at + n) ++ more) ≡ lines (slice_range text at (at + n)) ++ lines more
whole_here text at n line alone is more =
    ap (λ (xs : List ℕ). lines (xs ++ more)) (slice_here text at n) ∙ is more ∙ ap (λ (xs : List (List ℕ)). xs ++ lines more) (sym (ap lines (slice_here text at n) ∙ alone))

-- ---- the open transaction

open_more : (text : List ℕ) (current : Option Open) (at n : ℕ) (line : List ℕ) → at < length text → IsLineAt line text at n → IsOpenAt text at current
    → option_map (with_line line) (open_at text at current) ≡ open_at text (at + n) current
open_more text None at n line lt is goes = refl
open_more text (Some o) at n line lt is goes =
    ap (λ (ls : List (List ℕ)). Some (record { group = o.group; sequence = o.sequence; kind = o.kind; lines = ls })) (sym (one_more text o.start at n line goes.0 is.alone (goes.1 lt)))

goes_more : (text : List ℕ) (current : Option Open) (at n : ℕ) (line : List ℕ) → at < length text → IsLineAt line text at n → IsOpenAt text at current → IsOpenAt text (at + n) current
goes_more text None at n line lt is goes = tt
goes_more text (Some o) at n line lt is goes = (omega (arith, goes.0), λ further. whole_more text o.start at n line goes.0 is.alone (is.whole further) (goes.1 lt))

closed_inside : (text : List ℕ) (current : Option Open) (at : ℕ) → at ≤ length text → IsOpenAt text at current → AllByRecursion (IsInside text) (closed at current)
closed_inside text None at le goes = tt
closed_inside text (Some o) at le goes = (record { forward = goes.0; within = le }, tt)

closed_is : (text : List ℕ) (spans : List Span) (current : Option Open) (at : ℕ) → visiting.closed (raws_at text spans) (open_at text at current) ≡ raws_at text (spans ++ closed at current)
closed_is text spans None at = ap (raws_at text) (sym (append-nil spans))
closed_is text spans (Some o) at = sym (map-append (raw_at text) spans (closed at (Some o)))

-- ---- a line of each role

-- it goes on with the open transaction
pub placed_detail : (text : List ℕ) (spans : List Span) (current : Option Open) (at n : ℕ) (line : List ℕ) (whole : List RawParts) (opened : Option RawParts) → at < length text → IsLineAt line text at n
    → Placed text spans current at whole opened → Placed text spans current (at + n) whole (option_map (with_line line) opened)
placed_detail text spans current at n line whole opened lt is h = record {
  inside = h.inside;
  goes = goes_more text current at n line lt is h.goes;
  whole_is = h.whole_is;
  opened_is = ap (option_map (with_line line)) h.opened_is ∙ open_more text current at n line lt is h.goes;
}

-- it ends the open transaction
between : (text : List ℕ) (spans : List Span) (current : Option Open) (at n : ℕ) (whole : List RawParts) (opened : Option RawParts) → at < length text
    → Placed text spans current at whole opened → Placed text (spans ++ closed at current) None (at + n) (visiting.closed whole opened) None
between text spans current at n whole opened lt h = record {
  inside = all_more (IsInside text) spans (closed at current) h.inside (closed_inside text current at (omega (arith, lt)) h.goes);
  goes = tt;
  whole_is = rw (h.whole_is, h.opened_is) (closed_is text spans current at);
  opened_is = refl;
}

-- and opens the next one
opens : (text : List ℕ) (spans : List Span) (current : Option Open) (at n : ℕ) (line : List ℕ) (whole : List RawParts) (opened : Option RawParts) (o : Open) → at < length text → IsLineAt line text at n → o.start ≡ at
    → Placed text spans current at whole opened
    → Placed text (spans ++ closed at current) (Some o) (at + n) (visiting.closed whole opened) (Some (record { group = o.group; sequence = o.sequence; kind = o.kind; lines = line ∷ [] }))
opens text spans current at n line whole opened o lt is starts h =
    let ended = between text spans current at n whole opened lt h in
    record {
      inside = ended.inside;
      goes = rw starts (omega arith, λ further. whole_here text at n line is.alone (is.whole further));
      whole_is = ended.whole_is;
      opened_is = rw starts (ap (λ (ls : List (List ℕ)). Some (record { group = o.group; sequence = o.sequence; kind = o.kind; lines = ls })) (sym (ap lines (slice_here text at n) ∙ is.alone)));
    }

pub placed_after : (role : Role) (text : List ℕ) (spans : List Span) (current : Option Open) (g t at n : ℕ) (line : List ℕ) (whole : List RawParts) (opened : Option RawParts) → at < length text → IsLineAt line text at n
    → Placed text spans current at whole opened → Placed text (spans ++ closed_by role at current) (opened_by role at g t current) (at + n) (whole_after role whole opened) (open_after role line g t opened)
placed_after (Detail j d) text spans current g t at n line whole opened lt is h =
    subst (λ (xs : List Span). Placed text xs current (at + n) whole (option_map (with_line line) opened)) (sym (append-nil spans)) (placed_detail text spans current at n line whole opened lt is h)
placed_after (TransactionHeader (Some kind) j d) text spans current g t at n line whole opened lt is h =
    opens text spans current at n line whole opened (record { start = at; group = g; sequence = t; kind = kind }) lt is refl h
placed_after (TransactionHeader None j d) text spans current g t at n line whole opened lt is h = between text spans current at n whole opened lt h
placed_after (FileHeader valid) text spans current g t at n line whole opened lt is h = between text spans current at n whole opened lt h
placed_after (GroupHeader kind i) text spans current g t at n line whole opened lt is h = between text spans current at n whole opened lt h
placed_after (GroupTrailer i a b) text spans current g t at n line whole opened lt is h = between text spans current at n whole opened lt h
placed_after (FileTrailer a b c) text spans current g t at n line whole opened lt is h = between text spans current at n whole opened lt h
placed_after Unnamed text spans current g t at n line whole opened lt is h = between text spans current at n whole opened lt h

-- a line after the file's end has no place
pub placed_tail : (text : List ℕ) (spans : List Span) (current : Option Open) (at n : ℕ) (whole : List RawParts) → Placed text spans current at whole None → Placed text spans current (at + n) whole None
placed_tail text spans None at n whole h = record { inside = h.inside; goes = tt; whole_is = h.whole_is; opened_is = refl }
placed_tail text spans (Some o) at n whole h = absurd (let both = h.opened_is in cc)

-- ---- a slice's first line

pub next_here : (text rest line : List ℕ) (at n : ℕ) → rest ≡ drop at text → 0 < n → n ≤ length rest → at ≤ length text → lines rest ≡ line ∷ lines (drop n rest) → IsNextLine line text at n
next_here text rest line at n is some fits inside split = record {
  split = ap lines (sym is) ∙ split ∙ ap (λ (xs : List ℕ). line ∷ lines xs) (ap (drop n) is ∙ drop-drop n at text);
  some = some;
  inside = omega (arith, fits, inside, ap (λ (xs : List ℕ). length xs) is, length-drop at text);
}

line_at : (rest line : List ℕ) (n : ℕ) → lines rest ≡ line ∷ lines (drop n rest) → (length rest ≤ n) ⊎ ((more : List ℕ) → lines (take n rest ++ more) ≡ line ∷ lines more) → lines (take n rest) ≡ line ∷ []
line_at rest line n split (inl le) = ap lines (take_all n rest le) ∙ split ∙ ap (λ (xs : List ℕ). line ∷ lines xs) (drop_all n rest le)
line_at rest line n split (inr is) = ap lines (sym (append-nil (take n rest))) ∙ is []

goes_past : (text rest line : List ℕ) (at n : ℕ) → rest ≡ drop at text → (length rest ≤ n) ⊎ ((more : List ℕ) → lines (take n rest ++ more) ≡ line ∷ lines more) → at + n < length text → (more : List ℕ) → lines (take n rest ++ more) ≡ line ∷ lines more
goes_past text rest line at n is (inl le) further = absurd (omega (arith, le, further, ap (λ (xs : List ℕ). length xs) is, length-drop at text))
goes_past text rest line at n is (inr whole) further = whole

pub line_here : (text rest line : List ℕ) (at n : ℕ) → rest ≡ drop at text → lines rest ≡ line ∷ lines (drop n rest) → (length rest ≤ n) ⊎ ((more : List ℕ) → lines (take n rest ++ more) ≡ line ∷ lines more) → IsLineAt line text at n
line_here text rest line at n is split whole = record {
  alone = ap (λ (xs : List ℕ). lines (take n xs)) (sym is) ∙ line_at rest line n split whole;
  whole = λ further more. ap (λ (xs : List ℕ). lines (take n xs ++ more)) (sym is) ∙ goes_past text rest line at n is whole further more;
}

-- ---- the whole file

pub record IsPlacedFile (text : List ℕ) (spans : List Span) (head : Header) (group_count record_count : ℕ) : Type 0 where
  pub spans_are : AllByRecursion (IsSpan text) spans
  pub found : (f : File) × IsFile (lines text) f × IsSubmission f head (raws_at text spans) group_count record_count
  pub bounds : IsBounded (length text) head (raws_at text spans)

pub placed_file : (text : List ℕ) (spans : List Span) (current : Option Open) (at : ℕ) (head : Header) (group_count record_count : ℕ) → WasGiven (λ _. Placed text spans current at) text head group_count record_count
    → IsPlacedFile text spans head group_count record_count
placed_file text spans current at head group_count record_count given =
    let is = given.kept.whole_is in
    let texts = subst (λ (ts : List RawParts). AllByRecursion HasText ts) (sym given.submission.transactions ∙ is) (file_texts (lines text) given.file given.formed) in
    record {
      spans_are = are_places text spans given.kept.inside texts;
      found = (given.file, given.formed, subst (λ (ts : List RawParts). IsSubmission given.file head ts group_count record_count) is given.submission);
      bounds = subst (λ (ts : List RawParts). IsBounded (length text) head ts) is given.bounds;
    }
