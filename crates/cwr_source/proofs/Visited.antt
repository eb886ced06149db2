-- A file that a visitor is given while its source is read.
use Rattle.std.proofs.Common.{◌≡◌, ◌∙◌, ℕ, ◌+◌, ◌≤◌, ◌<◌, ◌^◌, Bool, List, [], ◌++◌, length, take, drop, Option, None, refl, sym, ap, subst, arith, append_assoc, length-append}
use Rattle.std.proofs.lemmas.List.{take-append-drop, drop_at, length-take-le}
use Rattle.std.specs.Prelude.{IfOk}
use Rattle.std.specs.declared.result.Result.{Result}
use Rattle.std.specs.declared.result.Result.TheVariants.{Ok, Err}
use Rattle.std.specs.Str.Lines.{lines}
use Rattle.byte_streams.specs.Consuming.{IsUnconsumed}
use Rattle.byte_streams.specs.declared.consuming.ConsumeError.{ConsumeError}
use Rattle.byte_streams.specs.declared.consuming.ConsumeError.TheVariants as consumed
use Rattle.byte_streams.specs.declared.reading.ReadRefused.TheVariants as unread
use Rattle.cwr_grammar.specs.RawParts.{RawParts}
use Rattle.cwr_record.specs.declared.control.Header.{Header}
use Rattle.cwr_grammar.specs.ReadUpTo.{ReaderState, IsReadUpTo, StandsAt, at_start}
use Rattle.cwr_grammar.specs.Submitted.{IsRefusal}
use Rattle.cwr_grammar.specs.declared.refusal.FileRefusal.{FileRefusal}
use Rattle.cwr_grammar.specs.declared.refusal.FileRefusal.TheVariants as file
use Rattle.cwr_grammar.proofs.lemmas.Starts.{starts}
use Rattle.cwr_source.specs.Input.{IsUnjudged}
use Rattle.cwr_source.specs.Source.{HasLeft, answer_for, is_memory}

-- what a visitor keeps
abbrev pub Keeps : Type 1
Keeps = Option Header → List RawParts → Option RawParts → Type 0

-- nothing is passed at first
pub nothing_passed : (K : Keeps) (reader : ReaderState) (text : List ℕ) → reader ≡ at_start → K None [] None → HasLeft K reader text text
nothing_passed K reader text is kept = record { passed = []; text_is = refl; lines_read = rw is (starts K text kept) }

module _ (K : Keeps) (reader : ReaderState) (text chunk later : List ℕ) (h : HasLeft K reader text (chunk ++ later)) where
  -- the piece stands in the text
  pub stands : StandsAt chunk text (length h.passed)
  stands = record { after = later; here = ap (λ (xs : List ℕ). drop (length h.passed) xs) h.text_is ∙ drop_at h.passed (chunk ++ later) (length h.passed) refl }

  -- where it ends
  pub few : (limit : ℕ) → limit < 4611686018427387904 → length text ≤ limit + length later → length h.passed + length chunk < 2 ^ 63
  few limit small long =
      let all = ap length h.text_is in
      let a = length-append h.passed (chunk ++ later) in
      let b = length-append chunk later in
      omega (arith, small, long, all, a, b)

  -- some of it is passed
  pub passes : (L : Keeps) (next : ReaderState) (n : ℕ) → n ≤ length chunk → IsReadUpTo L next text (length h.passed + n) → HasLeft L next text (drop n chunk ++ later)
  passes L next n inside read =
      let front : List ℕ = take n chunk in
      let long : length (h.passed ++ front) ≡ length h.passed + n = length-append h.passed front ∙ ap (λ (k : ℕ). length h.passed + k) (length-take-le n chunk inside) in
      record {
        passed = h.passed ++ front;
        text_is =
            h.text_is ∙ ap (λ (xs : List ℕ). h.passed ++ (xs ++ later)) (sym (take-append-drop n chunk))
            ∙ ap (λ (xs : List ℕ). h.passed ++ xs) (append_assoc front (drop n chunk) later) ∙ sym (append_assoc h.passed front (drop n chunk ++ later));
        lines_read = subst (λ (k : ℕ). IsReadUpTo L next text k) (sym long) read;
      }

-- ---- the rest

pub ends_with : (K : Keeps) (reader : ReaderState) (text rest : List ℕ) → (h : HasLeft K reader text rest) → drop (length h.passed) text ≡ rest
ends_with K reader text rest h = ap (λ (xs : List ℕ). drop (length h.passed) xs) h.text_is ∙ drop_at h.passed rest (length h.passed) refl

pub few_left : (K : Keeps) (reader : ReaderState) (text rest : List ℕ) (limit : ℕ) → (h : HasLeft K reader text rest) → limit < 4611686018427387904 → length text ≤ limit → length h.passed + length rest < 2 ^ 63
few_left K reader text rest limit h small long =
    let all = ap length h.text_is in
    let a = length-append h.passed rest in
    omega (arith, small, long, all, a)

-- what follows from two things that hold of an answer
pub ok_of : {T E : Type 0} {P Q R : T → Type 0} (r : Result T E) → ((x : T) → P x → Q x → R x) → IfOk r P → IfOk r Q → IfOk r R
ok_of (Ok x) f p q = f x p q
ok_of (Err e) f p q = tt

-- why a file was not consumed is why it is not judged
pub unjudged : (limit : ℕ) (left : Option (List ℕ)) (failed : Bool) (why : ConsumeError FileRefusal)
    → IsUnconsumed (λ (refusal : FileRefusal) (text : List ℕ). IsRefusal (lines text) refusal) is_memory limit left failed why → IsUnjudged limit left failed (answer_for why)
unjudged limit left failed (consumed.Unread unread.Memory) h = tt
unjudged limit left failed (consumed.Unread unread.Read) h = h
unjudged limit left failed (consumed.Unread unread.TooLong) h = h.1
unjudged limit left failed (consumed.Refused file.Memory) h = tt
unjudged limit left failed (consumed.Refused (file.Fault number line)) h = let t = h.2 in (t.0, (t.2, t.1), t.3)
