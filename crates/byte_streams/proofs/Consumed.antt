-- A text that is consumed as it comes: what was read so far.
use Rattle.std.proofs.Common.{◌≡◌, ◌∙◌, ℕ, ◌+◌, ◌≤◌, Bool, true, false, List, [], ◌++◌, length, take, drop, Option, IfSome, refl, sym, ap, subst, arith, append_assoc, append-nil, length-append, take-append-drop}
use Rattle.std.specs.Io.KnownBytes.{Consumes, IsAtEnd}
use Rattle.byte_streams.specs.Consuming.{IsAnswerTo, IsUnconsumed}
use Rattle.byte_streams.specs.Window.{WindowState, HasRead, IsStopped}
use Rattle.byte_streams.specs.declared.consuming.ConsumeError.{ConsumeError}
use Rattle.byte_streams.specs.declared.consuming.ConsumeError.TheVariants.{Unread, Refused}
use Rattle.byte_streams.specs.declared.reading.ReadRefused.{ReadRefused}
use Rattle.byte_streams.specs.declared.reading.ReadRefused.TheVariants.{Memory, Read, TooLong}
use Rattle.byte_streams.proofs.lemmas.Given.{all_given, both, more_given, none_given}

-- what a consumer knows: of which text these bytes are left
abbrev pub Left : Type 1
Left = List ℕ → List ℕ → Type 0

-- the bytes that are passed were consumed, those behind them are held
pub record IsTaking (has_left : Left) (window : WindowState) (limit : ℕ) (before after : Option (List ℕ)) : Type 0 where
  pub passed : List ℕ
  pub consumed : Consumes before after (passed ++ window.held)
  pub read : window.read ≡ length (passed ++ window.held)
  pub left : (rest : List ℕ) → has_left (passed ++ (window.held ++ rest)) (window.held ++ rest)
  pub limit_is : window.limit ≡ limit
  pub within : window.read ≤ limit
  pub at_end : window.is_ended ≡ true → IsAtEnd after

pub taking_starts : (s : Left) (window : WindowState) (limit : ℕ) (a : Option (List ℕ)) → ((text : List ℕ) → s text text)
    → window ≡ record { held = []; read = 0; limit = limit; is_ended = false } → IsTaking s window limit a a
taking_starts s window limit a first w =
    let Q : WindowState → Type 0 = λ v. IsTaking s v limit a a in
    subst Q (sym w) (record {
      passed = [];
      consumed = none_given a;
      read = refl;
      left = λ rest. first rest;
      limit_is = refl;
      within = omega arith;
      at_end = λ ended. absurd (let never : false ≡ true = ended in cc);
    })

-- how long the text with a rest is
pub long_with : (s : Left) (w : WindowState) (limit : ℕ) (a b : Option (List ℕ)) (rest : List ℕ) → (i : IsTaking s w limit a b) → length (i.passed ++ (w.held ++ rest)) ≤ limit + length rest
long_with s w limit a b rest i =
    let read = i.read in
    let within = i.within in
    let cut = ap length (append_assoc i.passed w.held rest) in
    let sum = length-append (i.passed ++ w.held) rest in
    omega (arith, read, within, cut, sum)

-- the bytes between those that are passed and what follows, cut at another place
cut_on : (passed held chunk : List ℕ) (n : ℕ) → (passed ++ held) ++ chunk ≡ (passed ++ take n held) ++ (drop n held ++ chunk)
cut_on passed held chunk n =
    ap (λ (xs : List ℕ). (passed ++ xs) ++ chunk) (sym (take-append-drop n held))
    ∙ ap (λ (xs : List ℕ). xs ++ chunk) (sym (append_assoc passed (take n held) (drop n held)))
    ∙ append_assoc (passed ++ take n held) (drop n held) chunk

pub taking_goes : (s t : Left) (w v u : WindowState) (limit n : ℕ) (a b c : Option (List ℕ)) (chunk : List ℕ) → IsTaking s w limit a b → v ≡ record w { held = drop n w.held } → HasRead v u b c chunk
    → ((text later : List ℕ) → s text (w.held ++ later) → t text (drop n w.held ++ later)) → IsTaking t u limit a c
taking_goes s t w v u limit n a b c chunk i pass h on =
    let held : u.held ≡ drop n w.held ++ chunk = h.held ∙ ap (λ (x : WindowState). x.held ++ chunk) pass in
    let cut = cut_on i.passed w.held chunk n in
    let limit_is : u.limit ≡ limit = h.limit ∙ ap (λ (x : WindowState). x.limit) pass ∙ i.limit_is in
    let passed = i.passed ++ take n w.held in
    let whole : (i.passed ++ w.held) ++ chunk ≡ passed ++ u.held = cut ∙ ap (λ (xs : List ℕ). passed ++ xs) (sym held) in
    let P : List ℕ → Type 0 = λ xs. Consumes a c xs in
    let read = h.read in
    let read_on = ap (λ (x : WindowState). x.read) pass in
    let so_far = i.read in
    let sum = length-append (i.passed ++ w.held) chunk in
    let long = ap length whole in
    let within = h.within in
    record {
      passed = passed;
      consumed = subst P whole (both a b c (i.passed ++ w.held) chunk i.consumed h.consumed);
      read = omega (arith, read, read_on, so_far, sum, long);
      left = left held;
      limit_is = limit_is;
      within = omega (arith, within, limit_is);
      at_end = h.at_end;
    }
  where
    left : u.held ≡ drop n w.held ++ chunk → (rest : List ℕ) → t ((i.passed ++ take n w.held) ++ (u.held ++ rest)) (u.held ++ rest)
    left held rest =
        let ends : drop n w.held ++ (chunk ++ rest) ≡ u.held ++ rest = sym (append_assoc (drop n w.held) chunk rest) ∙ ap (λ (xs : List ℕ). xs ++ rest) (sym held) in
        let text : i.passed ++ (w.held ++ (chunk ++ rest)) ≡ (i.passed ++ take n w.held) ++ (u.held ++ rest) =
        sym (append_assoc i.passed w.held (chunk ++ rest)) ∙ cut_on i.passed w.held (chunk ++ rest) n ∙ ap (λ (xs : List ℕ). (i.passed ++ take n w.held) ++ xs) ends in
        let P : List ℕ → Type 0 = λ xs. t xs (u.held ++ rest) in
        let Q : List ℕ → Type 0 = λ xs. t (i.passed ++ (w.held ++ (chunk ++ rest))) xs in
        subst P text (subst Q ends (on (i.passed ++ (w.held ++ (chunk ++ rest))) (chunk ++ rest) (i.left (chunk ++ rest))))

-- ---- what is answered

-- at the end, of the whole text the bytes that are held are left
pub left_at_end : (s : Left) (w : WindowState) (limit : ℕ) (a b : Option (List ℕ)) → (i : IsTaking s w limit a b) → s (i.passed ++ w.held) w.held
left_at_end s w limit a b i =
    let L : List ℕ → Type 0 = λ xs. s xs w.held in
    let R : List ℕ → Type 0 = λ xs. s (i.passed ++ (w.held ++ [])) xs in
    subst L (ap (λ (xs : List ℕ). i.passed ++ xs) (append-nil w.held)) (subst R (append-nil w.held) (i.left []))

pub all_taken : (s : Left) (w : WindowState) (limit : ℕ) (a b : Option (List ℕ)) (P : List ℕ → Type 0) → IsTaking s w limit a b → w.is_ended ≡ true
    → ((text : List ℕ) → s text w.held → P text) → (text : List ℕ) × IfSome a (λ bytes. text ≡ bytes) × (length text ≤ limit) × P text
all_taken s w limit a b P i ended is =
    let read = i.read in
    let within = i.within in
    (i.passed ++ w.held, all_given a b (i.passed ++ w.held) i.consumed (i.at_end ended), omega (arith, read, within), is (i.passed ++ w.held) (left_at_end s w limit a b i))

module _ {R : Type 0} (is_refusal : R → List ℕ → Type 0) (is_memory : R → Bool) where
  pub stopped_since : (s : Left) (w v : WindowState) (limit n : ℕ) (a b c : Option (List ℕ)) (failed : Bool) (why : ReadRefused) → IsTaking s w limit a b → v ≡ record w { held = drop n w.held }
      → IsStopped v b c failed why → IsUnconsumed is_refusal is_memory limit a failed (Unread why)
  stopped_since s w v limit n a b c failed Memory i pass h = h
  stopped_since s w v limit n a b c failed Read i pass h = h
  stopped_since s w v limit n a b c failed TooLong i pass h =
      let more = h.1.0 in
      let long = h.1.1.1 in
      let read = i.read in
      let read_on = ap (λ (x : WindowState). x.read) pass in
      let limit_is = i.limit_is in
      let limit_on = ap (λ (x : WindowState). x.limit) pass in
      let sum = length-append (i.passed ++ w.held) more in
      (h.0, more_given a c ((i.passed ++ w.held) ++ more) limit (both a b c (i.passed ++ w.held) more i.consumed h.1.1.0) (omega (arith, long, read, read_on, limit_is, limit_on, sum)))

  pub refused_since : (s : Left) (w : WindowState) (limit : ℕ) (a b c : Option (List ℕ)) (failed : Bool) (refusal : R) (why : ConsumeError R) → (i : IsTaking s w limit a b)
      → IsAnswerTo is_memory w b c failed refusal why → ((rest : List ℕ) → (w.is_ended ≡ true → rest ≡ []) → is_refusal refusal (i.passed ++ (w.held ++ rest)))
      → IsUnconsumed is_refusal is_memory limit a failed why
  refused_since s w limit a b c failed refusal (Unread why) i h is = stopped_since s w w limit 0 a b c failed why i refl h
  refused_since s w limit a b c failed refusal (Refused told) i h is =
      let rest = h.3.0 in
      let r = h.3.1 in
      let fits = r.fits in
      let read = i.read in
      let limit_is = i.limit_is in
      let sum = length-append (i.passed ++ w.held) rest in
      let P : List ℕ → Type 0 = λ xs. is_refusal refusal xs in
      let Q : R → Type 0 = λ x. IsUnconsumed is_refusal is_memory limit a failed (Refused x) in
      let more = (i.passed ++ w.held) ++ rest in
      let given = all_given a c more (both a b c (i.passed ++ w.held) rest i.consumed r.consumed) r.at_end in
      let long : length more ≤ limit = omega (arith, fits, read, limit_is, sum) in
      subst Q (sym h.1) (h.0, h.2, (more, given, long, subst P (sym (append_assoc i.passed w.held rest)) (is rest r.none)))
