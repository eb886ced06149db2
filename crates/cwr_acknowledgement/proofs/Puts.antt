-- A text that goes out piece after piece: one text after another.
use Rattle.std.proofs.Common.{◌≡◌, ◌∙◌, ℕ, ◌+◌, ◌*◌, ◌≤◌, List, [], ◌++◌, length, take, drop, Result, Ok, Err, Option, arith, ap, sym, refl, subst, append_assoc, length-append, append-nil}
use Rattle.std.proofs.Math.Seq.{take-add}
use Rattle.std.proofs.lemmas.List.{take-append-le, take_at, drop_at}
use Rattle.std.proofs.KnownBytes.{Appends-nil, Appends-trans}
use Rattle.std.specs.Prelude.{IsErrAnd}
use Rattle.std.specs.Io.KnownBytes.{Appends}
use Rattle.byte_streams.specs.declared.sink.WriteStopped.{WriteStopped}
use Rattle.cwr_acknowledgement.specs.Outgoing.{OutgoingState, Puts, Cuts, IsPut, size_of}

-- how many bytes there are after a text was put
pub size_after : (a b : Option (List ℕ)) (x y : OutgoingState) (n : ℕ) (text : List ℕ) → Puts a b x y n text → size_of y ≤ size_of x + 187 * n
size_after a b x y n text p =
    let whole : length x.held + length text ≡ length p.gone + length y.held =
    sym (length-append x.held text) ∙ ap length p.whole ∙ length-append p.gone y.held in
    let counted = p.counted in
    let short = p.short in
    omega (arith, whole, counted, short)

-- one text and then another
pub Puts-trans : (a b c : Option (List ℕ)) (x y z : OutgoingState) (n m : ℕ) (s t : List ℕ) → Puts a b x y n s → Puts b c y z m t → Puts a c x z (n + m) (s ++ t)
Puts-trans a b c x y z n m s t p q = record {
  gone = p.gone ++ q.gone;
  whole =
      sym (append_assoc x.held s t) ∙ ap (λ l. l ++ t) p.whole ∙ append_assoc p.gone y.held t ∙ ap (λ l. p.gone ++ l) q.whole
      ∙ sym (append_assoc p.gone q.gone z.held);
  taken = Appends-trans a b c p.gone q.gone p.taken q.taken;
  counted = let l = length-append p.gone q.gone in let f = p.counted in let g = q.counted in omega (arith, l, f, g);
  short = let l = length-append s t in let f = p.short in let g = q.short in omega (arith, l, f, g);
}

-- the front of what is held and a text, behind what went out
take_behind : (gone held : List ℕ) (k : ℕ) → take (length gone + k) (gone ++ held) ≡ gone ++ take k held
take_behind gone held k =
    take-add (length gone) k (gone ++ held) ∙ ap (λ l. l ++ take k (drop (length gone) (gone ++ held))) (take_at gone held (length gone) refl)
    ∙ ap (λ l. gone ++ take k l) (drop_at gone held (length gone) refl)

-- one text, and then a write stopped in another
pub Cuts-then : (a b c : Option (List ℕ)) (x y : OutgoingState) (n sent : ℕ) (s t : List ℕ) → Puts a b x y n s → Cuts b c y sent t → Cuts a c x sent (s ++ t)
Cuts-then a b c x y n sent s t p q =
    let whole : x.held ++ (s ++ t) ≡ p.gone ++ (y.held ++ t) =
    sym (append_assoc x.held s t) ∙ ap (λ l. l ++ t) p.whole ∙ append_assoc p.gone y.held t in
    record {
      more = length p.gone + q.more;
      counted = let f = p.counted in let g = q.counted in omega (arith, f, g);
      first =
          subst (Appends a c) (sym (ap (take (length p.gone + q.more)) whole ∙ take_behind p.gone (y.held ++ t) q.more))
          (Appends-trans a b c p.gone (take q.more (y.held ++ t)) p.taken q.first);
      fewer = let l = ap length whole ∙ length-append p.gone (y.held ++ t) in let f = q.fewer in omega (arith, l, f);
    }

-- a write stopped, and another text was still to come
pub Cuts-more : (a b : Option (List ℕ)) (x : OutgoingState) (sent : ℕ) (s t : List ℕ) → Cuts a b x sent s → Cuts a b x sent (s ++ t)
Cuts-more a b x sent s t p =
    let whole = append_assoc x.held s t in
    let len = length-append (x.held ++ s) t in
    record {
      more = p.more;
      counted = p.counted;
      first = subst (Appends a b) (sym (ap (take p.more) (sym whole) ∙ take-append-le p.more (x.held ++ s) t (let f = p.fewer in omega (arith, f)))) p.first;
      fewer = let f = p.fewer in let l = ap length whole in omega (arith, f, l, len);
    }

-- one text was put, and another was put then or stopped
pub then_put : (r : Result (Unit {0}) WriteStopped) (a b c : Option (List ℕ)) (x y z : OutgoingState) (n m : ℕ) (s t : List ℕ)
    → Puts a b x y n s → IsPut r b c y z m t → IsPut r a c x z (n + m) (s ++ t)
then_put (Ok u) a b c x y z n m s t p q = Puts-trans a b c x y z n m s t p q
then_put (Err e) a b c x y z n m s t p q = Cuts-then a b c x y n e.sent s t p q

-- nothing was put so far
pub Puts-nil : (a : Option (List ℕ)) (x : OutgoingState) → Puts a a x x 0 []
Puts-nil a x = record { gone = []; whole = append-nil x.held; taken = Appends-nil a; counted = omega arith; short = omega arith }

-- nothing was put but what went out, and then a line behind what is held
pub line_put : (a b : Option (List ℕ)) (x y z : OutgoingState) (room text : List ℕ) → Puts a b x y 0 [] → z.held ≡ y.held ++ room → z.sent ≡ y.sent
    → room ≡ text → length room ≤ 187 → Puts a b x z 1 text
line_put a b x y z room text p held sent is short = record {
  gone = p.gone;
  whole =
      ap (λ l. x.held ++ l) (sym is) ∙ ap (λ l. l ++ room) (sym (append-nil x.held) ∙ p.whole) ∙ append_assoc p.gone y.held room
      ∙ ap (λ l. p.gone ++ l) (sym held);
  taken = p.taken;
  counted = sent ∙ p.counted;
  short = let len = ap length is in omega (arith, short, len);
}

-- what a put says of the state before it speaks of what was held and of what went out, and of no line
pub put_from : (r : Result (Unit {0}) WriteStopped) (a b : Option (List ℕ)) (w x y : OutgoingState) (n : ℕ) (s t : List ℕ)
    → IsPut r a b w y n s → w.held ≡ x.held → w.sent ≡ x.sent → s ≡ t → IsPut r a b x y n t
put_from (Ok u) a b w x y n s t p h e q = record {
  gone = p.gone;
  whole = ap (λ l. l ++ t) (sym h) ∙ ap (λ l. w.held ++ l) (sym q) ∙ p.whole;
  taken = p.taken;
  counted = let c = p.counted in omega (arith, c, e);
  short = let l = ap length q in let f = p.short in omega (arith, l, f);
}
put_from (Err o) a b w x y n s t p h e q =
    let same : w.held ++ s ≡ x.held ++ t = ap (λ l. l ++ s) h ∙ ap (λ l. x.held ++ l) q in
    record {
      more = p.more;
      counted = let c = p.counted in omega (arith, c, e);
      first = subst (λ l. Appends a b (take p.more l)) same p.first;
      fewer = let l = ap length same in let f = p.fewer in omega (arith, l, f);
    }

-- the first part of a text was put, and what is left makes it whole
pub record PutsFront (a b : Option (List ℕ)) (x y : OutgoingState) (lines : ℕ) (left whole : List ℕ) : Type 0 where
  pub text : List ℕ
  pub put : Puts a b x y lines text
  pub rest : text ++ left ≡ whole

pub front_none : (a : Option (List ℕ)) (x : OutgoingState) (whole : List ℕ) → PutsFront a a x x 0 whole whole
front_none a x whole = record { text = []; put = Puts-nil a x; rest = refl }

-- the next part was put too
pub front_more : (a b c : Option (List ℕ)) (x y z : OutgoingState) (n m k : ℕ) (part left rest whole : List ℕ)
    → PutsFront a b x y n left whole → left ≡ part ++ rest → k ≡ n + m → Puts b c y z m part → PutsFront a c x z k rest whole
front_more a b c x y z n m k part left rest whole p begins count q = record {
  text = p.text ++ part;
  put = subst (λ (i : ℕ). Puts a c x z i (p.text ++ part)) (sym count) (Puts-trans a b c x y z n m p.text part p.put q);
  rest = append_assoc p.text part rest ∙ ap (λ l. p.text ++ l) (sym begins) ∙ p.rest;
}

-- a write stopped in the next part
pub front_cut : (a b c : Option (List ℕ)) (x y : OutgoingState) (n sent : ℕ) (part left rest whole : List ℕ)
    → PutsFront a b x y n left whole → left ≡ part ++ rest → Cuts b c y sent part → Cuts a c x sent whole
front_cut a b c x y n sent part left rest whole p begins q =
    subst (Cuts a c x sent) (append_assoc p.text part rest ∙ ap (λ l. p.text ++ l) (sym begins) ∙ p.rest)
    (Cuts-more a c x sent (p.text ++ part) rest (Cuts-then a b c x y n sent p.text part p.put q))

-- a stopped write that is handed on
pub cut_put : (r : Result (Unit {0}) WriteStopped) (e : WriteStopped) (a b : Option (List ℕ)) (x y : OutgoingState) (n : ℕ) (t : List ℕ)
    → IsErrAnd r (λ o. o ≡ e) → Cuts a b x e.sent t → IsPut r a b x y n t
cut_put (Ok u) e a b x y n t is p = absurd is
cut_put (Err o) e a b x y n t is p = subst (λ (w : WriteStopped). Cuts a b x w.sent t) (sym is) p

-- one text was put, and another was put then or stopped: both are the whole
pub then_whole : (r : Result (Unit {0}) WriteStopped) (a b c : Option (List ℕ)) (x y z : OutgoingState) (n m k : ℕ) (s t whole : List ℕ)
    → Puts a b x y n s → IsPut r b c y z m t → n + m ≡ k → s ++ t ≡ whole → IsPut r a c x z k whole
then_whole r a b c x y z n m k s t whole p q count all =
    subst (λ (i : ℕ). IsPut r a c x z i whole) count (subst (IsPut r a c x z (n + m)) all (then_put r a b c x y z n m s t p q))

-- a text of five parts
module _ (head group items end last whole : List ℕ) (all : head ++ (group ++ (items ++ (end ++ last))) ≡ whole) where
  pub cut_first : (a b : Option (List ℕ)) (x : OutgoingState) (sent : ℕ) → Cuts a b x sent head → Cuts a b x sent whole
  cut_first a b x sent p = subst (Cuts a b x sent) all (Cuts-more a b x sent head (group ++ (items ++ (end ++ last))) p)

  pub cut_second : (a b c : Option (List ℕ)) (x y : OutgoingState) (n sent : ℕ) → Puts a b x y n head → Cuts b c y sent group → Cuts a c x sent whole
  cut_second a b c x y n sent p q =
      subst (Cuts a c x sent) all (Cuts-then a b c x y n sent head (group ++ (items ++ (end ++ last))) p (Cuts-more b c y sent group (items ++ (end ++ last)) q))

  pub cut_third : (a b c d : Option (List ℕ)) (x y z : OutgoingState) (n m sent : ℕ) → Puts a b x y n head → Puts b c y z m group → Cuts c d z sent items → Cuts a d x sent whole
  cut_third a b c d x y z n m sent p q r =
      subst (Cuts a d x sent) all
      (Cuts-then a b d x y n sent head (group ++ (items ++ (end ++ last))) p
      (Cuts-then b c d y z m sent group (items ++ (end ++ last)) q (Cuts-more c d z sent items (end ++ last) r)))

  pub cut_fourth : (a b c d e : Option (List ℕ)) (x y z w : OutgoingState) (n m k sent : ℕ)
      → Puts a b x y n head → Puts b c y z m group → Puts c d z w k items → Cuts d e w sent end → Cuts a e x sent whole
  cut_fourth a b c d e x y z w n m k sent p q r s =
      subst (Cuts a e x sent) all
      (Cuts-then a b e x y n sent head (group ++ (items ++ (end ++ last))) p
      (Cuts-then b c e y z m sent group (items ++ (end ++ last)) q
      (Cuts-then c d e z w k sent items (end ++ last) r (Cuts-more d e w sent end last s))))

  pub all_put : (o : Result (Unit {0}) WriteStopped) (a b c d e f : Option (List ℕ)) (x y z w v u : OutgoingState) (k : ℕ)
      → Puts a b x y 1 head → Puts b c y z 1 group → Puts c d z w k items → Puts d e w v 1 end → IsPut o e f v u 1 last → IsPut o a f x u (4 + k) whole
  all_put o a b c d e f x y z w v u k p q r s t =
      then_whole o a b f x y u 1 (1 + (k + (1 + 1))) (4 + k) head (group ++ (items ++ (end ++ last))) whole p
      (then_put o b c f y z u 1 (k + (1 + 1)) group (items ++ (end ++ last)) q
      (then_put o c d f z w u k (1 + 1) items (end ++ last) r (then_put o d e f w v u 1 1 end last s t))) (omega arith) all
