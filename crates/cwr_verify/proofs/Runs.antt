-- Runs of entries: what an entry more does to them, from the back and from the front.
use Rattle.std.proofs.Common.{◌≡◌, ◌≢◌, ◌∙◌, inl, inr, ℕ, zero, suc, ◌+◌, ◌-◌, ◌<◌, ◌≤◌, List, [], ◌∷◌, ◌++◌, length, get_or, take, drop, Some, refl, sym, ap, subst, ⊎_elim, arith, append_assoc, append-nil}
use Rattle.std.specs.Prelude.{⊤, slice_get}
use Rattle.std.proofs.lemmas.Bool.{cases_eq}
use Rattle.std.proofs.lemmas.List.{drop_all, drop-drop}
use Rattle.std.proofs.lemmas.Option.{slice_get_read}
use Rattle.cwr_call.specs.CallValue.{CallValue}
use Rattle.work_registry.specs.EntryValue.{EntryValue}
use Rattle.work_registry.specs.Replay.{calls_of}
use Rattle.cwr_verify.proofs.Lists.{drop_here, item_at, take_here}
use Rattle.cwr_verify.specs.Run.{HasRun, IsRun}

-- ---- entries that have calls in order

-- with one entry more in front
pub one_before : (calls : List CallValue) (e : EntryValue) (history : List EntryValue) → HasRun calls history → HasRun calls (e ∷ history)
one_before [] e history has = tt
one_before (c ∷ calls) e history has = inr has

-- without the first call
pub one_less : (call : CallValue) (calls : List CallValue) (history : List EntryValue) → HasRun (call ∷ calls) history → HasRun calls history
one_less call [] history has = tt
one_less call (c ∷ calls) [] has = absurd has
one_less call (c ∷ calls) (e ∷ history) has =
    ⊎_elim
    (λ (here : (e.call ≡ call) × HasRun (c ∷ calls) history). one_before (c ∷ calls) e history here.1)
    (λ (there : HasRun (call ∷ c ∷ calls) history). one_before (c ∷ calls) e history (one_less call (c ∷ calls) history there))
    has

-- without the last calls
pub fewer : (calls : List CallValue) (history : List EntryValue) (n : ℕ) → HasRun calls history → HasRun (take n calls) history
fewer calls history zero has = tt
fewer [] history (suc n) has = tt
fewer (c ∷ calls) [] (suc n) has = absurd has
fewer (c ∷ calls) (e ∷ history) (suc n) has =
    ⊎_elim
    (λ (here : (e.call ≡ c) × HasRun calls history). inl (here.0, fewer calls history n here.1))
    (λ (there : HasRun (c ∷ calls) history). inr (fewer (c ∷ calls) history (suc n) there))
    has

-- of the entries behind some others
from_rest : (calls : List CallValue) (n : ℕ) (history : List EntryValue) → HasRun calls (drop n history) → HasRun calls history
from_rest calls zero history has = has
from_rest calls (suc n) [] has = has
from_rest calls (suc n) (e ∷ history) has = one_before calls e history (from_rest calls n history has)

pub from_later : (calls : List CallValue) (history : List EntryValue) (place other : ℕ) → place ≤ other → HasRun calls (drop other history) → HasRun calls (drop place history)
from_later calls history place other le has =
    let far : place + (other - place) ≡ other = omega (arith, le) in
    from_rest calls (other - place) (drop place history)
    (subst (λ (h : List EntryValue). HasRun calls h) (sym (drop-drop (other - place) place history ∙ ap (λ (n : ℕ). drop n history) far)) has)

-- calls have none of no entries
pub none_of_none : (calls : List CallValue) (n : ℕ) (history : List EntryValue) → n < length calls → history ≡ [] → HasRun (drop n calls) history → ⊥
none_of_none calls n history lt none has = go calls n lt (subst (λ (h : List EntryValue). HasRun (drop n calls) h) none has) where
  go : (calls : List CallValue) (n : ℕ) → n < length calls → HasRun (drop n calls) [] → ⊥
  go [] n lt has = omega (arith, lt)
  go (c ∷ calls) zero lt has = has
  go (c ∷ calls) (suc n) lt has = go calls n (omega (arith, lt)) has

-- a run is of entries that have the calls in order
pub run_has : (calls : List CallValue) (history run : List EntryValue) → IsRun calls history run → HasRun calls history
run_has [] history run is = tt
run_has (c ∷ calls) [] run is = absurd is
run_has (c ∷ calls) (e ∷ history) run is =
    ⊎_elim
    (λ (here : (e.call ≡ c) × (rest : List EntryValue) × (run ≡ e ∷ rest) × IsRun calls history rest). inl (here.0, run_has calls history here.1 here.3))
    (λ (there : (e.call ≡ c → ⊥) × IsRun (c ∷ calls) history run). inr (run_has (c ∷ calls) history run there.1))
    is

pub run_calls : (calls : List CallValue) (history run : List EntryValue) → IsRun calls history run → calls_of run ≡ calls
run_calls [] history run is = ap calls_of is
run_calls (c ∷ calls) [] run is = absurd is
run_calls (c ∷ calls) (e ∷ history) run is =
    ⊎_elim
    (λ (here : (e.call ≡ c) × (rest : List EntryValue) × (run ≡ e ∷ rest) × IsRun calls history rest).
    ap calls_of here.2 ∙ (λ i. here.0 i ∷ run_calls calls history here.1 here.3 i))
    (λ (there : (e.call ≡ c → ⊥) × IsRun (c ∷ calls) history run). run_calls (c ∷ calls) history run there.1)
    is

-- ---- from the back

-- The calls behind the first `left` ones have entries from `at` on, and no more calls than these have. Where none is left,
-- none of the places behind has entries with all.
pub record IsFoundBack (calls : List CallValue) (history : List EntryValue) (at left : ℕ) : Type 0 where
  pub within : at ≤ length history
  pub few : left ≤ length calls
  pub some : HasRun (drop left calls) (drop at history)
  pub none : (j : ℕ) → j < left → HasRun (drop j calls) (drop at history) → ⊥
  pub later : left ≡ 0 → (other : ℕ) → at < other → other ≤ length history → HasRun calls (drop other history) → ⊥

-- no entry yet
pub back_none : (calls : List CallValue) (history : List EntryValue) → IsFoundBack calls history (length history) (length calls)
back_none calls history = record {
  within = omega arith;
  few = omega arith;
  some = subst (λ (l : List CallValue). HasRun l (drop (length history) history)) (sym (drop_all (length calls) calls (omega arith))) tt;
  none = λ j lt has. none_of_none calls j (drop (length history) history) lt (drop_all (length history) history (omega arith)) has;
  later = λ _ other past within has. omega (arith, past, within);
}

-- a call that is not the last of those that are left has no entry in the next place
before_last : (calls : List CallValue) (history : List EntryValue) (at left j : ℕ) (e : EntryValue) → IsFoundBack calls history (at + 1) left
    → drop at history ≡ e ∷ drop (at + 1) history → j + 1 < left → HasRun (drop j calls) (drop at history) → ⊥
before_last calls history at left j e back is lt has =
    let call = item_at calls j (omega (arith, lt, back.few)) in
    let split : drop j calls ≡ call.0 ∷ drop (j + 1) calls = drop_here calls j call.0 call.1 in
    ⊎_elim
    (λ (here : (e.call ≡ call.0) × HasRun (drop (j + 1) calls) (drop (at + 1) history)). back.none (j + 1) lt here.1)
    (λ (there : HasRun (call.0 ∷ drop (j + 1) calls) (drop (at + 1) history)).
    back.none j (omega (arith, lt)) (subst (λ (l : List CallValue). HasRun l (drop (at + 1) history)) (sym split) there))
    (subst (λ (h : List EntryValue). HasRun (call.0 ∷ drop (j + 1) calls) h) is (subst (λ (l : List CallValue). HasRun l (drop at history)) split has))

-- an entry more, which has the last of the calls that are left
pub back_found : (calls : List CallValue) (history : List EntryValue) (at left : ℕ) (e : EntryValue) → slice_get history at ≡ Some e → slice_get calls left ≡ Some e.call
    → IsFoundBack calls history (at + 1) (left + 1) → IsFoundBack calls history at left
back_found calls history at left e entry call back =
    let is : drop at history ≡ e ∷ drop (at + 1) history = drop_here history at e entry in
    let split : drop left calls ≡ e.call ∷ drop (left + 1) calls = drop_here calls left e.call call in
    record {
      within = omega (arith, back.within);
      few = omega (arith, back.few);
      some = subst (λ (h : List EntryValue). HasRun (drop left calls) h) (sym is)
          (subst (λ (l : List CallValue). HasRun l (e ∷ drop (at + 1) history)) (sym split) (inl (refl, back.some)));
      none = λ j lt has. before_last calls history at (left + 1) j e back is (omega (arith, lt)) has;
      later = λ over other past within has.
          back.none 0 (omega (arith, over)) (from_later calls history (at + 1) other (omega (arith, past)) has);
    }

-- an entry more, which has it not
pub back_passed : (calls : List CallValue) (history : List EntryValue) (at left : ℕ) (e : EntryValue) → slice_get history at ≡ Some e → (slice_get calls left ≡ Some e.call → ⊥)
    → IsFoundBack calls history (at + 1) (left + 1) → IsFoundBack calls history at (left + 1)
back_passed calls history at left e entry other_call back =
    let is : drop at history ≡ e ∷ drop (at + 1) history = drop_here history at e entry in
    let call = item_at calls left (omega (arith, back.few)) in
    let split : drop left calls ≡ call.0 ∷ drop (left + 1) calls = drop_here calls left call.0 call.1 in
    let last : HasRun (drop left calls) (drop at history) → ⊥ = λ has.
    ⊎_elim
    (λ (here : (e.call ≡ call.0) × HasRun (drop (left + 1) calls) (drop (at + 1) history)). other_call (call.1 ∙ ap Some (sym here.0)))
    (λ (there : HasRun (call.0 ∷ drop (left + 1) calls) (drop (at + 1) history)).
    back.none left (omega arith) (subst (λ (l : List CallValue). HasRun l (drop (at + 1) history)) (sym split) there))
    (subst (λ (h : List EntryValue). HasRun (call.0 ∷ drop (left + 1) calls) h) is (subst (λ (l : List CallValue). HasRun l (drop at history)) split has)) in
    record {
      within = omega (arith, back.within);
      few = back.few;
      some = subst (λ (h : List EntryValue). HasRun (drop (left + 1) calls) h) (sym is) (one_before (drop (left + 1) calls) e (drop (at + 1) history) back.some);
      none = λ j lt has.
          ⊎_elim
          (λ (same : j ≡ left). last (subst (λ (n : ℕ). HasRun (drop n calls) (drop at history)) same has))
          (λ (sooner : j ≢ left). before_last calls history at (left + 1) j e back is (omega (arith, lt, sooner)) has)
          (cases_eq j left);
      later = λ over. absurd (omega (arith, over));
    }

-- one place on: the entry there has the last of the calls that are left, or has it not
pub found_at : (calls : List CallValue) (history : List EntryValue) (at left : ℕ) (e : EntryValue) → 0 < at → 0 < left → e ≡ get_or history (at - 1) e
    → slice_get calls (left - 1) ≡ Some e.call → IsFoundBack calls history at left → IsFoundBack calls history (at - 1) (left - 1)
found_at calls history at left e some_at some_left entry call back =
    let last_at : at ≡ at - 1 + 1 = omega (arith, some_at) in
    let last_left : left ≡ left - 1 + 1 = omega (arith, some_left) in
    let within = back.within in
    back_found calls history (at - 1) (left - 1) e (slice_get_read history (length history) (at - 1) e refl (omega (arith, some_at, within)) entry) call
    (subst (λ (n : ℕ). IsFoundBack calls history (at - 1 + 1) n) last_left (subst (λ (n : ℕ). IsFoundBack calls history n left) last_at back))

pub passed_at : (calls : List CallValue) (history : List EntryValue) (at left : ℕ) (e : EntryValue) → 0 < at → 0 < left → e ≡ get_or history (at - 1) e
    → (slice_get calls (left - 1) ≡ Some e.call → ⊥) → IsFoundBack calls history at left → IsFoundBack calls history (at - 1) left
passed_at calls history at left e some_at some_left entry other_call back =
    let last_at : at ≡ at - 1 + 1 = omega (arith, some_at) in
    let last_left : left ≡ left - 1 + 1 = omega (arith, some_left) in
    let within = back.within in
    subst (λ (n : ℕ). IsFoundBack calls history (at - 1) n) (sym last_left)
    (back_passed calls history (at - 1) (left - 1) e (slice_get_read history (length history) (at - 1) e refl (omega (arith, some_at, within)) entry) other_call
    (subst (λ (n : ℕ). IsFoundBack calls history (at - 1 + 1) n) last_left (subst (λ (n : ℕ). IsFoundBack calls history n left) last_at back)))

-- none of the places behind has entries with all calls
pub none_later : (calls : List CallValue) (history : List EntryValue) (at left : ℕ) → IsFoundBack calls history at left
    → (other : ℕ) → at < other → other ≤ length history → HasRun calls (drop other history) → ⊥
none_later calls history at left back other past within has =
    ⊎_elim
    (λ (over : left ≡ 0). back.later over other past within has)
    (λ (some : left ≢ 0). back.none 0 (omega (arith, some)) (from_later calls history at other (omega (arith, past)) has))
    (cases_eq left 0)

-- ---- from the front

-- it begins as these calls do
abbrev pub Begins : List CallValue → List CallValue → Type 0
Begins [] left = ⊤
Begins (x ∷ calls) left = slice_get left 0 ≡ Some x

-- how far the entries of calls are found in a history
pub record RunPart : Type 0 where
  -- the calls whose entries are found
  pub done : List CallValue
  -- the calls behind them
  pub left : List CallValue
  -- all entries
  pub history : List EntryValue
  -- the entries that are still to be seen
  pub behind : List EntryValue
  -- the entries that are found
  pub run : List EntryValue

-- The calls `done` have the entries `run`, so that the run of what goes on as the calls that are left is that of the entries
-- behind; and what has entries at all has them there.
pub record IsPartOfRun (part : RunPart) : Type 0 where
  pub made : (calls : List CallValue) (others : List EntryValue) → Begins calls part.left → IsRun calls part.behind others
      → IsRun (part.done ++ calls) part.history (part.run ++ others)
  pub only : (calls : List CallValue) → Begins calls part.left → HasRun (part.done ++ calls) part.history → HasRun calls part.behind

pub none_so_far : (left : List CallValue) (history : List EntryValue)
    → IsPartOfRun (record { done = []; left = left; history = history; behind = history; run = [] })
none_so_far left history = record { made = λ calls others begins is. is; only = λ calls begins has. has }

-- an entry more, which has the next call
pub one_found : (done left : List CallValue) (history behind run : List EntryValue) (e : EntryValue)
    → IsPartOfRun (record { done = done; left = e.call ∷ left; history = history; behind = e ∷ behind; run = run })
    → IsPartOfRun (record { done = done ++ e.call ∷ []; left = left; history = history; behind = behind; run = run ++ e ∷ [] })
one_found done left history behind run e so_far = record {
  made = λ calls others begins is.
      subst (λ (l : List CallValue). IsRun l history ((run ++ e ∷ []) ++ others)) (sym (append_assoc done (e.call ∷ []) calls))
      (subst (λ (r : List EntryValue). IsRun (done ++ e.call ∷ calls) history r) (sym (append_assoc run (e ∷ []) others))
      (so_far.made (e.call ∷ calls) (e ∷ others) refl (inl (refl, others, refl, is))));
  only = λ calls begins has.
      ⊎_elim
      (λ (here : (e.call ≡ e.call) × HasRun calls behind). here.1)
      (λ (there : HasRun (e.call ∷ calls) behind). one_less e.call calls behind there)
      (so_far.only (e.call ∷ calls) refl (subst (λ (l : List CallValue). HasRun l history) (append_assoc done (e.call ∷ []) calls) has));
}

-- an entry more, which has another one
pub one_passed : (done left : List CallValue) (history behind run : List EntryValue) (e : EntryValue) → (slice_get left 0 ≡ Some e.call → ⊥)
    → IsPartOfRun (record { done = done; left = left; history = history; behind = e ∷ behind; run = run })
    → IsPartOfRun (record { done = done; left = left; history = history; behind = behind; run = run })
one_passed done left history behind run e other so_far = record { made = made; only = only } where
  made : (calls : List CallValue) (others : List EntryValue) → Begins calls left → IsRun calls behind others → IsRun (done ++ calls) history (run ++ others)
  made [] others begins is = so_far.made [] others tt is
  made (x ∷ calls) others begins is = so_far.made (x ∷ calls) others begins (inr ((λ same. other (begins ∙ ap Some (sym same))), is))

  only : (calls : List CallValue) → Begins calls left → HasRun (done ++ calls) history → HasRun calls behind
  only [] begins has = tt
  only (x ∷ calls) begins has =
      ⊎_elim
      (λ (here : (e.call ≡ x) × HasRun calls behind). absurd (other (begins ∙ ap Some (sym here.0))))
      (λ (there : HasRun (x ∷ calls) behind). there)
      (so_far.only (x ∷ calls) begins has)

-- ---- so many of the calls are found, and so many entries seen

first_left : {X : Type 0} (xs : List X) (n : ℕ) → slice_get (drop n xs) 0 ≡ slice_get xs n
first_left xs zero = refl
first_left [] (suc n) = refl
first_left (x ∷ xs) (suc n) = first_left xs n

-- the first `n` calls are found among the first `i` entries
abbrev pub part_of : List CallValue → ℕ → List EntryValue → ℕ → List EntryValue → RunPart
part_of calls n history i run = record { done = take n calls; left = drop n calls; history = history; behind = drop i history; run = run }

abbrev pub IsFound : List CallValue → ℕ → List EntryValue → ℕ → List EntryValue → Type 0
IsFound calls n history i run = IsPartOfRun (part_of calls n history i run)

pub found_more : (calls : List CallValue) (n : ℕ) (history : List EntryValue) (i : ℕ) (run : List EntryValue) (e : EntryValue)
    → slice_get calls n ≡ Some e.call → slice_get history i ≡ Some e → IsFound calls n history i run → IsFound calls (n + 1) history (i + 1) (run ++ e ∷ [])
found_more calls n history i run e call entry so_far =
    subst (λ (l : List CallValue). IsPartOfRun (record (part_of calls (n + 1) history (i + 1) (run ++ e ∷ [])) { done = l })) (sym (take_here calls n e.call call))
    (one_found (take n calls) (drop (n + 1) calls) history (drop (i + 1) history) run e
    (subst (λ (l : List CallValue). IsPartOfRun (record (part_of calls n history i run) { left = l; behind = e ∷ drop (i + 1) history })) (drop_here calls n e.call call)
    (subst (λ (h : List EntryValue). IsPartOfRun (record (part_of calls n history i run) { behind = h })) (drop_here history i e entry) so_far)))

pub passed_more : (calls : List CallValue) (n : ℕ) (history : List EntryValue) (i : ℕ) (run : List EntryValue) (e : EntryValue)
    → (slice_get calls n ≡ Some e.call → ⊥) → slice_get history i ≡ Some e → IsFound calls n history i run → IsFound calls n history (i + 1) run
passed_more calls n history i run e other entry so_far =
    one_passed (take n calls) (drop n calls) history (drop (i + 1) history) run e (λ call. other (sym (first_left calls n) ∙ call))
    (subst (λ (h : List EntryValue). IsPartOfRun (record (part_of calls n history i run) { behind = h })) (drop_here history i e entry) so_far)

-- those that are found have their run
pub found_run : (calls : List CallValue) (n : ℕ) (history : List EntryValue) (i : ℕ) (run : List EntryValue) → IsFound calls n history i run → IsRun (take n calls) history run
found_run calls n history i run so_far =
    subst (λ (l : List CallValue). IsRun l history run) (append-nil (take n calls))
    (subst (λ (r : List EntryValue). IsRun (take n calls ++ []) history r) (append-nil run) (so_far.made [] [] tt refl))

-- behind all entries no more of them have theirs
pub no_more_found : (calls : List CallValue) (n : ℕ) (history : List EntryValue) (i : ℕ) (run : List EntryValue) → n < length calls → length history ≤ i → IsFound calls n history i run
    → HasRun (take (n + 1) calls) history → ⊥
no_more_found calls n history i run lt over so_far has =
    let call = item_at calls n lt in
    subst (λ (h : List EntryValue). HasRun (call.0 ∷ []) h) (drop_all i history over)
    (so_far.only (call.0 ∷ []) (first_left calls n ∙ call.1) (subst (λ (l : List CallValue). HasRun l history) (take_here calls n call.0 call.1) has))
