-- Jobs that were worked in turn at one book.
use Rattle.std.proofs.Common.{◌≡◌, ◌≢◌, ◌∙◌, ℕ, zero, suc, ◌+◌, ◌-◌, ◌<◌, ◌≤◌, Bool, true, false, cond, nat_le, List, [], ◌∷◌, ◌++◌, All, length, reverse, refl, sym, ap, subst, arith, append-nil, append_assoc, length-append}
use Rattle.std.specs.Prelude.{◌==◌, if◌then◌else◌, slice_index_or}
use Rattle.std.proofs.lemmas.Bool.Decides.{nat_tests}
use Rattle.std.proofs.lemmas.List.{reverse-reverse, append_cancel_left, get_or-reverse, length-reverse}
use Rattle.std.proofs.lemmas.List.Elements.{filter-append}
use Rattle.cwr_call.specs.CallValue.{CallValue}
use Rattle.work_registry.specs.BookValue.{BookValue}
use Rattle.work_registry.specs.EntryValue.{EntryValue, entry_of}
use Rattle.work_registry.specs.History.{IsHistory}
use Rattle.work_registry.specs.Replay.{entry_for, replay, calls_of, made, is_opening}
use Rattle.work_registry.specs.declared.reply.Reply.{Reply}
use Rattle.cwr_engine.specs.Causes.{ends_full}
use Rattle.cwr_engine.specs.Handing.{max_handed}
use Rattle.cwr_engine.specs.declared.outcome.FileOutcome.{FileOutcome}
use Rattle.cwr_engine.specs.WholeRun.{Accounts, is_full, IsRun, InTurn, IsWorkedAlone, TookTurns}
use Rattle.work_registry.proofs.lemmas.Sessions.{none_made, all_inside}

-- ---- the entries of a session

replay_own : (s : ℕ) (h : List EntryValue) (cs : List CallValue) → made (replay s h cs) s ≡ replay s h cs
replay_own s h [] = refl
replay_own s h (c ∷ cs) =
    let own : (s == s) ≡ true = grind (arith, nat_tests) in
    let rest : List EntryValue = replay s (h ++ entry_for s h c ∷ []) cs in
    ap (λ (b : Bool). cond b (entry_for s h c ∷ made rest s) (made rest s)) own ∙ ap (λ (l : List EntryValue). entry_for s h c ∷ l) (replay_own s (h ++ entry_for s h c ∷ []) cs)

replay_other : (s t : ℕ) (h : List EntryValue) (cs : List CallValue) → t ≢ s → made (replay s h cs) t ≡ []
replay_other s t h [] ne = refl
replay_other s t h (c ∷ cs) ne =
    let other : (s == t) ≡ false = grind (arith, nat_tests) in
    let rest : List EntryValue = replay s (h ++ entry_for s h c ∷ []) cs in
    ap (λ (b : Bool). cond b (entry_for s h c ∷ made rest t) (made rest t)) other ∙ replay_other s t (h ++ entry_for s h c ∷ []) cs ne

-- one more entry of the session
pub made_more : (s : ℕ) (h h' : List EntryValue) (c : CallValue) (r : Reply) → h' ≡ h ++ entry_of s c r ∷ [] → made h' s ≡ made h s ++ entry_of s c r ∷ []
made_more s h h' c r is =
    let own : (s == s) ≡ true = grind (arith, nat_tests) in
    ap (λ l. made l s) is ∙ (filter-append (λ e. e.session == s) h (entry_of s c r ∷ []) ∙ ap (λ (b : Bool). made h s ++ cond b (entry_of s c r ∷ []) []) own)

-- a book that is lent takes the calls of each session that a book knows
pub lent_turns : (session : ℕ) → session ≤ 63 → max_handed ≤ (if nat_le session 63 then 4294967295 else 0)
lent_turns session few =
    let known : nat_le session 63 ≡ true = grind (arith, nat_tests) in
    subst (λ (b : Bool). max_handed ≤ (if b then 4294967295 else 0)) (sym known) (omega arith)

-- ---- a list of which the last is taken

at_last : {J : Type 0} (xs : List J) (x d : J) → slice_index_or (xs ++ x ∷ []) (length xs) d ≡ x
at_last [] x d = refl
at_last (y ∷ xs) x d = at_last xs x d

pub last_holds : {J : Type 0} (P : J → Type 0) (all rest : List J) (x : J) → All P all → all ≡ rest ++ x ∷ [] → P x
last_holds P all rest x h is =
    let long = ap length is in
    let more = length-append rest (x ∷ []) in
    subst P (ap (λ l. slice_index_or l (length rest) x) is ∙ at_last rest x x) (h (length rest) x (omega (arith, long, more)))

at_front : {J : Type 0} (xs : List J) (x d : J) (k : ℕ) → k < length xs → slice_index_or (xs ++ x ∷ []) k d ≡ slice_index_or xs k d
at_front [] x d k lt = absurd (omega arith)
at_front (y ∷ xs) x d zero lt = refl
at_front (y ∷ xs) x d (suc k) lt = at_front xs x d k (omega arith)

pub rest_holds : {J : Type 0} (P : J → Type 0) (all rest : List J) (x : J) → All P all → all ≡ rest ++ x ∷ [] → All P rest
rest_holds P all rest x h is = λ k d lt.
    (let long = ap length is in let more = length-append rest (x ∷ []) in
    subst P (ap (λ l. slice_index_or l k d) is ∙ at_front rest x d k lt) (h k d (omega (arith, long, more, lt))))

-- and what holds of all holds of them turned round
pub turned_holds : {J : Type 0} (P : J → Type 0) (all turned : List J) → All P all → turned ≡ reverse all → All P turned
turned_holds P all turned h e = λ k d lt.
    let long : k < length all = omega (arith, lt, ap length e, length-reverse all) in
    subst P (sym (ap (λ xs. slice_index_or xs k d) e ∙ get_or-reverse all k d long)) (h (length all - 1 - k) d (omega (arith, long)))

-- ---- one job, and all jobs

module _ {J : Type 0} (P : J → J → FileOutcome → Bool → List EntryValue → Type 0) where
  alone_own : (s : ℕ) (b m : BookValue) (j k : J) (o : FileOutcome) → (w : IsWorkedAlone P s b m j k o) → made b.history s ≡ [] → made m.history s ≡ w.entries
  alone_own s b m j k o w none =
      ap (λ l. made l s) w.grown ∙ (filter-append (λ e. e.session == s) b.history w.entries ∙ (ap (λ l. l ++ made w.entries s) none
      ∙ (ap (λ l. made l s) w.replayed ∙ (replay_own s b.history (calls_of w.entries) ∙ sym w.replayed))))

  alone_other : (s t : ℕ) (b m : BookValue) (j k : J) (o : FileOutcome) → IsWorkedAlone P s b m j k o → t ≢ s → made m.history t ≡ made b.history t
  alone_other s t b m j k o w ne =
      ap (λ l. made l t) w.grown ∙ (filter-append (λ e. e.session == t) b.history w.entries
      ∙ (ap (λ l. made b.history t ++ l) (ap (λ l. made l t) w.replayed ∙ replay_other s t b.history (calls_of w.entries) ne) ∙ append-nil (made b.history t)))

  -- a session of none of the jobs
  took_other : (s t : ℕ) (js ks : List J) (os : List FileOutcome) (b e : BookValue) → TookTurns P s js ks os b e → ((i : ℕ) → i < length js → t ≢ s + i)
      → made e.history t ≡ made b.history t
  took_other s t [] [] [] b e r out = ap (λ (x : BookValue). made x.history t) r
  took_other s t [] [] (o ∷ os) b e r out = absurd r
  took_other s t [] (k ∷ ks) os b e r out = absurd r
  took_other s t (j ∷ js) [] os b e r out = absurd r
  took_other s t (j ∷ js) (k ∷ ks) [] b e r out = absurd r
  took_other s t (j ∷ js) (k ∷ ks) (o ∷ os) b e r out =
      let ne : t ≢ s = λ eq. out 0 (omega arith) (eq ∙ (omega arith)) in
      took_other (s + 1) t js ks os r.between e r.others (λ i lt eq. out (i + 1) (omega arith) (eq ∙ (omega arith))) ∙ alone_other s t b r.between j k o r.alone ne

  took_whole : (s : ℕ) (js ks : List J) (os : List FileOutcome) (b e : BookValue) → TookTurns P s js ks os b e
      → (added : List EntryValue) × (e.history ≡ b.history ++ added) × (e.limit ≡ b.limit)
  took_whole s [] [] [] b e r = ([], ap (λ (x : BookValue). x.history) r ∙ sym (append-nil b.history), ap (λ (x : BookValue). x.limit) r)
  took_whole s [] [] (o ∷ os) b e r = absurd r
  took_whole s [] (k ∷ ks) os b e r = absurd r
  took_whole s (j ∷ js) [] os b e r = absurd r
  took_whole s (j ∷ js) (k ∷ ks) [] b e r = absurd r
  took_whole s (j ∷ js) (k ∷ ks) (o ∷ os) b e r =
      let w = took_whole (s + 1) js ks os r.between e r.others in
      (r.alone.entries ++ w.0, w.1 ∙ (ap (λ l. l ++ w.0) r.alone.grown ∙ append_assoc b.history r.alone.entries w.0), w.2 ∙ r.alone.limit)

  fuller : (m e : BookValue) (added : List EntryValue) → e.history ≡ m.history ++ added → e.limit ≡ m.limit → is_full m ≡ true → is_full e ≡ true
  fuller m e added g l f = let n = ap length g ∙ length-append m.history added in grind (arith, nat_tests)

  module _ (mono : (j k : J) (o : FileOutcome) (a b : Bool) (l : List EntryValue) → (a ≡ true → b ≡ true) → P j k o a l → P j k o b l)
      (found : (j k : J) (o : FileOutcome) (a : Bool) (l : List EntryValue) → ends_full o ≡ true → P j k o a l → a ≡ true) where
    settled : (s : ℕ) (js ks : List J) (os : List FileOutcome) (b e : BookValue) → TookTurns P s js ks os b e → ((t : ℕ) → s ≤ t → made b.history t ≡ [])
        → Accounts P e.history (is_full e) s js ks os × InTurn b.limit e.history s b.history os
    settled s [] [] [] b e r none = (tt, ap (λ (x : BookValue). x.history) r)
    settled s [] [] (o ∷ os) b e r none = absurd r
    settled s [] (k ∷ ks) os b e r none = absurd r
    settled s (j ∷ js) [] os b e r none = absurd r
    settled s (j ∷ js) (k ∷ ks) [] b e r none = absurd r
    settled s (j ∷ js) (k ∷ ks) (o ∷ os) b e r none =
        let m : BookValue = r.between in
        let w : IsWorkedAlone P s b m j k o = r.alone in
        let all = took_whole (s + 1) js ks os m e r.others in
        let same : made e.history s ≡ w.entries = took_other (s + 1) s js ks os m e r.others (λ i lt. (omega arith)) ∙ alone_own s b m j k o w (none s (omega arith)) in
        let rest = settled (s + 1) js ks os m e r.others (λ t le. alone_other s t b m j k o w (omega arith) ∙ none t (omega arith)) in
        let next : m.history ≡ b.history ++ made e.history s = w.grown ∙ ap (λ l. b.history ++ l) (sym same) in
        let full : ends_full o ≡ true → is_full (record { history = b.history ++ made e.history s; limit = b.limit }) ≡ true =
        λ f. subst (λ (x : List EntryValue × ℕ). nat_le x.1 (length x.0) ≡ true) (λ i. (next i, w.limit i)) (found j k o (is_full m) w.entries f w.account) in (
          (subst (λ l. P j k o (is_full e) l) (sym same) (mono j k o (is_full m) (is_full e) w.entries (fuller m e all.0 all.1 all.2) w.account), rest.0),
          record {
            replayed = subst (λ l. l ≡ replay s b.history (calls_of l)) (sym same) w.replayed;
            full = full;
            others = subst (λ (x : List EntryValue × ℕ). InTurn x.1 e.history (s + 1) x.0 os) (λ i. (next i, w.limit i)) rest.1;
          },
        )

    pub whole_turns : (b e : BookValue) (js ks : List J) (os : List FileOutcome) → is_opening b.history ≡ true → IsHistory e.history → length e.history ≤ e.limit
        → TookTurns P 1 js ks os b e → IsRun P b e js ks os × InTurn b.limit e.history 1 b.history os
    whole_turns b e js ks os opens registry bounded r =
        let all = took_whole 1 js ks os b e r in
        let added : List EntryValue = all.0 in
        let none : (t : ℕ) → 1 ≤ t → made b.history t ≡ [] = λ t le. none_made b.history t le opens in
        let both = settled 1 js ks os b e r none in
        let parts : (s : ℕ) → made e.history s ≡ made b.history s ++ made added s = λ s. ap (λ l. made l s) all.1 ∙ filter-append (λ x. x.session == s) b.history added in
        let kept : (s : ℕ) → made e.history s ≡ made b.history s → made added s ≡ [] =
        λ s f. append_cancel_left (made b.history s) (made added s) [] (sym (parts s) ∙ (f ∙ sym (append-nil (made b.history s)))) in (
          record {
            registry = registry;
            bounded = bounded;
            limit = all.2;
            added = added;
            grown = all.1;
            sessions = all_inside (length js) added (kept 0 (took_other 1 0 js ks os b e r (λ i lt. (omega arith))))
                (λ s lt. kept s (took_other 1 s js ks os b e r (λ i less. (omega arith))));
            accounts = both.0;
          },
          both.1,
        )

  -- the lists as they were before they were turned round
  pub turned_round : (js ks js' ks' : List J) (os os' : List FileOutcome) (b e : BookValue) → js' ≡ reverse js → ks ≡ reverse ks' → os ≡ reverse os'
      → TookTurns P 1 (reverse js') (reverse ks') (reverse os') b e → TookTurns P 1 js ks os b e
  turned_round js ks js' ks' os os' b e ej ek eo r =
      let j : reverse js' ≡ js = ap reverse ej ∙ reverse-reverse js in
      subst (λ (z : List J × List J × List FileOutcome). TookTurns P 1 z.0 z.1 z.2 b e) (λ i. (j i, sym ek i, sym eo i)) r
