-- Jobs that were worked at one desk, once all seats were met.
use Rattle.std.proofs.Common.{◌≡◌, ◌∙◌, ℕ, zero, suc, ◌+◌, ◌≤◌, Bool, true, List, [], ◌∷◌, ◌++◌, All, length, reverse, refl, sym, ap, subst, arith, length-append}
use Rattle.std.proofs.lemmas.Bool.Decides.{nat_tests}
use Rattle.std.proofs.lemmas.List.{reverse-reverse}
use mathlib.Core.Option.{some}
use mathlib.Core.List.{IsPrefix}
use lib.ListN.{get_elem?}
use Rattle.work_registry.specs.BookValue.{BookValue}
use Rattle.work_registry.specs.EntryValue.{EntryValue}
use Rattle.work_registry.specs.Replay.{made}
use Rattle.registry_desk.specs.declared.view.Met.{Met}
use Rattle.registry_desk.specs.declared.view.View.{View}
use Rattle.registry_desk.specs.Closing.{Closes}
use Rattle.registry_desk.specs.Rule.{MetFits}
use Rattle.cwr_engine.specs.declared.outcome.FileOutcome.{FileOutcome}
use Rattle.cwr_engine.specs.WholeRun.{Accounts, is_full, IsRun}
use Rattle.cwr_desk.specs.Ran.{Ran}
use Rattle.cwr_desk.specs.Sights.{saw_full}

-- as many seats were met as there are jobs
pub Ran-length : {J : Type 0} (P : J → J → FileOutcome → Bool → List EntryValue → Type 0) (limit session : ℕ) (js ks : List J) (os : List FileOutcome) (before after : List Met)
    → Ran P limit session js ks os before after → length after ≡ length before + length js
Ran-length P limit session [] [] [] before after r = let e = ap length r in omega arith
Ran-length P limit session [] [] (o ∷ os) before after r = absurd r
Ran-length P limit session [] (k ∷ ks) os before after r = absurd r
Ran-length P limit session (j ∷ js) [] os before after r = absurd r
Ran-length P limit session (j ∷ js) (k ∷ ks) [] before after r = absurd r
Ran-length P limit session (j ∷ js) (k ∷ ks) (o ∷ os) before after r =
    let e = Ran-length P limit (session + 1) js ks os before r.between r.others in let a = ap length r.met_last in let b = length-append r.between (r.seat ∷ []) in omega arith

module _ {J : Type 0} (P : J → J → FileOutcome → Bool → List EntryValue → Type 0) where
  -- the lists as they were before they were turned round
  pub Ran-whole : (limit given : ℕ) (js ks js' ks' : List J) (os os' : List FileOutcome) (before after : List Met) → js' ≡ reverse js → ks ≡ reverse ks' → os ≡ reverse os'
      → given ≡ 0 → before ≡ [] → Ran P limit (given + 1) (reverse js') (reverse ks') (reverse os') before after → Ran P limit 1 js ks os [] after
  Ran-whole limit given js ks js' ks' os os' before after ej ek eo eg eb r =
      let j : reverse js' ≡ js = ap reverse ej ∙ reverse-reverse js in
      subst (λ (z : ℕ × List J × List J × List FileOutcome × List Met). Ran P limit (z.0 + 1) z.1 z.2 z.3 z.4 after) (λ i. (eg i, j i, sym ek i, sym eo i, eb i)) r

  -- a beginning of the history that holds the limit: so does the history
  saw : (limit : ℕ) (h : BookValue) (front : List EntryValue) → h.limit ≡ limit → IsPrefix front h.history → saw_full limit front ≡ true → is_full h ≡ true
  saw limit h front is begins full = let a = ap length begins.1 in let b = length-append front begins.0 in grind (arith, nat_tests)

  at_end : (ms : List Met) (m : Met) → get_elem? (ms ++ m ∷ []) (length ms) ≡ some m
  at_end [] m = refl
  at_end (x ∷ xs) m = at_end xs m

  at_before : (ms ns : List Met) (i : ℕ) (m : Met) → get_elem? ms i ≡ some m → get_elem? (ms ++ ns) i ≡ some m
  at_before [] ns i m e = absurd (let f = e in cc)
  at_before (x ∷ xs) ns zero m e = e
  at_before (x ∷ xs) ns (suc i) m e = at_before xs ns i m e

  module _ (mono : (j k : J) (o : FileOutcome) (a b : Bool) (l : List EntryValue) → (a ≡ true → b ≡ true) → P j k o a l → P j k o b l) (h : BookValue) (limit : ℕ)
      (limited : h.limit ≡ limit) where
    settles : (session : ℕ) (js ks : List J) (os : List FileOutcome) (before after : List Met) → Ran P limit session js ks os before after
        → ((i : ℕ) (m : Met) → get_elem? after i ≡ some m → MetFits h.history h.limit m) → Accounts P h.history (is_full h) session js ks os
    settles session [] [] [] before after r fits = tt
    settles session [] [] (o ∷ os) before after r fits = absurd r
    settles session [] (k ∷ ks) os before after r fits = absurd r
    settles session (j ∷ js) [] os before after r fits = absurd r
    settles session (j ∷ js) (k ∷ ks) [] before after r fits = absurd r
    settles session (j ∷ js) (k ∷ ks) (o ∷ os) before after r fits =
        let between : List Met = r.between in let m : Met = r.seat in
        let fits' : (i : ℕ) (n : Met) → get_elem? (between ++ m ∷ []) i ≡ some n → MetFits h.history h.limit n = λ i n e. fits i n (ap (λ l. get_elem? l i) r.met_last ∙ e) in
        let f = fits' (length between) m (at_end between m) in
        let full : saw_full limit m.front ≡ true → is_full h ≡ true = saw limit h m.front limited f.front in (
          subst (λ l. P j k o (is_full h) l) (sym (ap (made h.history) (sym r.session_is) ∙ f.list)) (mono j k o (saw_full limit m.front) (is_full h) m.list full r.account),
          settles (session + 1) js ks os before between r.others (λ i n e. fits' i n (at_before between (m ∷ []) i n e)),
        )

    pub whole_run : (b : BookValue) (v : View) (js ks : List J) (os : List FileOutcome) → Closes v h → v.opened ≡ b.history → limit ≡ b.limit → v.given ≡ length js
        → Ran P limit 1 js ks os [] v.met → IsRun P b h js ks os
    whole_run b v js ks os closed opened is given ran = record {
      registry = closed.registry;
      bounded = closed.bounded;
      limit = limited ∙ is;
      added = closed.added;
      grown = closed.grown ∙ ap (λ l. l ++ closed.added) opened;
      sessions = subst (λ n. All (λ e. (1 ≤ e.session) × (e.session ≤ n)) closed.added) given closed.sessions;
      accounts = settles 1 js ks os [] v.met ran closed.met;
    }
