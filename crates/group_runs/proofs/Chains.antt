-- A chain of runs is a run of all their jobs.
use Rattle.std.proofs.Common.{◌≡◌, ◌∙◌, ◌≤◌, Bool, true, List, [], ◌∷◌, length, map, sym, subst}
use Rattle.std.specs.List.{AllByRecursion}
use Rattle.work_registry.specs.BookValue.{BookValue}
use Rattle.work_registry.specs.EntryValue.{EntryValue}
use Rattle.work_registry.specs.History.{IsHistory}
use Rattle.work_registry.specs.Numbers.{max_entries}
use Rattle.work_registry.specs.Register.{IsWholeEntry, opened, register_text}
use Rattle.work_registry.specs.Replay.{is_opening}
use Rattle.work_registry.proofs.lemmas.Opened.{opened_is}
use Rattle.cwr_engine.specs.Causes.{ends_full}
use Rattle.cwr_engine.specs.declared.outcome.FileOutcome.{FileOutcome}
use Rattle.group_runs.specs.Chain.{Chained, GroupRun, IsReadBack, all_outcomes, jobs_after, jobs_before}
use Rattle.group_runs.specs.LongRun.{IsLongRun}
use Rattle.group_runs.proofs.Pieces.{group_is_long, long_then, nothing_worked}

module _ (one_history : (one other : List EntryValue) → length one ≤ max_entries → length other ≤ max_entries → AllByRecursion IsWholeEntry one → AllByRecursion IsWholeEntry other
    → register_text one ≡ register_text other → map opened one ≡ map opened other) where
  read_is : (written read : BookValue) → IsReadBack written read → read ≡ record { history = map opened written.history; limit = written.limit }
  read_is written read b =
      let same : read.history ≡ map opened written.history =
      sym (opened_is read.history b.opening) ∙ one_history read.history written.history b.few_read b.few_written b.whole_read b.whole_written b.text in
      λ i. record { history = same i; limit = b.limit i }

  module _ {J : Type 0} (P : J → J → FileOutcome → Bool → List EntryValue → Type 0)
      (lifts : (j k : J) (o : FileOutcome) (a b : Bool) (l : List EntryValue) → (ends_full o ≡ true → b ≡ true) → P j k o a l → P j k o b (map opened l)) where
    pub chain_is_long : (opening kept : BookValue) (runs : List (GroupRun J)) → is_opening opening.history ≡ true → IsHistory opening.history → length opening.history ≤ opening.limit
        → Chained P opening kept runs → IsLongRun P opening kept (jobs_before runs) (jobs_after runs) (all_outcomes runs)
    chain_is_long opening kept [] all lawful fits chain = subst (λ k. IsLongRun P opening k [] [] []) (sym chain) (nothing_worked P opening lawful fits)
    chain_is_long opening kept (run ∷ runs) all lawful fits chain =
        let read = chain.read_back in
        long_then P opening chain.next kept run.before (jobs_before runs) run.after (jobs_after runs) run.outcomes (all_outcomes runs)
        (group_is_long P lifts opening chain.worked chain.next run.before run.after run.outcomes chain.is_run chain.in_turn all (read_is chain.worked chain.next read) read.lawful)
        (chain_is_long chain.next kept runs read.opening read.lawful read.fits chain.others)
