use Rattle.std.proofs.Common.{◌≡◌, ◌∙◌, ℕ, ◌+◌, Bool, false, List, [], ◌∷◌, ◌++◌, reverse, ap, sym, subst, rules}
use Rattle.std.proofs.lemmas.List.{reverse-append}
use Rattle.work_registry.specs.BookValue.{BookValue}
use Rattle.work_registry.specs.EntryValue.{EntryValue}
use Rattle.cwr_engine.specs.Account.{JobAccount}
use Rattle.cwr_engine.specs.WholeRun.{IsWorkedAlone, TookTurns}
use Rattle.cwr_engine.specs.declared.outcome.FileOutcome.{FileOutcome}
use Rattle.cwr_engine.proofs.lemmas.Turns.{last_holds, rest_holds}
use Rattle.cwr_engine.proofs.in_turn.+turn_from.Goals as goal

pub work_alone-book-requires-clause-works : goal.work_alone-book-requires-clause-works
work_alone-book-requires-clause-works g t c =
    last_holds (λ j. (g.R.Source.has_failed j.reader ≡ false) × (g.W.Sink.has_failed j.writer ≡ false)) c.args.jobs.items _ c.in-Some.job c.requires.works c.in-Some.ensures.items

pub turn_from-book-requires : goal.turn_from-book-requires
turn_from-book-requires g t c =
    let works = rest_holds (λ j. (g.R.Source.has_failed j.reader ≡ false) × (g.W.Sink.has_failed j.writer ≡ false)) c.args.jobs.items c.pop.new.self.items c.in-Some.job
    c.requires.works c.in-Some.ensures.items in
    search rules

one_more : {J : Type 0} (P : J → J → FileOutcome → Bool → List EntryValue → Type 0) (session : ℕ) (jobs js now ks : List J) (outcomes os : List FileOutcome) (j k : J) (o : FileOutcome)
    (before between after : BookValue) → jobs ≡ js ++ j ∷ [] → now ≡ ks ++ k ∷ [] → outcomes ≡ os ++ o ∷ [] → IsWorkedAlone P session before between j k o
    → TookTurns P (session + 1) (reverse js) (reverse ks) (reverse os) between after → TookTurns P session (reverse jobs) (reverse now) (reverse outcomes) before after
one_more {J} P session jobs js now ks outcomes os j k o before between after job at outcome alone others =
    let first : j ∷ reverse js ≡ reverse jobs = sym (ap reverse job ∙ reverse-append js (j ∷ [])) in
    let left : k ∷ reverse ks ≡ reverse now = sym (ap reverse at ∙ reverse-append ks (k ∷ [])) in
    let told : o ∷ reverse os ≡ reverse outcomes = sym (ap reverse outcome ∙ reverse-append os (o ∷ [])) in
    subst (λ (z : List J × List J × List FileOutcome). TookTurns P session z.0 z.1 z.2 before after) (λ i. (first i, left i, told i))
    (record { between = between; alone = alone; others = others })

pub returns-in-Ok-push-clause-took : goal.returns-in-Ok-push-clause-took
returns-in-Ok-push-clause-took g t c =
    one_more (JobAccount g.R.Source g.W.Sink c.args.stamp.now false) c.args.session _ _ _ _ _ _ c.in-Some.job c.work_alone-book.result.1 c.work_alone-book.result.2 c.args.book
    c.work_alone-book.result.0 c.turn_from-book.result.0 c.in-Some.ensures.items c.in-Ok.ensures.items c.in-Ok-push.ensures.items c.work_alone-book.ensures c.turn_from-book.ensures.took
