use Rattle.std.proofs.Common.{◌≡◌, ◌∙◌, ℕ, ◌+◌, List, Some, length, take, ap, sym, subst}
use Rattle.std.specs.Prelude.{slice_get}
use Rattle.std.proofs.lemmas.List.{take_rest}
use Rattle.std.proofs.lemmas.Option.{slice_get_within}
use Rattle.cwr_engine.specs.Judged.{JudgedValue}
use Rattle.work_registry.specs.EntryValue.{EntryValue}
use Rattle.cwr_verify.specs.Again.{IsUnanswered}
use Rattle.cwr_verify.specs.Reading.{asked_in}
use Rattle.cwr_verify.specs.Run.{HasRun, IsRun}
use Rattle.cwr_verify.proofs.FileRuns.{unanswered}
use Rattle.cwr_verify.proofs.answering.run_of.Goals as goal

pub returns-in-Some-next-clause-why_not : goal.returns-in-Some-next-clause-why_not
returns-in-Some-next-clause-why_not g c = λ stamp input ends file.
    let first : JudgedValue = c.in-Some-next.first.now in
    let n : ℕ = length c.in-Ok.replied.replies in
    let its : slice_get c.args.transactions.now n ≡ Some first = ap (λ (js : List JudgedValue). slice_get js n) (sym c.in-Ok.ensures.its) ∙ c.in-Some-next.ensures.next in
    let rest = take_rest c.args.history.now c.in-Some.place in
    let none = c.in-Ok.ensures.no_more (slice_get_within c.args.transactions.now n first its) in
    subst (λ (j : JudgedValue). IsUnanswered input c.args.entry c.args.history.now j.group j.sequence) (sym c.first.view_is)
    (unanswered input c.args.transactions.now c.args.entry c.args.history.now c.in-Some.place n first file its c.in-Some.ensures.front
    (subst (λ (h : List EntryValue). HasRun (take n (asked_in c.args.transactions.now)) h) rest c.in-Ok.ensures.some)
    (λ more. none (subst (λ (h : List EntryValue). HasRun (take (n + 1) (asked_in c.args.transactions.now)) h) (sym rest) more)))

pub returns-clause-run : goal.returns-clause-run
returns-clause-run g c =
    let run = c.in-Ok.ensures.run (c.in_default-next.ensures.next ∙ ap length c.in-Ok.ensures.its) in (
      run.0,
      record { place = c.in-Some.place; begins = c.in-Some.ensures.begins; first = subst (λ (h : List EntryValue). IsRun (asked_in c.args.transactions.now) h run.0) (take_rest c.args.history.now c.in-Some.place) run.1 },
      run.2,
    )
