-- A run of which no job is left.
use Rattle.std.proofs.Common.{◌≡◌, ◌∙◌, Bool, Vec, vec_len, List, [], ◌∷◌, ◌++◌, length, reverse, ap, sym, subst, refl, arith, append-nil}
use Rattle.byte_streams.specs.declared.sink.Sink.{Ghosts as SinkOf}
use Rattle.byte_streams.specs.declared.source.Source.{Ghosts as SourceOf}
use Rattle.work_registry.specs.BookValue.{BookValue}
use Rattle.work_registry.specs.EntryValue.{EntryValue}
use Rattle.cwr_engine.specs.declared.jobs.Job.{Job}
use Rattle.cwr_engine.specs.declared.outcome.FileOutcome.{FileOutcome}
use Rattle.group_runs.specs.LongRun.{IsLongRun}
use Rattle.group_runs.specs.Standing.{IsBetween}

nothing : {X : Type 0} (xs : List X) → length xs ≡ 0 → xs ≡ []
nothing [] e = refl
nothing (x ∷ xs) e = absurd (omega (arith, e))

pub none_left : {R W X Y Z : Type 0} (source : SourceOf R) (sink : SinkOf W) (P : Job R W → Job R W → FileOutcome → Bool → List EntryValue → Type 0)
    (opening book : BookValue) (all : List (Job R W)) (ended : Vec (Job R W) X) (outcomes : Vec FileOutcome Y) (left : Vec (Job R W) Z)
    → IsBetween source sink P opening all book ended outcomes left → vec_len left ≡ 0 → IsLongRun P opening book all ended.items outcomes.items
none_left source sink P opening book all ended outcomes left b none =
    let size = left.ok.0 in
    let is : all ≡ b.begun = b.cut ∙ ap (λ l. b.begun ++ reverse l) (nothing left.items (omega (arith, size, none))) ∙ append-nil b.begun in
    subst (λ js. IsLongRun P opening book js ended.items outcomes.items) (sym is) b.run
