use Rattle.std.proofs.Common.{ℕ, List, Option, drop, sym, ap, ap₂, subst, ◌∙◌}
use Rattle.cwr_rules.specs.declared.added.AddedShares.{AddedShares}
use Rattle.cwr_rules.specs.declared.added.Over.{Over}
use Rattle.cwr_rules.specs.declared.sums.Sums.{Sums}
use Rattle.cwr_rules.specs.declared.totals.Totals.{Totals}
use Rattle.cwr_rules.specs.Added.{first_over}
use Rattle.cwr_rules.specs.Collected.{IsCollectedBy}
use Rattle.cwr_rules.specs.Judging.{JudgeState, IsJudging}
use Rattle.cwr_rules.specs.Records.{records_of}
use Rattle.cwr_rules.specs.Totals.{ownership}
use Rattle.cwr_rules.proofs.Lines.{whole_of}
use Rattle.cwr_rules.proofs.transaction_judge.TransactionJudge.added.Goals as goal

pub first_over-requires : goal.first_over-requires
first_over-requires g c =
    let t = c.args.transaction.now in
    let P : JudgeState → Type 0 = λ s. IsJudging s t.kind t.lines in
    let h = subst P (sym c.self.view_is) c.requires.read in
    let Q : List (List ℕ) → Type 0 = λ ds. IsCollectedBy c.self.inside.read.summary.collected (records_of ds) in
    subst Q (ap (λ (ls : List (List ℕ)). drop 1 ls) (sym h.lines_are ∙ c.parts-details.ensures.lines)) (whole_of _ t.kind t.lines h).summary.collected

pub returns : goal.returns
returns g c =
    let t = c.args.transaction.now in
    let P : JudgeState → Type 0 = λ s. IsJudging s t.kind t.lines in
    let h = subst P (sym c.self.view_is) c.requires.read in
    let made : Totals → Option Over → AddedShares = λ o v. record { ownership = o; over = v } in
    ap₂ made
    (ap (λ (s : Sums). s.ownership) (whole_of _ t.kind t.lines h).summary.sums_are
    ∙ ap (λ (ls : List (List ℕ)). ownership (records_of (drop 1 ls))) (sym h.lines_are))
    (c.first_over.ensures ∙ ap (λ (ls : List (List ℕ)). first_over (records_of (drop 1 ls))) (sym c.parts-details.ensures.lines))
