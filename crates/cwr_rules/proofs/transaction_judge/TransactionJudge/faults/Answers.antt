use Rattle.std.proofs.Common.{List, ℕ, sym, ap, subst, ◌∙◌}
use Rattle.cwr_rules.specs.Calls.{call_in}
use Rattle.cwr_rules.specs.Judging.{JudgeState, IsJudging}
use Rattle.cwr_rules.specs.Records.{records_of}
use Rattle.cwr_rules.proofs.Lines.{whole_of}
use Rattle.cwr_rules.proofs.transaction_judge.TransactionJudge.faults.Goals as goal

pub returns : goal.returns
returns g c = λ submitter kind lines is.
    let P : JudgeState → Type 0 = λ s. IsJudging s kind lines in
    let h = subst P (sym c.self.view_is) is in
    c.new.ensures ∙ c.in_ok-faults.ensures kind h.head (records_of h.details) h.header_is (whole_of _ kind lines h)
    ∙ ap (λ (ls : List (List ℕ)). (call_in submitter kind ls).faults) (sym h.lines_are)
