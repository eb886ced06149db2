use Rattle.std.proofs.Common.{sym, ap, subst, ◌∙◌}
use Rattle.cwr_record.specs.declared.works.WorkKind.{WorkKind}
use Rattle.cwr_rules.specs.declared.header.HeaderFields.{HeaderFields}
use Rattle.cwr_rules.specs.declared.sums.Sums.{Sums}
use Rattle.cwr_rules.specs.Faults.{faults_of}
use Rattle.cwr_rules.specs.Judging.{JudgeState, IsJudging}
use Rattle.cwr_rules.specs.Records.{records_of}
use Rattle.cwr_rules.proofs.LawfulCall.{lawful_from}
use Rattle.cwr_rules.proofs.Lines.{few_all, whole_of, same_call}
use Rattle.cwr_rules.proofs.SmallShares.{records_capped}
use Rattle.cwr_rules.proofs.transaction_judge.TransactionJudge.end.Goals as goal

pub of_lawful-call-requires : goal.of_lawful-call-requires
of_lawful-call-requires g c =
    let kind = c.requires.open.0 in
    let lines = c.requires.open.1 in
    let P : JudgeState → Type 0 = λ s. IsJudging s kind lines in
    let h = subst P (sym c.self.view_is) c.requires.open.2 in
    let records = records_of h.details in
    let whole = whole_of _ kind lines h in
    let faults = c.new.ensures ∙ c.in_ok-faults.ensures kind h.head records h.header_is whole in
    let same = ap (λ (k : WorkKind). faults_of k h.head records) (sym (ap (λ (x : HeaderFields). x.kind) h.header_is)) in
    lawful_from c.args.submitter h.head _ _ _ _ _ records _ (few_all _ kind lines h c.requires.open.3) (records_capped h.details) c.requires.clean h.clean h.nine_digits
    (ap (λ (x : HeaderFields). x.title) h.header_is) (ap (λ (x : HeaderFields). x.number) h.header_is) (ap (λ (x : HeaderFields). x.iswc) h.header_is)
    (ap (λ (s : Sums). s.control) whole.summary.sums_are) (faults ∙ same)

pub returns : goal.returns
returns g c = λ transaction is.
    let P : JudgeState → Type 0 = λ s. IsJudging s transaction.kind transaction.lines in
    let h = subst P (sym c.self.view_is) is in
    let whole = whole_of _ transaction.kind transaction.lines h in
    c.of_lawful-call.ensures
    ∙ same_call c.args.submitter h.head transaction.kind transaction.lines h.details _ _ _ h.lines_are h.header_is (ap (λ (s : Sums). s.control) whole.summary.sums_are)
    (c.new.ensures ∙ c.in_ok-faults.ensures transaction.kind h.head (records_of h.details) h.header_is whole)
