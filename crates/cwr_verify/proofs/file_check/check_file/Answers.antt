use Rattle.std.proofs.Common.{◌∙◌, inl, ap, refl, subst, sym, List, ℕ}
use Rattle.std.proofs.lemmas.Result.{IfErr-weaker, on_ok_weaker}
use Rattle.cwr_acknowledgement.specs.Acknowledgement.{ack_text}
use Rattle.cwr_engine.specs.AckItems.{items_with_replies}
use Rattle.cwr_engine.specs.Judged.{JudgedValue}
use Rattle.work_registry.specs.EntryValue.{EntryValue}
use Rattle.cwr_verify.proofs.FileRuns.{answered_by, checked_run}
use Rattle.cwr_verify.proofs.Telling.{all_begun, lacks, other_line}
use Rattle.cwr_verify.specs.Acknowledged.{stamp_in}
use Rattle.cwr_verify.specs.Compared.{IsDifference}
use Rattle.cwr_verify.specs.Read.{IsReadFrom}
use Rattle.cwr_verify.specs.Reading.{IsReadingOf, transactions_in}
use Rattle.cwr_verify.specs.Replied.{AreBegunBy}
use Rattle.cwr_verify.specs.Sent.{Sent}
use Rattle.cwr_verify.specs.VerifyErrors.{IsToldOf, LacksEntry}
use Rattle.cwr_verify.proofs.file_check.check_file.Goals as goal

pub compare_acknowledgement-requires : goal.compare_acknowledgement-requires
compare_acknowledgement-requires g c =
    let made = c.requires.made c.in_default-next.ensures.next in
    let text = c.reading.ensures.some in
    let run = checked_run text.0 c.reading.result.now c.in-File.judged c.args.replied.now made.0 c.in-File.is text.1 (c.requires.its ∙ sym (ap transactions_in c.reading.ensures.its)) made.1 in
    record { few = run.few }

pub returns-in_default-next-clause-by_each : goal.returns-in_default-next-clause-by_each
returns-in_default-next-clause-by_each g c =
    on_ok_weaker c.compare_acknowledgement.result
    (λ same. λ sent entries read by.
    answered_by sent c.in-Some.stamp c.in-File.judged.header c.args.replied.now entries (ap stamp_in read.1 ∙ (sym c.stamp_in.ensures ∙ c.in-Some.is))
    (checked_run sent.text c.args.file.now.text c.in-File.judged c.args.replied.now entries (sym c.reading.ensures.its ∙ c.in-File.is) read.0 c.requires.its by) (read.1 ∙ same))
    c.compare_acknowledgement.ensures.same

pub returns-in_default-clause-told : goal.returns-in_default-clause-told
returns-in_default-clause-told g c = λ sent entries read by. (refl, inl (ap stamp_in read.1 ∙ (sym c.stamp_in.ensures ∙ c.in_default.is), refl))

pub returns-in-TooLong-clause-told : goal.returns-in-TooLong-clause-told
returns-in-TooLong-clause-told g c = λ sent entries read by.
    (refl, (c.in-Some.stamp, ap stamp_in read.1 ∙ (sym c.stamp_in.ensures ∙ c.in-Some.is)), subst (IsReadingOf sent.text) (sym c.reading.ensures.its ∙ c.in-TooLong.is) read.0)

pub returns-in-Refused-clause-told : goal.returns-in-Refused-clause-told
returns-in-Refused-clause-told g c = λ sent entries read by.
    (refl, (c.in-Some.stamp, ap stamp_in read.1 ∙ (sym c.stamp_in.ensures ∙ c.in-Some.is)), subst (IsReadingOf sent.text) (sym c.reading.ensures.its ∙ c.in-Refused.is) read.0)

pub returns-in-Some-next-clause-told : goal.returns-in-Some-next-clause-told
returns-in-Some-next-clause-told g c = λ sent entries read by. (
  refl,
  (c.in-Some.stamp, ap stamp_in read.1 ∙ (sym c.stamp_in.ensures ∙ c.in-Some.is)),
  subst (λ (first : JudgedValue). LacksEntry sent.text entries first.group first.sequence) (sym c.first.view_is)
      (lacks sent.text c.args.file.now.text c.in-File.judged c.args.replied.now entries c.in-Some-next.first.now (sym c.reading.ensures.its ∙ c.in-File.is) read.0 c.requires.its by
      c.in-Some-next.ensures.next),
)

pub returns-in_default-next-clause-told : goal.returns-in_default-next-clause-told
returns-in_default-next-clause-told g c =
    let text : List ℕ = ack_text c.in-Some.stamp c.in-File.judged.header (items_with_replies c.args.replied.now.transactions c.args.replied.now.replies) in
    IfErr-weaker c.compare_acknowledgement.result (IsDifference c.args.number c.args.file.now.acknowledgement.now text)
    (λ told. (sent : Sent) (entries : List EntryValue) → IsReadFrom sent c.args.file.now → AreBegunBy c.args.replied.now entries → IsToldOf c.args.number sent entries told)
    (λ told differs. λ sent entries read by.
    other_line c.args.number sent c.in-Some.stamp c.in-File.judged.header c.args.replied.now entries told (ap stamp_in read.1 ∙ (sym c.stamp_in.ensures ∙ c.in-Some.is))
    (checked_run sent.text c.args.file.now.text c.in-File.judged c.args.replied.now entries (sym c.reading.ensures.its ∙ c.in-File.is) read.0 c.requires.its
    (all_begun c.args.replied.now entries by c.in_default-next.ensures.next))
    (subst (λ (l : List ℕ). IsDifference c.args.number l text told) (sym read.1) differs))
    c.compare_acknowledgement.ensures.told
