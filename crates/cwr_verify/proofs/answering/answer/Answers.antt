use Rattle.std.proofs.Common.{List, sym, subst}
use Rattle.std.proofs.lemmas.Result.{IfErr-weaker, on_ok_weaker}
use Rattle.cwr_engine.specs.Account.{WriteEnds, write_ends}
use Rattle.cwr_engine.specs.Judged.{JudgedValue}
use Rattle.work_registry.specs.EntryValue.{EntryValue}
use Rattle.cwr_acknowledgement.specs.Acknowledgement.{ack_text}
use Rattle.cwr_engine.specs.AckItems.{items_with_replies}
use Rattle.cwr_verify.specs.Again.{IsJudgedFile, IsSentInPart, IsWhyNot}
use Rattle.cwr_verify.specs.Replied.{AreOfFile}
use Rattle.cwr_verify.proofs.FileRuns.{cut_again, handed_on, own_run, written_again}
use Rattle.cwr_verify.proofs.Judging.{of_file}
use Rattle.cwr_verify.proofs.answering.answer.Goals as goal

pub run_of-requires-clause-of_file : goal.run_of-requires-clause-of_file
run_of-requires-clause-of_file g c =
    subst AreOfFile (sym c.deref.ensures.value) (of_file c.args.text.now c.in_ok-file.file.header c.in_ok-file.file.transactions.items c.in_ok-file.ensures.judged)

pub returns-in_err-file-clause-why_not : goal.returns-in_err-file-clause-why_not
returns-in_err-file-clause-why_not g c =
    let ends : WriteEnds = write_ends g.W.Sink c.args.writer.now c.args.writer.now in
    handed_on c.from_residual.result c.in_err-file.field-0.0 (IsWhyNot c.args.stamp.now c.args.text.now c.args.entry c.args.book.now.history ends) c.from_residual.ensures.1
    (c.in_err-file.ensures.why_not c.args.stamp.now c.args.entry c.args.book.now.history ends)

pub returns-in_err-replied-clause-why_not : goal.returns-in_err-replied-clause-why_not
returns-in_err-replied-clause-why_not g c =
    let ends : WriteEnds = write_ends g.W.Sink c.args.writer.now c.args.writer.now in
    let file : IsJudgedFile c.args.text.now c.in_ok-file.file.transactions.items =
    record { fits = c.in_ok-file.ensures.fits; head = c.in_ok-file.file.header; was = c.in_ok-file.ensures.judged } in
    handed_on c.from_residual-in_err-replied.result c.in_err-replied.field-0.0 (IsWhyNot c.args.stamp.now c.args.text.now c.args.entry c.args.book.now.history ends)
    c.from_residual-in_err-replied.ensures.1
    (subst (λ (h : List EntryValue). IsWhyNot c.args.stamp.now c.args.text.now c.args.entry h ends c.in_err-replied.field-0.0) c.history.ensures.entries
    (c.in_err-replied.ensures.why_not c.args.stamp.now c.args.text.now ends
    (subst (λ (js : List JudgedValue). IsJudgedFile c.args.text.now js) (sym c.deref.ensures.value) file)))

pub send-requires-clause-few : goal.send-requires-clause-few
send-requires-clause-few g c =
    (own_run c.args.text.now c.in_ok-file.file.header c.in_ok-file.file.transactions.items c.deref.result.now c.args.entry c.args.book.now.history c.history.result.now
    c.in_ok-replied.replied c.deref.ensures.value c.history.ensures.entries c.in_ok-replied.ensures.its c.in_ok-file.ensures.fits c.in_ok-file.ensures.judged c.in_ok-replied.ensures.run).all.few

pub returns-clause-answered : goal.returns-clause-answered
returns-clause-answered g c =
    let its = own_run c.args.text.now c.in_ok-file.file.header c.in_ok-file.file.transactions.items c.deref.result.now c.args.entry c.args.book.now.history c.history.result.now
    c.in_ok-replied.replied c.deref.ensures.value c.history.ensures.entries c.in_ok-replied.ensures.its c.in_ok-file.ensures.fits c.in_ok-file.ensures.judged c.in_ok-replied.ensures.run in
    on_ok_weaker c.send.result
    (written_again c.args.stamp.now c.args.text.now c.in_ok-file.file.header c.args.entry c.args.book.now.history c.in_ok-replied.replied
    (write_ends g.W.Sink c.args.writer.now c.send.new.writer) its)
    c.send.ensures.all

pub returns-clause-why_not : goal.returns-clause-why_not
returns-clause-why_not g c =
    let ends : WriteEnds = write_ends g.W.Sink c.args.writer.now c.send.new.writer in
    let its = own_run c.args.text.now c.in_ok-file.file.header c.in_ok-file.file.transactions.items c.deref.result.now c.args.entry c.args.book.now.history c.history.result.now
    c.in_ok-replied.replied c.deref.ensures.value c.history.ensures.entries c.in_ok-replied.ensures.its c.in_ok-file.ensures.fits c.in_ok-file.ensures.judged c.in_ok-replied.ensures.run in
    IfErr-weaker c.send.result
    (IsSentInPart ends (ack_text c.args.stamp.now c.in_ok-file.file.header (items_with_replies c.in_ok-replied.replied.transactions c.in_ok-replied.replied.replies)))
    (IsWhyNot c.args.stamp.now c.args.text.now c.args.entry c.args.book.now.history ends)
    (λ why part. cut_again c.args.stamp.now c.args.text.now c.in_ok-file.file.header c.args.entry c.args.book.now.history c.in_ok-replied.replied ends why its part)
    c.send.ensures.part
