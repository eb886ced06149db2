use Rattle.std.proofs.Common.{sym, ap, subst}
use Rattle.cwr_verify.specs.Read.{IsReadFrom}
use Rattle.cwr_verify.specs.Reading.{IsReadingOf}
use Rattle.cwr_verify.specs.Sent.{Sent}
use Rattle.cwr_verify.proofs.Lists.{zip_more}
use Rattle.cwr_verify.proofs.reading.read_files.Goals as goal

pub loop-file-preserved : goal.loop-file-preserved
loop-file-preserved g c =
    zip_more IsReadFrom c.args.files.now c.loop-file.all.items c.push.new.self.items c.loop-file.file-index c.file-item.result
    _ c.loop-file-test.true c.file-item.is c.in_ok-push.ensures.items
    (subst (λ (s : Sent). IsReadingOf s.text c.in_ok-read_text.field-0) c.file.view_is c.in_ok-read_text.ensures, sym (ap (λ (s : Sent). s.acknowledgement) c.file.view_is)) c.loop-file.invariant
