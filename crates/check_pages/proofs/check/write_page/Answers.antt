use Rattle.std.proofs.Common.{List, Option, rules, ℕ}
use Rattle.std.specs.Io.KnownBytes.{Appends}
use Rattle.std.specs.Str.Lines.{lines}
use Rattle.std.proofs.lemmas.Result.{on_ok_weaker}
use Rattle.cwr_report.specs.Reported.{Reported}
use Rattle.html_text.specs.Pieces.{page_text}
use Rattle.check_pages.specs.CheckPages.{all_remarks_pieces, faults_pieces}
use Rattle.check_pages.specs.Facts.{fault_count}
use Rattle.check_pages.proofs.Writing.{ended, page_written}
use Rattle.check_pages.proofs.check.write_page.Goals as goal

pub returns : goal.returns
returns g c =
    let r : Reported = c.args.report.now in
    let b : Option (List ℕ) = g.W.Write.contents c.write_front.new.to in
    let d : Option (List ℕ) = g.W.Write.contents c.write_faults.new.to in
    let e : Option (List ℕ) = g.W.Write.contents c.write_all_remarks.new.to in
    let faults : Appends b d (page_text (faults_pieces (lines c.args.bytes.now) r.findings r.refused)) = search rules in
    let remarks : Appends d e (page_text (all_remarks_pieces (lines c.args.bytes.now) (fault_count r.findings r.refused) c.args.remarks.now)) = search rules in
    on_ok_weaker c.write_block.result
    (λ end.
    page_written c.args.name.now c.args.bytes.now r c.args.remarks.now (g.W.Write.contents c.args.to.now) b d e (g.W.Write.contents c.write_block.new.to)
    c.in_ok-write_front.ensures faults remarks (ended e (g.W.Write.contents c.write_block.new.to) c.markup.result.now c.markup.ensures end))
    c.write_block.ensures
