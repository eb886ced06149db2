use Rattle.std.proofs.Common.{◌≡◌, ◌∙◌, ◌-◌, ◌+◌, ◌<◌, ℕ, List, ◌∷◌, Option, refl, sym, ap, subst, arith}
use Rattle.std.specs.Io.KnownBytes.{Appends, append_known}
use Rattle.std.specs.Str.Lines.{lines}
use Rattle.std.proofs.lemmas.Result.{on_ok_weaker}
use Rattle.cwr_report.specs.declared.finding.Finding.{Finding}
use Rattle.cwr_report.proofs.lemmas.GoneTo.{gone_to, line_is}
use Rattle.html_text.specs.Pieces.{page_text}
use Rattle.check_pages.specs.Sections.{finding_pieces}
use Rattle.check_pages.proofs.Writing.{AreWritten, all_written, gathered, is_nil, kept, none_written, one_written, put_down, with_none}
use Rattle.check_pages.proofs.check.write_findings.Goals as goal

pub loop-finding-init : goal.loop-finding-init
loop-finding-init g c =
    let start : Option (List ℕ) = g.W.Write.contents c.args.to.now in
    let none : append_known start c.clear.new.self.items ≡ start = ap (λ (l : List ℕ). append_known start l) c.clear.ensures.items ∙ with_none start in
    record {
      text =
          subst (λ (now : Option (List ℕ)). AreWritten (lines c.args.bytes.now) c.args.findings.now c.args.findings.now c.new-seen.result.counts 0 start now) (sym none)
          (none_written (lines c.args.bytes.now) c.args.findings.now c.new-seen.result.counts start c.new-seen.ensures);
      walk = gone_to c.new-walk.result c.of.result (lines c.args.bytes.now) 0 c.of.ensures c.new-walk.ensures.walk;
    }

pub loop-finding-preserved : goal.loop-finding-preserved
loop-finding-preserved g c =
    let all : List (List ℕ) = lines c.args.bytes.now in
    let findings : List Finding = c.args.findings.now in
    let start : Option (List ℕ) = g.W.Write.contents c.args.to.now in
    let before : Option (List ℕ) = g.W.Write.contents c.loop-finding.to in
    let old : Option (List ℕ) = append_known before c.loop-finding.rooms.out.items in
    let mid : Option (List ℕ) = append_known before c.put_finding.new.rooms.out.items in
    let new : Option (List ℕ) = append_known (g.W.Write.contents c.write_long.new.to) c.write_long.new.gathered.items in
    let finding : Finding = c.in-Some.finding.now in
    let later : List Finding = c.in-Some.later.now in
    let line : List ℕ = c.go_to-line.result.now in
    let number : ℕ = finding.fault.number in
    let small : number < 256 = omega arith in
    let k : ℕ = c.count-k.result + 1 in
    let text : List ℕ = page_text (finding_pieces line c.loop-finding.before k c.count.result finding later) in
    let first : c.loop-finding.left.now ≡ finding ∷ later = c.in-Some.ensures.cases.0 in
    record {
      text =
          one_written all findings later finding c.loop-finding.seen.counts c.add.new.self.counts c.loop-finding.before number k c.count.result line start old new
          (subst (λ (fs : List Finding). AreWritten all findings fs c.loop-finding.seen.counts c.loop-finding.before start old) first c.loop-finding.invariant.text)
          refl small c.add.ensures (ap (λ (n : ℕ). n + 1) c.count-k.ensures) (c.count.ensures ∙ c.of-totals.ensures.each number small)
          (line_is all c.of-in-Some.result line c.saturating_sub.result (finding.line - 1) c.of-in-Some.ensures c.saturating_sub.ensures c.go_to-line.ensures.line)
          (kept old mid new text (gathered before c.loop-finding.rooms.out.items c.put_finding.new.rooms.out.items text c.in_ok-put_finding.ensures) c.in_ok-write_long.ensures);
      walk = gone_to c.go_to-line.new.self c.of-in-Some.result all c.saturating_sub.result c.of-in-Some.ensures c.go_to-line.ensures.walk;
    }

pub returns : goal.returns
returns g c =
    let start : Option (List ℕ) = g.W.Write.contents c.args.to.now in
    let before : Option (List ℕ) = g.W.Write.contents c.loop-finding.to in
    let end : Option (List ℕ) = g.W.Write.contents c.write_block.new.to in
    let gathered_text : List ℕ = c.loop-finding.rooms.out.items in
    on_ok_weaker c.write_block.result
    (λ wrote.
    kept start (append_known before gathered_text) end _
    (all_written (lines c.args.bytes.now) c.args.findings.now c.loop-finding.left.now c.loop-finding.seen.counts c.loop-finding.before start (append_known before gathered_text)
    (is_nil c.loop-finding.left.now c.in_default.ensures.cases) c.loop-finding.invariant.text)
    (put_down before end gathered_text (subst (λ (l : List ℕ). Appends before end l) c.deref.ensures.value wrote)))
    c.write_block.ensures
