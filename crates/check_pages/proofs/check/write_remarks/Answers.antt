use Rattle.std.proofs.Common.{◌≡◌, ◌∙◌, ◌-◌, ℕ, List, ◌∷◌, Option, sym, ap, subst}
use Rattle.std.specs.Io.KnownBytes.{Appends, append_known}
use Rattle.std.specs.Str.Lines.{lines}
use Rattle.std.proofs.lemmas.Result.{on_ok_weaker}
use Rattle.cwr_report.proofs.lemmas.GoneTo.{gone_to, line_is}
use Rattle.cwr_remarks.specs.declared.remark.Remark.{Remark}
use Rattle.html_text.specs.Pieces.{page_text}
use Rattle.check_pages.specs.RemarkSections.{remark_pieces, remarks_pieces}
use Rattle.check_pages.proofs.Writing.{IsPart, begun, completed, gathered, is_nil, kept, no_remark, put_down, remark_written, with_none}
use Rattle.check_pages.proofs.check.write_remarks.Goals as goal

pub loop-remark-init : goal.loop-remark-init
loop-remark-init g c =
    let start : Option (List ℕ) = g.W.Write.contents c.args.to.now in
    let none : append_known start c.clear.new.self.items ≡ start = ap (λ (l : List ℕ). append_known start l) c.clear.ensures.items ∙ with_none start in
    record {
      text =
          subst (λ (now : Option (List ℕ)). IsPart start now (remarks_pieces (lines c.args.bytes.now) 0 c.args.remarks.now) (remarks_pieces (lines c.args.bytes.now) 0 c.args.remarks.now)) (sym none)
          (begun start _);
      walk = gone_to c.new-walk.result c.of.result (lines c.args.bytes.now) 0 c.of.ensures c.new-walk.ensures.walk;
    }

pub loop-remark-preserved : goal.loop-remark-preserved
loop-remark-preserved g c =
    let all : List (List ℕ) = lines c.args.bytes.now in
    let start : Option (List ℕ) = g.W.Write.contents c.args.to.now in
    let before : Option (List ℕ) = g.W.Write.contents c.loop-remark.to in
    let old : Option (List ℕ) = append_known before c.loop-remark.rooms.out.items in
    let mid : Option (List ℕ) = append_known before c.put_remark.new.rooms.out.items in
    let new : Option (List ℕ) = append_known (g.W.Write.contents c.write_long.new.to) c.write_long.new.gathered.items in
    let remark : Remark = c.in-Some.remark.now in
    let later : List Remark = c.in-Some.later.now in
    let line : List ℕ = c.go_to-line.result.now in
    let text : List ℕ = page_text (remark_pieces line c.loop-remark.before remark later) in
    let first : c.loop-remark.left.now ≡ remark ∷ later = c.in-Some.ensures.cases.0 in
    record {
      text =
          remark_written all c.loop-remark.before remark later line (remarks_pieces all 0 c.args.remarks.now) start old new
          (subst (λ (rs : List Remark). IsPart start old (remarks_pieces all c.loop-remark.before rs) (remarks_pieces all 0 c.args.remarks.now)) first c.loop-remark.invariant.text)
          (line_is all c.of-in-Some.result line c.saturating_sub.result (remark.line - 1) c.of-in-Some.ensures c.saturating_sub.ensures c.go_to-line.ensures.line)
          (kept old mid new text (gathered before c.loop-remark.rooms.out.items c.put_remark.new.rooms.out.items text c.in_ok-put_remark.ensures) c.in_ok-write_long.ensures);
      walk = gone_to c.go_to-line.new.self c.of-in-Some.result all c.saturating_sub.result c.of-in-Some.ensures c.go_to-line.ensures.walk;
    }

pub returns : goal.returns
returns g c =
    let start : Option (List ℕ) = g.W.Write.contents c.args.to.now in
    let before : Option (List ℕ) = g.W.Write.contents c.loop-remark.to in
    let end : Option (List ℕ) = g.W.Write.contents c.write_block.new.to in
    let gathered_text : List ℕ = c.loop-remark.rooms.out.items in
    on_ok_weaker c.write_block.result
    (λ wrote.
    kept start (append_known before gathered_text) end _
    (completed start (append_known before gathered_text) _ _ (no_remark (lines c.args.bytes.now) c.loop-remark.before c.loop-remark.left.now (is_nil c.loop-remark.left.now c.in_default.ensures.cases)) c.loop-remark.invariant.text)
    (put_down before end gathered_text (subst (λ (l : List ℕ). Appends before end l) c.deref.ensures.value wrote)))
    c.write_block.ensures
