use Rattle.std.proofs.Common.{◌∙◌, Some, refl, sym, arith}
use Rattle.cwr_grammar.specs.Awaited.{next_detail}
use Rattle.cwr_grammar.proofs.Controls.{printable}
use Rattle.cwr_grammar.proofs.NextDetail.{line_clear}
use Rattle.cwr_grammar.proofs.OneLineFurther.{going_small}
use Rattle.cwr_grammar.proofs.ReadFurther.{behind_header, line_given}
use Rattle.cwr_grammar.proofs.Visits.{visiting_gives, kept_detail, gave_detail}
use Rattle.cwr_grammar.proofs.file_reader.FileReader.take_detail.Goals as goal

pub detail-requires-clause-begun : goal.detail-requires-clause-begun
detail-requires-clause-begun g c =
    let q = c.requires.next in
    let r = q.4.goes c.requires.goes in
    let clear = line_clear r.before c.args.line.now _ r.visiting.going.counted c.requires.goes (sym r.visiting.is.counted ∙ c.requires.opened) c.requires.role c.requires.plain in
    let head = behind_header (g.V.Visitor.keeps q.0 c.args.visitor.now) _ _ _ c.args.line.now (next_detail c.args.self.now.counts) q.4 r (sym c.requires.role) clear refl in
    let kept = visiting_gives (g.V.Visitor.keeps q.0 c.args.visitor.now c.args.self.now.header) _ _ _ c.args.line.now _ r.visiting (sym c.requires.role) clear (omega (arith, q.6)) in
    let h = kept_detail (g.V.Visitor.keeps q.0 c.args.visitor.now (Some head.header)) _ _ (rw head.header_is at kept) refl in
    (q.0, head.header, h.0, h.1, h.2, h.3)

pub detail-requires-clause-printable : goal.detail-requires-clause-printable
detail-requires-clause-printable g c = printable c.args.line.now c.requires.plain.0

pub pass_detail-requires-clause-small : goal.pass_detail-requires-clause-small
pass_detail-requires-clause-small g c =
    let q = c.requires.next in
    let r = q.4.goes c.requires.goes in
    going_small _ _ _ _ r.visiting.going (omega (arith, q.6))

pub returns-clause-taken : goal.returns-clause-taken
returns-clause-taken g c = λ first text at n here so_far.
    let r = so_far.goes c.requires.goes in
    let clear = line_clear r.before c.args.line.now _ r.visiting.going.counted c.requires.goes (sym r.visiting.is.counted ∙ c.requires.opened) c.requires.role c.requires.plain in
    line_given (g.V.Visitor.keeps first c.args.visitor.now) (g.V.Visitor.keeps first c.detail.new.self) _ _ text at n c.args.line.now (next_detail c.args.self.now.counts)
    so_far r here (sym c.requires.role) clear (c.pass_detail.ensures c.args.line.now) refl
    (λ head whole current is kept. gave_detail (g.V.Visitor.keeps first c.args.visitor.now (Some head)) (g.V.Visitor.keeps first c.detail.new.self (Some head)) c.args.line.now (c.in_ok-detail.ensures first head)
    whole current (is ∙ c.requires.opened) kept)
