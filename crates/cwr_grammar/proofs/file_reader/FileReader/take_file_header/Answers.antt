use Rattle.std.proofs.Common.{◌≡◌, ◌∙◌, Some, sym, ap}
use Rattle.cwr_field.proofs.lemmas.Printable.{printable-field}
use Rattle.cwr_record.specs.Columns.{header_sender}
use Rattle.cwr_grammar.specs.ReadUpTo.{ReaderState}
use Rattle.cwr_grammar.proofs.Controls.{printable}
use Rattle.cwr_grammar.proofs.Numbers.{clear_control}
use Rattle.cwr_grammar.proofs.ReadFurther.{before_header, header_taken}
use Rattle.cwr_grammar.proofs.file_reader.FileReader.take_file_header.Goals as goal

pub header-requires-clause-nothing : goal.header-requires-clause-nothing
header-requires-clause-nothing g c =
    let q = c.requires.next in
    let r = q.4.goes c.requires.goes in
    (q.0, (before_header (g.V.Visitor.keeps q.0 c.args.visitor.now) _ _ _ c.args.line.now q.4 r (sym c.requires.role) (c.requires.clear r.before r.visiting.going.counted)).2)

pub header-requires-clause-printable : goal.header-requires-clause-printable
header-requires-clause-printable g c =
    let r = c.requires.next.4.goes c.requires.goes in
    let kept = c.pass.ensures.header in
    let same : c.in-Some.header ≡ kept.0 = (let both : Some c.in-Some.header ≡ Some kept.0 = sym c.in-Some.is ∙ ap (λ (s : ReaderState). s.header) c.self.view_is ∙ kept.1 in cc) in
    rw (same, kept.2.1.0)
    (printable-field c.args.line.now header_sender.start header_sender.width (printable c.args.line.now (clear_control r.before c.args.line.now r.visiting.going.goes (c.requires.clear r.before r.visiting.going.counted))))

pub returns : goal.returns
returns g c = λ first text at n here so_far.
    let r = so_far.goes c.requires.goes in
    header_taken (g.V.Visitor.keeps first c.args.visitor.now) (g.V.Visitor.keeps first c.header.new.self) _ _ text at n c.args.line.now c.in-Some.header
    so_far r here (sym c.requires.role) (c.requires.clear r.before r.visiting.going.counted) c.pass.ensures (sym (ap (λ (s : ReaderState). s.header) c.self.view_is) ∙ c.in-Some.is) (c.header.ensures first)
