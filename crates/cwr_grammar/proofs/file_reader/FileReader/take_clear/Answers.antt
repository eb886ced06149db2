use Rattle.std.proofs.Common.{◌∙◌, Some, sym, ap, subst, arith}
use Rattle.cwr_grammar.specs.ReadUpTo.{ReaderState, IsReadUpTo}
use Rattle.cwr_grammar.proofs.Controls.{printable}
use Rattle.cwr_grammar.proofs.Numbers.{fits_header, clear_role, clear_control}
use Rattle.cwr_grammar.proofs.ReadFurther.{behind_header, line_given}
use Rattle.cwr_grammar.proofs.Visits.{visiting_gives}
use Rattle.cwr_grammar.proofs.file_reader.FileReader.take_clear.Goals as goal

pub give-requires-clause-fits : goal.give-requires-clause-fits
give-requires-clause-fits g c =
    let q = c.requires.next in
    let read = subst (λ (s : ReaderState). IsReadUpTo (g.V.Visitor.keeps q.0 c.args.visitor.now) s q.1 q.2) (sym c.self.view_is) q.4 in
    let r = read.goes (ap (λ (s : ReaderState). s.counts.is_ended) c.self.view_is ∙ c.requires.goes) in
    fits_header r.before c.args.line.now _ _ r.visiting.going.counted c.requires.role
    (clear_role r.before c.args.line.now r.visiting.going.goes (c.requires.clear r.before (sym (ap (λ (s : ReaderState). s.counts) c.self.view_is) ∙ r.visiting.going.counted))) r.visiting.going.few_groups

pub give-requires-clause-printable : goal.give-requires-clause-printable
give-requires-clause-printable g c =
    let q = c.requires.next in
    let read = subst (λ (s : ReaderState). IsReadUpTo (g.V.Visitor.keeps q.0 c.args.visitor.now) s q.1 q.2) (sym c.self.view_is) q.4 in
    let r = read.goes (ap (λ (s : ReaderState). s.counts.is_ended) c.self.view_is ∙ c.requires.goes) in
    printable c.args.line.now (clear_control r.before c.args.line.now r.visiting.going.goes (c.requires.clear r.before (sym (ap (λ (s : ReaderState). s.counts) c.self.view_is) ∙ r.visiting.going.counted)))

pub give-requires-clause-kept : goal.give-requires-clause-kept
give-requires-clause-kept g c =
    let q = c.requires.next in
    let read = subst (λ (s : ReaderState). IsReadUpTo (g.V.Visitor.keeps q.0 c.args.visitor.now) s q.1 q.2) (sym c.self.view_is) q.4 in
    let r = read.goes (ap (λ (s : ReaderState). s.counts.is_ended) c.self.view_is ∙ c.requires.goes) in
    let clear = c.requires.clear r.before (sym (ap (λ (s : ReaderState). s.counts) c.self.view_is) ∙ r.visiting.going.counted) in
    let head = behind_header (g.V.Visitor.keeps q.0 c.args.visitor.now) _ _ _ c.args.line.now c.args.role read r c.requires.role clear c.requires.behind in
    let h = visiting_gives (g.V.Visitor.keeps q.0 c.args.visitor.now (Some head.header)) _ _ _ c.args.line.now _ (rw head.header_is at r.visiting) c.requires.role clear (omega (arith, q.6)) in
    (q.0, head.header, h.0, h.1, h.2, h.3, h.4)

pub pass-requires-clause-clear : goal.pass-requires-clause-clear
pass-requires-clause-clear g c =
    let q = c.requires.next in
    let read = subst (λ (s : ReaderState). IsReadUpTo (g.V.Visitor.keeps q.0 c.args.visitor.now) s q.1 q.2) (sym c.self.view_is) q.4 in
    let r = read.goes (ap (λ (s : ReaderState). s.counts.is_ended) c.self.view_is ∙ c.requires.goes) in
    let few = r.visiting.going.few in
    let counted = sym (ap (λ (s : ReaderState). s.counts) c.self.view_is) ∙ r.visiting.going.counted in
    (r.before, counted, c.requires.clear r.before counted, omega (arith, few, q.6))

pub returns-clause-taken : goal.returns-clause-taken
returns-clause-taken g c = λ first text at n here so_far.
    let r = so_far.goes c.requires.goes in
    line_given (g.V.Visitor.keeps first c.args.visitor.now) (g.V.Visitor.keeps first c.give.new.visitor) _ _ text at n c.args.line.now c.args.role
    so_far r here c.requires.role (c.requires.clear r.before r.visiting.going.counted) c.pass.ensures c.requires.behind
    (λ head whole current is kept. rw (← c.self.view_is) (c.in_ok-give.ensures first head whole current (is ∙ sym (ap (λ (s : ReaderState). s.is_open) c.self.view_is)) kept))
