use Rattle.std.proofs.Common.{sym, subst, arith}
use Rattle.cwr_grammar.specs.ReadUpTo.{ReaderState, IsReadUpTo}
use Rattle.cwr_grammar.proofs.OneLineFurther.{going_small}
use Rattle.cwr_grammar.proofs.file_reader.FileReader.take_line.Goals as goal

pub is_next-requires-clause-small : goal.is_next-requires-clause-small
is_next-requires-clause-small g c =
    let q = c.requires.next in
    let read = subst (λ (s : ReaderState). IsReadUpTo (g.V.Visitor.keeps q.0 c.args.visitor.now) s q.1 q.2) (sym c.self.view_is) q.4 in
    let r = read.goes (c.self.invariant.1 c.if-self.true) in
    going_small _ _ _ _ r.visiting.going (omega (arith, q.6))

pub next_kind-requires-clause-small : goal.next_kind-requires-clause-small
next_kind-requires-clause-small g c =
    let q = c.requires.next in
    let read = subst (λ (s : ReaderState). IsReadUpTo (g.V.Visitor.keeps q.0 c.args.visitor.now) s q.1 q.2) (sym c.self.view_is) q.4 in
    let r = read.goes (c.self.invariant.1 c.if-self.true) in
    going_small _ _ _ _ r.visiting.going (omega (arith, q.6))
