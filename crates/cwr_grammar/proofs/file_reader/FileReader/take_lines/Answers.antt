use Rattle.std.proofs.Common.{◌+◌, ℕ, length, ap, subst, arith}
use Rattle.std.proofs.lemmas.List.{take_rest, length-drop}
use Rattle.std.proofs.lemmas.Result.{err_from_is_err_and}
use Rattle.cwr_grammar.specs.ReadUpTo.{IsReadUpTo}
use Rattle.cwr_grammar.proofs.ReadFurther.{next_whole}
use Rattle.cwr_grammar.proofs.file_reader.FileReader.take_lines.Goals as goal

pub take_line-requires-clause-next : goal.take_line-requires-clause-next
take_line-requires-clause-next g c =
    let q = c.requires in
    let i = c.loop-line.invariant in
    let x = c.in-Some.ensures in
    let rest = ap length (take_rest c.args.bytes.now c.loop-line.at) in (
      q.0,
      q.1,
      q.2 + c.loop-line.at,
      c.in-Some.line.size,
      i.read q.0 q.1 q.2 q.4 q.3,
      next_whole _ _ _ _ _ _ _ q.4 i.inside (take_rest c.args.bytes.now c.loop-line.at) x.some x.inside (x.ended c.if-not-line.false),
      (let size = length-drop c.loop-line.at c.args.bytes.now in let inside = i.inside in omega (arith, q.5, x.inside, rest, size, inside)),
    )

pub returns-in_err-take_line-clause-fault : goal.returns-in_err-take_line-clause-fault
returns-in_err-take_line-clause-fault g c =
    let p = err_from_is_err_and c.from_residual.result c.from_residual.ensures.1 in
    let i = c.loop-line.invariant in
    let x = c.in-Some.ensures in
    rw (p.1, p.2) (λ first text at here so_far.
    c.in_err-take_line.ensures.fault first text (at + c.loop-line.at) c.in-Some.line.size
    (next_whole _ _ _ _ _ _ _ here i.inside (take_rest c.args.bytes.now c.loop-line.at) x.some x.inside (x.ended c.if-not-line.false)) (i.read first text at here so_far))

pub loop-line-preserved : goal.loop-line-preserved
loop-line-preserved g c =
    let i = c.loop-line.invariant in
    let x = c.in-Some.ensures in
    record {
      inside = (let rest = ap length (take_rest c.args.bytes.now c.loop-line.at) in let size = length-drop c.loop-line.at c.args.bytes.now in let inside = i.inside in omega (arith, x.inside, rest, size, inside));
      read = λ first text at here so_far.
          subst (λ (k : ℕ). IsReadUpTo (g.V.Visitor.keeps first c.take_line.new.visitor) c.take_line.new.self text k) (omega arith)
          (c.in_ok-take_line.ensures.taken first text (at + c.loop-line.at) c.in-Some.line.size
          (next_whole _ _ _ _ _ _ _ here i.inside (take_rest c.args.bytes.now c.loop-line.at) x.some x.inside (x.ended c.if-not-line.false)) (i.read first text at here so_far));
    }
