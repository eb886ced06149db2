use Rattle.std.proofs.Common.{◌∙◌, ◌+◌, ℕ, length, drop, sym, ap, subst, arith}
use Rattle.std.proofs.lemmas.List.{take_rest, drop-drop, length-drop}
use Rattle.std.proofs.lemmas.Result.{IfErr-weaker, IfOk-weaker, err_from_is_err_and}
use Rattle.cwr_grammar.specs.ReadUpTo.{IsReadUpTo}
use Rattle.cwr_grammar.proofs.ReadFurther.{next_last, few_lines, fits_envelope, envelope_given, envelope_faulty}
use Rattle.cwr_grammar.proofs.file_reader.FileReader.finish.Goals as goal

pub take_line-requires-clause-next : goal.take_line-requires-clause-next
take_line-requires-clause-next g c =
    let q = c.requires in
    let i = c.loop-line.invariant in
    let x = c.in-Some.ensures in (
      q.0,
      q.1,
      q.2 + c.loop-line.at,
      c.in-Some.line.size,
      i.read q.0 q.1 q.2 q.4 q.3,
      next_last _ _ _ _ _ _ _ q.4 (take_rest c.args.last.now c.loop-line.at) x.some x.inside x.line,
      (let rest = ap length (take_rest c.args.last.now c.loop-line.at) in let size = length-drop c.loop-line.at c.args.last.now in let inside = i.inside in omega (arith, q.5, x.inside, rest, size, inside)),
    )

pub returns-in_err-take_line-clause-fault : goal.returns-in_err-take_line-clause-fault
returns-in_err-take_line-clause-fault g c =
    let p = err_from_is_err_and c.from_residual.result c.from_residual.ensures.1 in
    let i = c.loop-line.invariant in
    let x = c.in-Some.ensures in
    rw (p.1, p.2) (λ first text at here so_far.
    c.in_err-take_line.ensures.fault first text (at + c.loop-line.at) c.in-Some.line.size
    (next_last _ _ _ _ _ _ _ here (take_rest c.args.last.now c.loop-line.at) x.some x.inside x.line) (i.read first text at here so_far))

pub loop-line-preserved : goal.loop-line-preserved
loop-line-preserved g c =
    let i = c.loop-line.invariant in
    let x = c.in-Some.ensures in
    record {
      inside = (let rest = ap length (take_rest c.args.last.now c.loop-line.at) in let size = length-drop c.loop-line.at c.args.last.now in let inside = i.inside in omega (arith, x.inside, rest, size, inside));
      read = λ first text at here so_far.
          subst (λ (k : ℕ). IsReadUpTo (g.V.Visitor.keeps first c.take_line.new.visitor) c.take_line.new.self text k) (omega arith)
          (c.in_ok-take_line.ensures.taken first text (at + c.loop-line.at) c.in-Some.line.size
          (next_last _ _ _ _ _ _ _ here (take_rest c.args.last.now c.loop-line.at) x.some x.inside x.line) (i.read first text at here so_far));
    }

pub envelope-requires-clause-few : goal.envelope-requires-clause-few
envelope-requires-clause-few g c =
    let q = c.requires in
    let few = few_lines _ _ _ _ (c.loop-line.invariant.read q.0 q.1 q.2 q.4 q.3) in
    let inside = c.loop-line.invariant.inside in
    omega (arith, few, q.5, inside)

pub envelope-requires-clause-ended : goal.envelope-requires-clause-ended
envelope-requires-clause-ended g c = let q = c.requires in fits_envelope _ _ _ _ (c.loop-line.invariant.read q.0 q.1 q.2 q.4 q.3)

pub returns-clause-given : goal.returns-clause-given
returns-clause-given g c =
    IfOk-weaker c.envelope.result _ _ (λ envelope found first text at here so_far.
    envelope_given _ _ text (at + c.loop-line.at) envelope (c.loop-line.invariant.read first text at here so_far)
    (sym (drop-drop c.loop-line.at at text) ∙ ap (drop c.loop-line.at) here ∙ sym (take_rest c.args.last.now c.loop-line.at) ∙ c.in_default.ensures.none) found) c.envelope.ensures.found

pub returns-clause-fault : goal.returns-clause-fault
returns-clause-fault g c =
    IfErr-weaker c.envelope.result _ _ (λ refusal faulty first text at here so_far.
    envelope_faulty _ _ text (at + c.loop-line.at) refusal (c.loop-line.invariant.read first text at here so_far)
    (sym (drop-drop c.loop-line.at at text) ∙ ap (drop c.loop-line.at) here ∙ sym (take_rest c.args.last.now c.loop-line.at) ∙ c.in_default.ensures.none) faulty) c.envelope.ensures.fault
