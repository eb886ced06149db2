use Rattle.std.proofs.Common.{◌∙◌, None, refl, sym, arith}
use Rattle.std.proofs.lemmas.List.{take_rest}
use Rattle.std.proofs.lemmas.Result.{err_from_is_err_and}
use Rattle.cwr_grammar.specs.Spans.{Placed}
use Rattle.cwr_grammar.proofs.Placing.{next_here, line_here, placed_file}
use Rattle.cwr_grammar.proofs.ReadFurther.{few_lines, fits_envelope, envelope_given, envelope_faulty}
use Rattle.cwr_grammar.proofs.lemmas.Starts.{starts}
use Rattle.cwr_grammar.proofs.submission.parse_file.Goals as goal

pub loop-line-init : goal.loop-line-init
loop-line-init g c = record {
  inside = omega arith;
  read = rw c.new-reader.ensures (starts (λ _. Placed c.args.bytes.now c.new-spans.result.items None 0) c.args.bytes.now (rw c.new-spans.ensures.items (record { inside = tt; goes = tt; whole_is = refl; opened_is = refl })));
}

pub place_line-requires-clause-next : goal.place_line-requires-clause-next
place_line-requires-clause-next g c =
    let i = c.loop-line.invariant in
    let x = c.in-Some.ensures in
    let here = next_here c.args.bytes.now _ _ _ _ (take_rest c.args.bytes.now c.loop-line.at) x.some x.inside i.inside x.line in
    let inside = here.inside in
    (c.args.bytes.now, i.read, here, omega (arith, inside))

pub returns-in_err-current-clause-fault : goal.returns-in_err-current-clause-fault
returns-in_err-current-clause-fault g c =
    let p = err_from_is_err_and c.from_residual.result c.from_residual.ensures.1 in
    let i = c.loop-line.invariant in
    let x = c.in-Some.ensures in
    rw (p.1, p.2) (c.in_err-current.ensures.fault c.args.bytes.now (next_here c.args.bytes.now _ _ _ _ (take_rest c.args.bytes.now c.loop-line.at) x.some x.inside i.inside x.line) i.read)

pub loop-line-preserved : goal.loop-line-preserved
loop-line-preserved g c =
    let i = c.loop-line.invariant in
    let x = c.in-Some.ensures in
    let here = next_here c.args.bytes.now _ _ _ _ (take_rest c.args.bytes.now c.loop-line.at) x.some x.inside i.inside x.line in
    record {
      inside = here.inside;
      read = c.in_ok-current.ensures.taken c.args.bytes.now here (line_here c.args.bytes.now _ _ _ _ (take_rest c.args.bytes.now c.loop-line.at) x.line x.whole) i.read;
    }

pub envelope-requires-clause-few : goal.envelope-requires-clause-few
envelope-requires-clause-few g c =
    let few = few_lines _ _ _ _ c.loop-line.invariant.read in
    let inside = c.loop-line.invariant.inside in
    omega (arith, few, inside)

pub envelope-requires-clause-ended : goal.envelope-requires-clause-ended
envelope-requires-clause-ended g c = fits_envelope _ _ _ _ c.loop-line.invariant.read

pub returns-in_err-envelope-clause-fault : goal.returns-in_err-envelope-clause-fault
returns-in_err-envelope-clause-fault g c =
    let p = err_from_is_err_and c.from_residual-in_err-envelope.result c.from_residual-in_err-envelope.ensures.1 in
    rw (p.1, p.2) (envelope_faulty _ _ c.args.bytes.now c.loop-line.at _ c.loop-line.invariant.read (sym (take_rest c.args.bytes.now c.loop-line.at) ∙ c.in_default.ensures.none) c.in_err-envelope.ensures.fault)

-- each place has a transaction
pub invariant_of-result : goal.invariant_of-result
invariant_of-result g c =
    (placed_file c.args.bytes.now c.loop-line.spans.items c.loop-line.current c.loop-line.at c.in_ok-envelope.envelope.header _ _
    (envelope_given _ _ c.args.bytes.now c.loop-line.at c.in_ok-envelope.envelope c.loop-line.invariant.read (sym (take_rest c.args.bytes.now c.loop-line.at) ∙ c.in_default.ensures.none) c.in_ok-envelope.ensures.found)).spans_are

pub returns-clause-found : goal.returns-clause-found
returns-clause-found g c =
    (placed_file c.args.bytes.now c.loop-line.spans.items c.loop-line.current c.loop-line.at c.in_ok-envelope.envelope.header _ _
    (envelope_given _ _ c.args.bytes.now c.loop-line.at c.in_ok-envelope.envelope c.loop-line.invariant.read (sym (take_rest c.args.bytes.now c.loop-line.at) ∙ c.in_default.ensures.none) c.in_ok-envelope.ensures.found)).found

pub returns-clause-bounds : goal.returns-clause-bounds
returns-clause-bounds g c =
    (placed_file c.args.bytes.now c.loop-line.spans.items c.loop-line.current c.loop-line.at c.in_ok-envelope.envelope.header _ _
    (envelope_given _ _ c.args.bytes.now c.loop-line.at c.in_ok-envelope.envelope c.loop-line.invariant.read (sym (take_rest c.args.bytes.now c.loop-line.at) ∙ c.in_default.ensures.none) c.in_ok-envelope.ensures.found)).bounds
