use Rattle.std.proofs.Common.{◌≡◌, ◌∙◌, true, false, ◌++◌, sym, ap, arith, length-append}
use Rattle.std.proofs.lemmas.Result.{err_from_is_err_and}
use Rattle.byte_streams.specs.Window.{WindowState, between}
use Rattle.byte_streams.proofs.lemmas.Given.{both}
use Rattle.byte_streams.proofs.Stops.{stopped_on}
use Rattle.byte_streams.proofs.window.Window.drain.Goals as goal

pub loop-self-preserved : goal.loop-self-preserved
loop-self-preserved g c =
    let i = c.loop-self.invariant in
    let h = c.in_ok-fill.ensures.read in
    let read = ap (λ (s : WindowState). s.read) c.self.view_is in
    let limit = ap (λ (s : WindowState). s.limit) c.self.view_is in
    let goes : c.loop-self.self.is_ended ≡ false = sym (ap (λ (s : WindowState). s.is_ended) c.self.view_is) ∙ c.loop-self-test.true in
    let each = i.each goes in
    let more = h.1.read in
    let sum = length-append i.read.0 h.0 in
    let so_far = i.read.2 in
    let one = c.in_ok-fill.ensures.counted in
    record {
      going = c.in_ok-fill.ensures.going;
      read = (i.read.0 ++ h.0, both _ _ _ _ _ i.read.1 h.1.consumed, omega (arith, more, read, sum, so_far), λ ended. absurd (let never : true ≡ false = sym ended ∙ i.open_first goes in cc));
      limit = h.1.limit ∙ limit ∙ i.limit;
      within = h.1.within;
      at_end = h.1.at_end;
      open_first = λ _. i.open_first goes;
      counted = omega (arith, one, each, more, read);
      none = λ ended. absurd (let never : true ≡ false = sym ended ∙ i.open_first goes in cc);
      each = λ on. (let some = h.1.some on in omega (arith, one, each, more, read, some));
    }

pub returns-in_err-fill-clause-stopped : goal.returns-in_err-fill-clause-stopped
returns-in_err-fill-clause-stopped g c =
    let p = err_from_is_err_and c.from_residual.result c.from_residual.ensures.1 in
    let i = c.loop-self.invariant in
    let f = c.self.inside in
    let now : WindowState = record { held = between f.bytes.items f.end f.end; read = f.read; limit = f.limit; is_ended = f.is_ended } in
    let read = ap (λ (s : WindowState). s.read) c.self.view_is in
    let limit = ap (λ (s : WindowState). s.limit) c.self.view_is in
    rw (p.1, p.2) (stopped_on c.args.self.now now _ _ _ _ _ _ i.read.1 (read ∙ i.read.2) (limit ∙ i.limit) c.in_err-fill.ensures.stopped)

pub returns-in_err-fill-clause-read_on : goal.returns-in_err-fill-clause-read_on
returns-in_err-fill-clause-read_on g c =
    let on = c.fill.ensures.read_on in
    (_, both _ _ _ _ _ c.loop-self.invariant.read.1 on.1)
