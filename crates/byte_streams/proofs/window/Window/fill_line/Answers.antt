use Rattle.std.proofs.lemmas.Result.{err_from_is_err_and}
use Rattle.byte_streams.proofs.lemmas.Given.{both}
use Rattle.byte_streams.proofs.Stops.{stopped_on}
use Rattle.byte_streams.proofs.window.Window.fill_line.Goals as goal

pub returns-in_err-fill-2-clause-stopped : goal.returns-in_err-fill-2-clause-stopped
returns-in_err-fill-2-clause-stopped g c =
    let p = err_from_is_err_and c.from_residual-in_err-fill-2.result c.from_residual-in_err-fill-2.ensures.1 in
    let h = c.loop-self.invariant.read in
    rw (p.1, p.2) (stopped_on c.args.self.now c.loop-self.self _ _ _ h.0 _ _ h.1.consumed h.1.read h.1.limit c.in_err-fill-2.ensures.stopped)

pub returns-in_err-fill-2-clause-read_on : goal.returns-in_err-fill-2-clause-read_on
returns-in_err-fill-2-clause-read_on g c =
    let on = c.fill-in-loop-self.ensures.read_on in
    (_, both _ _ _ _ _ c.loop-self.invariant.read.1.consumed on.1)
