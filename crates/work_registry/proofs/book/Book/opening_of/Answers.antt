use Rattle.std.proofs.Common.{◌∙◌, ◌≡◌, ap, arith, length, sym}
use Rattle.work_registry.specs.Replay.{opening_count}
use Rattle.work_registry.proofs.ReopenedBooks.{count_all}
use Rattle.work_registry.proofs.book.Book.opening_of.Goals as goal

pub invariant_of-result : goal.invariant_of-result
invariant_of-result g c =
    let same : c.args.history.items ≡ c.history_index.inside.past = c.requires.same ∙ sym c.history_index.view_is in
    let fits = c.requires.fits in
    let size = ap length c.history_index.view_is in
    let opening : c.len-opening.result ≡ opening_count c.history_index.inside.past =
    c.len-opening.ensures ∙ c.args.history.ok.0 ∙ ap length c.requires.same ∙ sym (ap opening_count c.history_index.view_is ∙ count_all _ c.requires.opening) in
    rw same (
      record { lawful = c.history_index.invariant.0; fits = omega (arith, fits, size); least = c.requires.least; most = c.requires.most },
      c.history_index.invariant.2,
      opening,
    )
