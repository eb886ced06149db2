use Rattle.std.proofs.Common.{◌∙◌, ap, ℕ}
use Rattle.std.specs.Prelude.{◌==◌}
use Rattle.work_registry.specs.Replay.{is_opening}
use Rattle.work_registry.proofs.ReopenedBooks.{is_opening_count}
use Rattle.work_registry.proofs.book.Book.is_opening.Goals as goal

pub returns : goal.returns
returns g c =
    ap (λ (n : ℕ). c.self.inside.opening == n) (c.len.ensures ∙ c.self.inside.history.ok.0) ∙ rw c.self.invariant.2 (is_opening_count c.self.inside.history.items) ∙ ap (λ b. is_opening b.history) c.self.view_is
