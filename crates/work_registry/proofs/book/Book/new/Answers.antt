use Rattle.std.proofs.Common.{◌∙◌}
use Rattle.work_registry.proofs.book.Book.new.Goals as goal

pub returns : goal.returns
returns g c = c.opening_of.ensures ∙ (λ i. record { history = c.new-2.ensures i; limit = c.args.limit })
