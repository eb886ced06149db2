use Rattle.std.proofs.Common.{◌≤◌, length}
use Rattle.work_registry.specs.Register.{IsAudited}
use Rattle.register_store.proofs.Given.{holds_given, unaudited_as}
use Rattle.register_store.proofs.auditing.audit_source.Goals as goal

pub returns-in-Ok-clause-entries : goal.returns-in-Ok-clause-entries
returns-in-Ok-clause-entries g c =
    let m = c.in-Ok.ensures.made in
    holds_given (g.S.Source.left c.args.reader.now) m.0 (λ bytes. IsAudited bytes c.in-Ok.count) m.1 m.3

pub returns-in-Ok-clause-fits : goal.returns-in-Ok-clause-fits
returns-in-Ok-clause-fits g c =
    let m = c.in-Ok.ensures.made in
    holds_given (g.S.Source.left c.args.reader.now) m.0 (λ bytes. length bytes ≤ c.args.limit) m.1 m.2

pub returns-in-Err-clause-unaudited : goal.returns-in-Err-clause-unaudited
returns-in-Err-clause-unaudited g c = unaudited_as c.args.limit _ _ c.in-Err.why c.no_book.result c.no_book.ensures c.in-Err.ensures.unconsumed
