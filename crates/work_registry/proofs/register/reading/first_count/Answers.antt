use Rattle.std.proofs.Common.{◌∷◌, ◌++◌, [], refl}
use Rattle.work_registry.specs.RegisterFaults.{lines}
use Rattle.work_registry.proofs.RegisterLines.{lines_first}
use Rattle.work_registry.proofs.RegisterFirstLine.{above_limit, first_read, no_count}
use Rattle.work_registry.proofs.register.reading.first_count.Goals as goal

pub returns-in_default-clause-fault : goal.returns-in_default-clause-fault
returns-in_default-clause-fault c = λ more.
    rw c.fault.ensures (no_count c.args.limit (c.args.line.now ++ 10 ∷ more) (c.args.line.now ++ 10 ∷ []) (lines more) (lines_first c.args.line.now more c.requires) c.in_default.ensures.none)

pub returns-then-count-limit-clause-fault : goal.returns-then-count-limit-clause-fault
returns-then-count-limit-clause-fault c = λ more.
    rw c.fault-then-count-limit.ensures (above_limit c.args.limit c.in-Some.count (c.args.line.now ++ 10 ∷ more) c.args.line.now (lines more) (lines_first c.args.line.now more c.requires) c.in-Some.ensures.fits c.in-Some.ensures.some c.if-count-limit.true)

pub returns-clause-count : goal.returns-clause-count
returns-clause-count c = λ more.
    first_read c.args.limit c.in-Some.count (c.args.line.now ++ 10 ∷ more) c.args.line.now more refl (lines_first c.args.line.now more c.requires) c.in-Some.ensures.fits c.in-Some.ensures.some c.if-count-limit.false
