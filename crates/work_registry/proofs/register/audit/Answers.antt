use Rattle.std.proofs.Common.{ℕ, List, refl}
use Rattle.std.proofs.lemmas.Result.{IfOk-weaker}
use Rattle.work_registry.specs.Register.{IsAudited}
use Rattle.work_registry.specs.RegisterReader.{IsRest}
use Rattle.work_registry.proofs.register.audit.Goals as goal

pub returns-clause-entries : goal.returns-clause-entries
returns-clause-entries g c =
    IfOk-weaker c.finish.result (λ count. (text : List ℕ) → IsRest c.new.result text c.args.bytes.now → IsAudited text count) (IsAudited c.args.bytes.now)
    (λ count h. h c.args.bytes.now (rw c.new.ensures refl)) c.finish.ensures.entries
