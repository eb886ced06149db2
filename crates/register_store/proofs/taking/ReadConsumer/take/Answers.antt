use Rattle.std.proofs.Common.{◌∙◌, ℕ, subst}
use Rattle.std.proofs.lemmas.Result.{IfOk-weaker, IfErr-weaker}
use Rattle.work_registry.specs.RegisterFaults.{IsRefusal}
use Rattle.register_store.proofs.taking.ReadConsumer.take.Goals as goal

pub returns-clause-left : goal.returns-clause-left
returns-clause-left g c = IfOk-weaker c.take_lines.result _ _ (λ count read first text later h. (read text later h.0, c.take_lines.ensures.limit ∙ h.1)) c.take_lines.ensures.read

pub returns-clause-fault : goal.returns-clause-fault
returns-clause-fault g c = IfErr-weaker c.take_lines.result _ _ (λ refusal faulty first text later h. subst (λ (n : ℕ). IsRefusal n text refusal) h.1 (faulty text later h.0)) c.take_lines.ensures.fault
