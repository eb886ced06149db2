use Rattle.std.proofs.Common.{◌∙◌, ℕ, subst}
use Rattle.std.proofs.lemmas.Result.{IfOk-weaker, IfErr-weaker}
use Rattle.work_registry.specs.RegisterFaults.{IsRefusal}
use Rattle.register_store.proofs.Given.{all_of}
use Rattle.register_store.proofs.taking.ReadConsumer.end.Goals as goal

pub returns-clause-made : goal.returns-clause-made
returns-clause-made g c =
    let e = c.finish.ensures in
    IfOk-weaker c.finish.result _ _ (λ book is first text h. (is.0 text h.0, is.1, is.2, is.3 ∙ h.1)) (all_of c.finish.result _ _ _ _ e.text e.lawful e.opening e.limit)

pub returns-clause-fault : goal.returns-clause-fault
returns-clause-fault g c = IfErr-weaker c.finish.result _ _ (λ refusal faulty first text h. subst (λ (n : ℕ). IsRefusal n text refusal) h.1 (faulty text h.0)) c.finish.ensures.fault
