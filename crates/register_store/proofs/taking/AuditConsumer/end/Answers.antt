use Rattle.std.proofs.lemmas.Result.{IfOk-weaker, IfErr-weaker}
use Rattle.register_store.proofs.taking.AuditConsumer.end.Goals as goal

pub returns-clause-made : goal.returns-clause-made
returns-clause-made g c = IfOk-weaker c.finish.result _ _ (λ count audited first text h. audited text h.0) c.finish.ensures.entries

pub returns-clause-fault : goal.returns-clause-fault
returns-clause-fault g c = IfErr-weaker c.finish.result _ _ (λ refusal faulty first text h. faulty text h.0) c.finish.ensures.fault
