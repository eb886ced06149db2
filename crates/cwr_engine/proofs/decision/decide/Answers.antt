use Rattle.std.proofs.Common.{◌≡◌, ◌↔◌, ◌∙◌, Bool, true, refl, ap, sym}
use Rattle.cwr_call.specs.Lawful.{are_faults}
use Rattle.work_registry.specs.Refusals.{is_for_limit}
use Rattle.work_registry.specs.declared.refused.HandInError.{HandInError}
use Rattle.work_registry.specs.declared.refused.HandInError.TheVariants.{Full, Memory}
use Rattle.cwr_engine.specs.Causes.{IsCause, is_for_full, marked_by, refusal_of}
use Rattle.cwr_engine.specs.Judged.{JudgedValue}
use Rattle.cwr_engine.proofs.Answering.{answered}
use Rattle.cwr_engine.proofs.decision.decide.Goals as goal

pub returns-in-Ok-reply-clause-answered : goal.returns-in-Ok-reply-clause-answered
returns-in-Ok-reply-clause-answered g c = λ submitter t judged placed.
    answered _ submitter t c.args.transaction.now c.in-Ok.call c.in-Ok-reply.reply _ _ judged
    (c.in-Ok.ensures ∙ ap (λ (j : JudgedValue). j.call) c.transaction.view_is)
    (rw c.in-Ok-reply.is at c.hand_in-registry.ensures.gained) placed (rw c.in-Ok-reply.is at c.hand_in-registry.ensures.numbered)
    (ap (λ (j : JudgedValue). are_faults j.call.faults) (sym c.transaction.view_is) ∙ rw c.faults-faults.ensures.value at c.faults-faults.ensures.faults)

pub returns-in-Ok-reply-clause-turns : goal.returns-in-Ok-reply-clause-turns
returns-in-Ok-reply-clause-turns g c = c.hand_in-registry.ensures.turns

pub returns-in-Ok-reply-clause-unmarked : goal.returns-in-Ok-reply-clause-unmarked
returns-in-Ok-reply-clause-unmarked g c = rw c.in-Ok-reply.is at c.hand_in-registry.ensures.unmarked

pub returns-in-Err-clause-turns : goal.returns-in-Err-clause-turns
returns-in-Err-clause-turns g c = c.hand_in-registry.ensures.turns

pub returns-in-Err-clause-kept : goal.returns-in-Err-clause-kept
returns-in-Err-clause-kept g c = rw c.in-Err.is at c.hand_in-registry.ensures.kept

cause_of : (why : HandInError) (full may_shut : Bool) → (why ≡ Full) ↔ (full ≡ true) → IsCause full may_shut (refusal_of why)
cause_of Full full may_shut is = is.0 refl
cause_of Memory full may_shut is = tt

for_limit : (why : HandInError) → is_for_limit why ≡ is_for_full (refusal_of why)
for_limit Full = refl
for_limit Memory = refl

pub returns-in-Err-clause-why : goal.returns-in-Err-clause-why
returns-in-Err-clause-why g c = rw c.refusal.ensures (cause_of c.in-Err.why _ _ (rw c.in-Err.is at c.hand_in-registry.ensures.full))

pub returns-in-Err-clause-marked : goal.returns-in-Err-clause-marked
returns-in-Err-clause-marked g c =
    rw c.refusal.ensures (rw c.in-Err.is at c.hand_in-registry.ensures.marked ∙ ap (λ (full : Bool). marked_by full (g.H.Submit.mark c.args.registry)) (for_limit c.in-Err.why))
