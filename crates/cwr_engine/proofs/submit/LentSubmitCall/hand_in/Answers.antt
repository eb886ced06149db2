use Rattle.std.proofs.Common.{rules, ap, refl}
use Rattle.work_registry.specs.Refusals.{RefusedValue}
use Rattle.cwr_engine.specs.JobSteps.{entries_at}
use Rattle.cwr_engine.proofs.FullBooks.{full_exactly, known_session}
use Rattle.cwr_engine.proofs.lemmas.Turns.{made_more}
use Rattle.cwr_engine.proofs.submit.LentSubmitCall.hand_in.Goals as goal

pub apply-requires : goal.apply-requires
apply-requires g c = known_session _ c.requires

pub returns-in-Ok-clause-gained : goal.returns-in-Ok-clause-gained
returns-in-Ok-clause-gained g c = record {
  list = made_more c.args.self.session _ _ c.args.call c.in-Ok.reply (rw c.in-Ok.is at c.apply.ensures.entry);
  whole = search rules;
}

pub returns-in-Err-clause-full : goal.returns-in-Err-clause-full
returns-in-Err-clause-full g c =
    full_exactly _ _ c.args.self.book.now c.apply.new.self (ap (λ (r : RefusedValue). r.why) c.refused.view_is) c.in-Err.ensures.full c.in-Err.ensures.unchanged
    c.recall.ensures.fits

pub returns-in-Ok-clause-session : goal.returns-in-Ok-clause-session
returns-in-Ok-clause-session g c = refl

pub returns-in-Err-clause-session : goal.returns-in-Err-clause-session
returns-in-Err-clause-session g c = refl

pub returns-in-Err-clause-kept : goal.returns-in-Err-clause-kept
returns-in-Err-clause-kept g c = ap (entries_at c.args.self.session) c.in-Err.ensures.unchanged
