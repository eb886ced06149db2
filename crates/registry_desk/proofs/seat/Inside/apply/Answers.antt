use Rattle.std.proofs.Common.{◌≡◌, ◌≢◌, ◌≤◌, ◌∙◌, true, Err, length, subst, sym, refl, ap}
use Rattle.std.specs.Prelude.{◌↔◌}
use Rattle.work_registry.specs.BookValue.{BookValue}
use Rattle.work_registry.specs.EntryValue.{entry_of}
use Rattle.work_registry.specs.History.{IsHistory}
use Rattle.work_registry.specs.Refusals.{RefusedValue, is_for_limit, is_full}
use Rattle.registry_desk.specs.Standing.{Stay}
use Rattle.registry_desk.proofs.Leaving.{stays_answered, stays_refused}
use Rattle.registry_desk.proofs.seat.Inside.apply.Goals as goal

pub invariant_of-self : goal.invariant_of-self
invariant_of-self g c = let e = c.in-Ok.ensures in let h = c.recall.ensures in
    stays_answered _ _ _ _ _ _ c.self.invariant c.apply.new.self (entry_of c.self.inside.counts.session c.args.call c.in-Ok.reply)
    (subst (λ (x : Stay). x.unused ≡ true) (sym c.self.view_is) c.requires.unused) (subst (λ (x : Stay). x.view.session ≢ 0) (sym c.self.view_is) c.requires.session)
    refl e.entry e.limit h.lawful h.fits

pub invariant_of-self-in-Err : goal.invariant_of-self-in-Err
invariant_of-self-in-Err g c = let e = c.in-Err.ensures in let why = ap (λ (r : RefusedValue). is_for_limit r.why) c.refused.view_is in
    stays_refused _ _ _ _ _ _ c.self.invariant c.apply.new.self (is_for_limit c.refused.inside.why) _ e.unchanged (λ limited. e.full.1 (sym why ∙ limited)) c.marks-self-inside.ensures

pub returns-in-Err-clause-full : goal.returns-in-Err-clause-full
returns-in-Err-clause-full g c = subst (λ (x : Stay). (length x.book.history ≡ x.book.limit) ↔ (is_full (Err c.in-Err.refused) ≡ true)) c.self.view_is c.in-Err.ensures.full

pub returns-in-Err-clause-registry : goal.returns-in-Err-clause-registry
returns-in-Err-clause-registry g c = subst (λ (b : BookValue). IsHistory b.history) (sym c.in-Err.ensures.unchanged) c.self.invariant.registry

pub returns-in-Err-clause-bounded : goal.returns-in-Err-clause-bounded
returns-in-Err-clause-bounded g c = subst (λ (b : BookValue). length b.history ≤ b.limit) (sym c.in-Err.ensures.unchanged) c.self.invariant.bounded
