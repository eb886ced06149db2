use Rattle.std.proofs.Common.{◌≡◌, true, false, rules, sym}
use Rattle.register_store.proofs.keeping.keep_register.Goals as goal

pub returns-in_default-clause-unwritten : goal.returns-in_default-clause-unwritten
returns-in_default-clause-unwritten g c = search rules

pub returns-in-Ok-keep_chunks-clause-withheld : goal.returns-in-Ok-keep_chunks-clause-withheld
returns-in-Ok-keep_chunks-clause-withheld g c = λ e. absurd (let never : false ≡ true = e in cc)

pub returns-clause-any_moment : goal.returns-clause-any_moment
returns-clause-any_moment g c = rw c.in-Ok.ensures.text at c.in-Err.ensures.any_moment

pub returns-clause-kept : goal.returns-clause-kept
returns-clause-kept g c = tt

pub returns-clause-sent : goal.returns-clause-sent
returns-clause-sent g c = λ n e.
    let is : c.in-Err.stopped ≡ n = cc in
    rw (sym is) (rw c.in-Ok.ensures.text at c.in-Err.ensures.few, rw c.in-Ok.ensures.text at c.in-Err.ensures.sent)
