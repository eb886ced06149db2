use Rattle.std.proofs.Common.{◌≡◌, ◌∙◌, ℕ, true, false, length, sym, subst}
use Rattle.std.proofs.lemmas.List.{length-map}
use Rattle.cwr_verify.specs.Reading.{asked_in}
use Rattle.cwr_verify.proofs.Runs.{IsFoundBack, back_none, found_at, none_later, passed_at}
use Rattle.cwr_verify.proofs.run.last_place.Goals as goal

pub loop-at-init : goal.loop-at-init
loop-at-init g c =
    subst (λ (n : ℕ). IsFoundBack (asked_in c.args.transactions.now) c.args.history.now (length c.args.history.now) n) (length-map c.args.transactions.now (λ j. j.call))
    (back_none (asked_in c.args.transactions.now) c.args.history.now)

pub loop-at-preserved-then-has_call : goal.loop-at-preserved-then-has_call
loop-at-preserved-then-has_call g c =
    found_at (asked_in c.args.transactions.now) c.args.history.now c.loop-at.at c.loop-at.left c.index-history-at.result c.loop-at-test.true c.if-left-gt0.true
    c.index-history-at.is (c.has_call.ensures.0 c.if-has_call.true) c.loop-at.invariant

pub loop-at-preserved : goal.loop-at-preserved
loop-at-preserved g c =
    passed_at (asked_in c.args.transactions.now) c.args.history.now c.loop-at.at c.loop-at.left c.index-history-at.result c.loop-at-test.true c.if-left-gt0.true
    c.index-history-at.is (λ call. let other : true ≡ false = sym (c.has_call.ensures.1 call) ∙ c.if-has_call.false in cc) c.loop-at.invariant

pub returns-after-loop-at-clause-later : goal.returns-after-loop-at-clause-later
returns-after-loop-at-clause-later g c = none_later (asked_in c.args.transactions.now) c.args.history.now c.loop-at.at c.loop-at.left c.loop-at.invariant
