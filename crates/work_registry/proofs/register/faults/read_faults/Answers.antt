use Rattle.std.proofs.Common.{arith, rules, ◌≡◌, ◌<◌, length, ap, ◌∙◌, Some, List}
use Rattle.cwr_call.specs.declared.transaction_fault.Fault.{Fault}
use Rattle.work_registry.proofs.RegisterFaultTexts.{faults_text, read_none, read_more, read_all, read_text, too_short, no_faults, split_is}
use Rattle.work_registry.specs.RegisterColumns as column
use Rattle.work_registry.proofs.register.faults.read_faults.Goals as goal

pub returns-then-rest-lt-FAULT_WIDTH-clause-only : goal.returns-then-rest-lt-FAULT_WIDTH-clause-only
returns-then-rest-lt-FAULT_WIDTH-clause-only g c =
    let some : 0 < length c.loop-rest.rest.now = search rules in
    λ fs whole text. absurd (too_short _ _ _ fs c.loop-rest.invariant some c.if-rest-lt-FAULT_WIDTH.true whole text)

pub returns-in_default-clause-only : goal.returns-in_default-clause-only
returns-in_default-clause-only g c =
    let some : 0 < length c.loop-rest.rest.now = search rules in
    let split = split_is c.loop-rest.rest.now c.split_at.result.0.now c.split_at.result.1.now column.fault_width c.split_at.ensures.front c.split_at.ensures.back in
    λ fs whole text. absurd (no_faults _ _ _ _ _ fs c.loop-rest.invariant split some c.split_at.ensures.front_len c.in_default.ensures.none whole text)

pub loop-rest-preserved : goal.loop-rest-preserved
loop-rest-preserved g c =
    let split = split_is c.loop-rest.rest.now c.split_at.result.0.now c.split_at.result.1.now column.fault_width c.split_at.ensures.front c.split_at.ensures.back in
    read_more _ _ _ _ _ _ _ c.loop-rest.invariant split c.split_at.ensures.front_len c.in-Some.ensures.some c.in-Some.ensures.typed c.in_ok-push.ensures.items

pub returns-clause-only : goal.returns-clause-only
returns-clause-only g c =
    let none : length c.loop-rest.rest.now ≡ 0 = search rules in
    λ fs whole text. ap (λ (xs : List Fault). Some xs) (c.new.ensures ∙ read_all _ _ _ fs c.loop-rest.invariant none whole text)

pub loop-rest-init : goal.loop-rest-init
loop-rest-init g c = read_none c.args.bytes.now c.in_ok-faults.faults.items c.in_ok-faults.ensures.items

pub loop-rest-smaller : goal.loop-rest-smaller
loop-rest-smaller g c = omega (arith, c.split_at.ensures.back_len, c.if-rest-lt-FAULT_WIDTH.false)

pub returns-clause-text : goal.returns-clause-text
returns-clause-text g c =
    let none : length c.loop-rest.rest.now ≡ 0 = search rules in
    ap faults_text c.new.ensures ∙ read_text c.args.bytes.now c.loop-rest.rest.now c.loop-rest.faults.items c.loop-rest.invariant none

pub returns-clause-typed : goal.returns-clause-typed
returns-clause-typed g c = rw c.new.ensures c.loop-rest.invariant.typed
