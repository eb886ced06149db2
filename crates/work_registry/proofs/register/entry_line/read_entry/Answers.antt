use Rattle.std.proofs.Common.{◌∙◌, ◌*◌, ap, sym}
use Rattle.work_registry.specs.RegisterColumns as column
use Rattle.work_registry.specs.declared.register.head.Head.{Head}
use Rattle.work_registry.proofs.RegisterEntries.{short, headless, miscounted, faultless, says_some, only_read}
use Rattle.work_registry.proofs.register.entry_line.read_entry.Goals as goal

pub returns-then-line-lt-HEAD_WIDTH-clause-only : goal.returns-then-line-lt-HEAD_WIDTH-clause-only
returns-then-line-lt-HEAD_WIDTH-clause-only g c = λ x line. absurd (short c.args.line.now x c.if-line-lt-HEAD_WIDTH.true line)

pub returns-in_default-clause-only : goal.returns-in_default-clause-only
returns-in_default-clause-only g c = λ x line. absurd (headless c.args.line.now x (rw c.split_at.ensures.front at c.in_default.ensures.none) line)

pub returns-then-rest-head-clause-only : goal.returns-then-rest-head-clause-only
returns-then-rest-head-clause-only g c = λ x line.
    let faults = ap (λ (h : Head). column.fault_width * h.faults) c.head.view_is in
    let wrong = rw c.split_at.ensures.back at c.if-rest-head.true in
    absurd (miscounted c.args.line.now c.in-Some.head x (rw c.split_at.ensures.front at c.in-Some.ensures.some) c.in-Some.ensures.rights (λ e. wrong (e ∙ sym faults)) line)

pub returns-in_default-2-clause-only : goal.returns-in_default-2-clause-only
returns-in_default-2-clause-only g c = λ x line.
    absurd (faultless c.args.line.now c.in_ok-faults.field-0 c.in_default-2.is (rw c.split_at.ensures.back at c.in_ok-faults.ensures.only) x line)

pub returns-clause-says : goal.returns-clause-says
returns-clause-says g c =
    let faults = ap (λ (h : Head). column.fault_width * h.faults) c.head.view_is in
    says_some c.args.line.now c.in-Some.head c.in-Some-2.faults c.entry_from.result c.if-line-lt-HEAD_WIDTH.false (rw c.split_at.ensures.front at c.in-Some.ensures.some) c.in-Some.ensures.fits c.in-Some.ensures.rights
    (rw (c.in-Some-2.is, c.split_at.ensures.back) at c.in_ok-faults.ensures.text) (rw c.in-Some-2.is at c.in_ok-faults.ensures.typed) ((rw c.split_at.ensures.back at c.if-rest-head.false) ∙ faults) c.entry_from.ensures.when c.entry_from.ensures.value

pub returns-clause-only : goal.returns-clause-only
returns-clause-only g c =
    only_read c.args.line.now c.in-Some.head c.in-Some-2.faults c.in_ok-faults.field-0 c.entry_from.result (rw c.split_at.ensures.front at c.in-Some.ensures.some) c.in-Some.ensures.rights
    c.in-Some-2.is (rw c.split_at.ensures.back at c.in_ok-faults.ensures.only) c.entry_from.ensures.when c.entry_from.ensures.value
