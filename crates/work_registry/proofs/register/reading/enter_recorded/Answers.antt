use Rattle.std.proofs.Common.{◌≡◌, ◌∙◌, ◌∷◌, ◌++◌, [], true, false, Some, ap, sym, refl}
use Rattle.work_registry.specs.RegisterLine.{EntryLine}
use Rattle.work_registry.specs.RegisterFaults.{lines}
use Rattle.work_registry.specs.RecordedDecision.{line_of_decision}
use Rattle.work_registry.proofs.RegisterLines.{lines_first}
use Rattle.work_registry.proofs.RegisterNextLine.{misplaced_line, unlawful_line, lawful_line, told_by, entry_of_line}
use Rattle.work_registry.proofs.register.reading.enter_recorded.Goals as goal

pub returns-then-told-number-clause-fault : goal.returns-then-told-number-clause-fault
returns-then-told-number-clause-fault g c = λ more limit text count counted r.
    rw c.fault.ensures (misplaced_line limit count c.next_number-number.result text (c.args.line.now ++ 10 ∷ more) (c.args.line.now ++ 10 ∷ []) (lines more) c.args.history_index.now (line_of_decision c.args.told c.args.call.now)
    c.next_number-number.ensures (lines_first c.args.line.now more c.requires.one) c.requires.says c.if-told-number.true counted r)

pub returns-then-not-is_recorded-clause-fault : goal.returns-then-not-is_recorded-clause-fault
returns-then-not-is_recorded-clause-fault g c = λ more limit text count counted r.
    let x = line_of_decision c.args.told c.args.call.now in
    let told = told_by x x c.is_recorded.result c.args.history_index.now c.decide-decision.result.reply refl (ap (λ d. d.reply) c.decide-decision.ensures) (λ z p q s. c.is_recorded.ensures z p q s) in
    rw c.fault-then-not-is_recorded.ensures (unlawful_line limit count c.next_number-number.result text (c.args.line.now ++ 10 ∷ more) (c.args.line.now ++ 10 ∷ []) (lines more) c.args.history_index.now (Some x) x
    c.next_number-number.ensures (lines_first c.args.line.now more c.requires.one) c.requires.says refl (λ y is. ap (λ (z : EntryLine). Some z) (sym (c.requires.only y is))) c.if-told-number.false
    (λ t. let no : true ≡ false = sym (told.1 t) ∙ c.if-not-is_recorded.true in cc) counted r)

pub returns-clause-read : goal.returns-clause-read
returns-clause-read g c = λ more limit text count counted r.
    let x = line_of_decision c.args.told c.args.call.now in
    let told = told_by x x c.is_recorded.result c.args.history_index.now c.decide-decision.result.reply refl (ap (λ d. d.reply) c.decide-decision.ensures) (λ z p q s. c.is_recorded.ensures z p q s) in
    lawful_line limit count c.next_number-number.result text (c.args.line.now ++ 10 ∷ more) c.args.line.now more c.args.history_index.now c.enter.new.self (Some x) x c.next_number-number.ensures refl
    (lines_first c.args.line.now more c.requires.one) c.requires.says refl (λ y is. ap (λ (z : EntryLine). Some z) (sym (c.requires.only y is))) c.if-told-number.false (told.0 c.if-not-is_recorded.false)
    (entry_of_line x x c.args.history_index.now c.enter.new.self c.decide-decision.result.reply refl (ap (λ d. d.reply) c.decide-decision.ensures) c.in_ok-enter.ensures.entry) counted r
