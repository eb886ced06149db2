use Rattle.std.proofs.Common.{◌∙◌, ℕ, List, ◌-◌, ◌<◌, ◌++◌, length, ap, subst, append_assoc}
use Rattle.cwr_field.specs.Layout.{padded}
use Rattle.cwr_field.specs.Number.{number_text}
use Rattle.work_registry.proofs.WrittenDigits.{zeros_before, two_parts}
use Rattle.work_registry.proofs.register.writing.put_number.Goals as goal

pub returns-clause-text : goal.returns-clause-text
returns-clause-text c =
    let P : ℕ → Type 0 = λ n. c.args.value < n in
    let line = c.args.line.now in
    let zeros = c.args.zeros.now in
    let digits = number_text (c.args.column.width - length zeros) c.args.value in
    let whole = zeros_before zeros c.args.column.width c.args.value c.requires.few c.requires.zeros (subst P c.requires.limit c.if-value-limit.false) in
    c.put-3.ensures.text ∙ ap (λ (xs : List ℕ). xs ++ digits) c.put-2.ensures.text ∙ append_assoc line (padded (length zeros) zeros) digits ∙ ap (λ (xs : List ℕ). line ++ xs) whole

pub returns-clause-before : goal.returns-clause-before
returns-clause-before c = λ behind.
    let P : ℕ → Type 0 = λ n. c.args.value < n in
    let zeros = c.args.zeros.now in
    let digits = number_text (c.args.column.width - length zeros) c.args.value in
    let whole = zeros_before zeros c.args.column.width c.args.value c.requires.few c.requires.zeros (subst P c.requires.limit c.if-value-limit.false) in
    two_parts c.args.line.now c.put-2.new.self c.put-3.new.self (padded (length zeros) zeros) digits (number_text c.args.column.width c.args.value) behind
    (c.put-3.ensures.before behind) (c.put-2.ensures.before (digits ++ behind)) whole
