use Rattle.std.proofs.Common.{◌≡◌, Some, None, sym, ap, ◌∙◌}
use Rattle.cwr_rules.specs.declared.record.Record.{Record}
use Rattle.cwr_rules.specs.Records.{record_of, records_of}
use Rattle.cwr_rules.specs.Totals.{included}
use Rattle.cwr_rules.proofs.FirstOver.{no_code, not_over, found_over, nowhere_over}
use Rattle.cwr_rules.proofs.added.first_over.Goals as goal

pub loop-line-preserved-in_default : goal.loop-line-preserved-in_default
loop-line-preserved-in_default g c =
    let none : included (record_of c.in-Some.line.now) ≡ None = ap (λ (r : Record). included r) (sym c.record_of.ensures) ∙ sym c.included.ensures ∙ c.in_default.is in
    no_code (records_of c.args.lines) c.loop-line.line-iterator c.next.new.self c.in-Some.line.now c.in-Some.ensures.steps none c.loop-line.invariant

pub loop-line-preserved : goal.loop-line-preserved
loop-line-preserved g c =
    let code = c.in-Some-included.territory in
    let some : included (record_of c.in-Some.line.now) ≡ Some code = ap (λ (r : Record). included r) (sym c.record_of.ensures) ∙ sym c.included.ensures ∙ c.in-Some-included.is in
    not_over (records_of c.args.lines) c.loop-line.line-iterator c.next.new.self c.in-Some.line.now code c.at-totals.result c.in-Some.ensures.steps some
    (c.at-totals.ensures ∙ c.requires.values code) (sym c.is_over.ensures ∙ c.if-is_over.false) c.loop-line.invariant

pub returns-then-is_over : goal.returns-then-is_over
returns-then-is_over g c =
    let code = c.in-Some-included.territory in
    let some : included (record_of c.in-Some.line.now) ≡ Some code = ap (λ (r : Record). included r) (sym c.record_of.ensures) ∙ sym c.included.ensures ∙ c.in-Some-included.is in
    found_over (records_of c.args.lines) c.loop-line.line-iterator c.next.new.self c.in-Some.line.now code c.at-totals.result c.in-Some.ensures.steps some
    (c.at-totals.ensures ∙ c.requires.values code) (sym c.is_over.ensures ∙ c.if-is_over.true) c.loop-line.invariant

pub returns-then-not-collected : goal.returns-then-not-collected
returns-then-not-collected g c = nowhere_over (records_of c.args.lines) (sym c.requires.over_is ∙ c.if-not-collected.true)
