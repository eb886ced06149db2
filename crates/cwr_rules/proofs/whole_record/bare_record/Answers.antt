use Rattle.std.proofs.Common.{refl, sym, ap, ◌∙◌}
use Rattle.cwr_record.specs.declared.record_type.RecordType.{RecordType}
use Rattle.cwr_record.specs.declared.record_type.RecordType.TheVariants as of_type
use Rattle.cwr_rules.specs.declared.record.Record.TheVariants as of_rules
use Rattle.cwr_rules.specs.Records.{record_as}
use Rattle.cwr_rules.proofs.FrontFields.{owned_behind_publisher, owned_behind_writer}
use Rattle.cwr_rules.proofs.whole_record.bare_record.Goals as goal

pub returns-in-Spu : goal.returns-in-Spu
returns-in-Spu c =
    let line = c.args.line.now in
    let none = sym (owned_behind_publisher of_type.Spu line refl c.if-line.true) in
    (λ i. of_rules.Spu (c.party_of.ensures i) (none i)) ∙ ap (λ (t : RecordType). record_as t line) (sym c.in-Spu.is)

pub returns-in-Opu : goal.returns-in-Opu
returns-in-Opu c =
    let line = c.args.line.now in
    let none = sym (owned_behind_publisher of_type.Opu line refl c.if-line-2.true) in
    (λ i. of_rules.Opu (c.party_of-in-Opu.ensures i) (none i)) ∙ ap (λ (t : RecordType). record_as t line) (sym c.in-Opu.is)

pub returns-in-Swr : goal.returns-in-Swr
returns-in-Swr c =
    let line = c.args.line.now in
    let none = sym (owned_behind_writer of_type.Swr line refl c.if-line-3.true) in
    (λ i. of_rules.Swr (c.party_of-in-Swr.ensures i) (none i)) ∙ ap (λ (t : RecordType). record_as t line) (sym c.in-Swr.is)

pub returns-in-Owr : goal.returns-in-Owr
returns-in-Owr c =
    let line = c.args.line.now in
    let none = sym (owned_behind_writer of_type.Owr line refl c.if-line-4.true) in
    ap of_rules.Owr none ∙ ap (λ (t : RecordType). record_as t line) (sym c.in-Owr.is)
