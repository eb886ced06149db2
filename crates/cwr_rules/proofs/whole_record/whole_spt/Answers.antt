use Rattle.std.proofs.Common.{ap, arith, ◌∙◌}
use Rattle.cwr_record.specs.declared.record_type.RecordType.TheVariants as of_type
use Rattle.cwr_rules.specs.declared.record.Record.TheVariants as of_rules
use Rattle.cwr_rules.specs.Records.{record_as}
use Rattle.cwr_rules.proofs.FrontFields.{read_in_front}
use Rattle.cwr_rules.proofs.whole_record.whole_spt.Goals as goal

pub returns-in-Some : goal.returns-in-Some
returns-in-Some c =
    let chunk = c.in-Some.ensures.cases in
    (λ i. of_rules.Spt (c.party_of.ensures i) (c.collected.ensures i) (c.of.ensures i)) ∙ ap (record_as of_type.Spt) chunk.same ∙ read_in_front of_type.Spt c.args.line.now 54 (omega arith) chunk.enough
