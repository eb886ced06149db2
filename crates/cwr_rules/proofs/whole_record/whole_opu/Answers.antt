use Rattle.std.proofs.Common.{ap, arith, ◌∙◌}
use Rattle.cwr_record.specs.declared.record_type.RecordType.TheVariants as of_type
use Rattle.cwr_rules.specs.declared.record.Record.TheVariants as of_rules
use Rattle.cwr_rules.specs.Records.{record_as}
use Rattle.cwr_rules.proofs.FrontFields.{read_in_front}
use Rattle.cwr_rules.proofs.whole_record.whole_opu.Goals as goal

pub returns-in-Some : goal.returns-in-Some
returns-in-Some c =
    let chunk = c.in-Some.ensures.cases in
    (λ i. of_rules.Opu (c.party_of.ensures i) (c.owned.ensures i)) ∙ ap (record_as of_type.Opu) chunk.same ∙ read_in_front of_type.Opu c.args.line.now 136 (omega arith) chunk.enough
