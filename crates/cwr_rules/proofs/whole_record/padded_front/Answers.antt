use Rattle.std.proofs.Common.{ap, ◌∙◌}
use Rattle.cwr_rules.specs.Records.{record_as}
use Rattle.cwr_rules.proofs.FrontFields.{read_of_padded}
use Rattle.cwr_rules.proofs.whole_record.padded_front.Goals as goal

pub returns : goal.returns
returns c = λ record_type. ap (record_as record_type) (c.bytes.ensures ∙ c.field_at.ensures.value) ∙ read_of_padded record_type c.args.line.now
