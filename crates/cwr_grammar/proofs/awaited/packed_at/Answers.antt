use Rattle.std.proofs.Common.{◌∙◌, length, sym, ap}
use Rattle.cwr_field.specs.Number.{number_of}
use Rattle.cwr_grammar.proofs.AwaitedNumbers.{number_read}
use Rattle.cwr_grammar.proofs.awaited.packed_at.Goals as goal

pub returns : goal.returns
returns c = λ n few is.
    let same = c.bytes.ensures ∙ c.field_at.ensures.value in
    ap number_of (sym same)
    ∙ number_read c.bytes.result n (ap length c.bytes.ensures ∙ c.field_at.ensures.width ∙ c.requires.width) c.packed.ensures.small few (sym c.packed.ensures.value ∙ is)
