use Rattle.std.proofs.Common.{◌≡◌, ◌∙◌, ◌+◌, ◌-◌, ap, arith}
use Rattle.cwr_grammar.specs.Awaited.{packed_digits_of}
use Rattle.cwr_grammar.proofs.awaited.Awaited.next_transaction.Goals as goal

pub returns : goal.returns
returns c =
    let more : c.args.counts.now.transactions - 1 + 1 ≡ c.args.counts.now.transactions = omega arith in
    c.next_digits.ensures ∙ ap packed_digits_of more
