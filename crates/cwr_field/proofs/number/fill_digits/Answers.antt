use Rattle.std.proofs.Common.{◌-◌, ◌∙◌, arith}
use Rattle.cwr_field.proofs.lemmas.DigitPairs.{pair_in_front}
use Rattle.cwr_field.proofs.number.fill_digits.Goals as goal

pub loop-end-preserved : goal.loop-end-preserved
loop-end-preserved c =
    let so_far = c.loop-end.invariant in
    let next = pair_in_front c.loop-end.buffer c.copy_from_slice.new.self (c.loop-end.end - 2) c.loop-end.end _ c.loop-end.rest (omega arith) (omega arith) so_far.within (c.copy_from_slice.ensures.after ∙ c.pair_of.ensures) in
    record { len = next.len ∙ so_far.len; within = next.within; text = next.text ∙ so_far.text }
