use Rattle.std.proofs.Common.{rules, arith, ap, ◌≡◌, ◌+◌, ◌<◌, length, vec_len, vec_capacity}
use Rattle.std.proofs.lemmas.List.Sums.{sum_by_more_le}
use Rattle.cwr_record.specs.FieldValues.{field_value_width}
use Rattle.cwr_record.proofs.Fronts.{front_stays}
use Rattle.cwr_record.proofs.field_values.put_line.Goals as goal

pub returns-then-is_err-clause-err : goal.returns-then-is_err-clause-err
returns-then-is_err-clause-err g c =
    let mark : c.len-mark.result ≡ length c.args.out.now.items = search rules in
    let end : vec_len c.loop-field_value.out ≡ length c.loop-field_value.out.items = search rules in
    rw c.truncate.ensures.items (front_stays _ _ c.args.out.now.items _ _ _ (search rules) c.loop-field_value.invariant.items mark end)

pub returns-then-is_err-clause-full : goal.returns-then-is_err-clause-full
returns-then-is_err-clause-full g c =
    let item = c.field_value-item.result in
    let full : vec_capacity c.loop-field_value.out < vec_len c.loop-field_value.out + field_value_width item = search rules in
    let within = sum_by_more_le field_value_width c.args.field_values.now c.loop-field_value.field_value-index item (omega arith) in
    omega (arith, full, within, ap field_value_width c.field_value-item.is, c.loop-field_value.invariant.capacity, c.loop-field_value.invariant.len)
