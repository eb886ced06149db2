use Rattle.std.proofs.Common.{◌+◌, ◌++◌, List, arith, ap, length}
use Rattle.std.specs.List.{flat_map}
use Rattle.cwr_call.specs.declared.transaction_fault.Fault.{Fault}
use Rattle.cwr_record.specs.Lines.{line_of}
use Rattle.cwr_record.specs.Acknowledgement as table
use Rattle.cwr_acknowledgement.specs.Acknowledgement.{ended, ack_record, message_lines}
use Rattle.cwr_acknowledgement.proofs.Puts.{Cuts-more, cut_put, then_whole, size_after}
use Rattle.cwr_acknowledgement.proofs.acknowledgement.put_item.Goals as goal

pub returns-in_err-put_ack-clause-put : goal.returns-in_err-put_ack-clause-put
returns-in_err-put_ack-clause-put g c =
    cut_put c.from_residual.result c.in_err-put_ack.field-0.0 _ _ _ _ _ _ c.from_residual.ensures.1 (Cuts-more _ _ _ _ _ _ c.in_err-put_ack.ensures.put)

pub put_messages-requires-clause-size : goal.put_messages-requires-clause-size
put_messages-requires-clause-size g c =
    let size = size_after _ _ _ _ _ _ c.in_ok-put_ack.ensures.put in
    let same = ap (λ (fs : List Fault). length fs) c.reported_faults.ensures in
    omega (arith, size, same, c.requires.size)

pub returns-clause-put : goal.returns-clause-put
returns-clause-put g c =
    let ack = ended (line_of table.ack (ack_record c.args.form.now.stamp c.args.form.now.header c.args.index c.args.item.now)) in
    then_whole c.put_messages.result _ _ _ _ _ _ 1 _ _ _ _ _ c.in_ok-put_ack.ensures.put c.put_messages.ensures.put
    (ap (λ (fs : List Fault). 1 + length fs) c.reported_faults.ensures)
    (ap (λ (fs : List Fault). ack ++ flat_map ended (message_lines c.args.index 1 fs)) c.reported_faults.ensures)
