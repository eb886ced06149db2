use Rattle.std.proofs.Common.{◌∙◌, ap, arith}
use Rattle.cwr_record.specs.Lines.{line_of}
use Rattle.cwr_record.specs.Control as control
use Rattle.cwr_acknowledgement.proofs.AckParts.{ack_cut_first, ack_cut_second, ack_cut_third, ack_cut_fourth, ack_put}
use Rattle.cwr_acknowledgement.proofs.Puts.{cut_put, size_after}
use Rattle.cwr_acknowledgement.proofs.acknowledgement.put_all.Goals as goal

pub returns-in_err-put_line-clause-put : goal.returns-in_err-put_line-clause-put
returns-in_err-put_line-clause-put g c =
    cut_put c.from_residual.result c.in_err-put_line.field-0.0 _ _ _ _ _ _ c.from_residual.ensures.1
    (ack_cut_first c.args.stamp.now c.args.header.now (g.L.Answers.items c.args.answers.now) _ c.reported_fault_count-told.ensures _ _ _ _
    (rw (c.bytes.ensures.line ∙ c.header_line.ensures.line ∙ ap (line_of control.header) c.file_header.ensures) at c.in_err-put_line.ensures.put))

pub put_line-requires-2-clause-size : goal.put_line-requires-2-clause-size
put_line-requires-2-clause-size g c =
    let size_0 = size_after _ _ _ _ _ _ c.in_ok-put_line.ensures.put in
    omega (arith, size_0, c.requires.size, c.requires.few)

pub returns-in_err-put_line-2-clause-put : goal.returns-in_err-put_line-2-clause-put
returns-in_err-put_line-2-clause-put g c =
    cut_put c.from_residual-in_err-put_line-2.result c.in_err-put_line-2.field-0.0 _ _ _ _ _ _ c.from_residual-in_err-put_line-2.ensures.1
    (ack_cut_second c.args.stamp.now c.args.header.now (g.L.Answers.items c.args.answers.now) _ c.reported_fault_count-told.ensures _ _ _ _ _ _ _
    (rw (c.bytes.ensures.line ∙ c.header_line.ensures.line ∙ ap (line_of control.header) c.file_header.ensures) at c.in_ok-put_line.ensures.put)
    (rw (c.bytes-2.ensures.line ∙ c.group_head_line.ensures.line ∙ ap (line_of control.group_head) c.group_header.ensures) at c.in_err-put_line-2.ensures.put))

pub put_items-requires-clause-size : goal.put_items-requires-clause-size
put_items-requires-clause-size g c =
    let size_0 = size_after _ _ _ _ _ _ c.in_ok-put_line.ensures.put in
    let size_1 = size_after _ _ _ _ _ _ c.in_ok-put_line-2.ensures.put in
    omega (arith, size_0, size_1, c.requires.size, c.requires.few)

pub returns-in_err-put_items-clause-put : goal.returns-in_err-put_items-clause-put
returns-in_err-put_items-clause-put g c =
    cut_put c.from_residual-in_err-put_items.result c.in_err-put_items.field-0.0 _ _ _ _ _ _ c.from_residual-in_err-put_items.ensures.1
    (ack_cut_third c.args.stamp.now c.args.header.now (g.L.Answers.items c.args.answers.now) _ c.reported_fault_count-told.ensures _ _ _ _ _ _ _ _ _ _
    (rw (c.bytes.ensures.line ∙ c.header_line.ensures.line ∙ ap (line_of control.header) c.file_header.ensures) at c.in_ok-put_line.ensures.put)
    (rw (c.bytes-2.ensures.line ∙ c.group_head_line.ensures.line ∙ ap (line_of control.group_head) c.group_header.ensures) at c.in_ok-put_line-2.ensures.put)
    (rw c.new.ensures at c.in_err-put_items.ensures.put))

pub put_line-requires-3-clause-size : goal.put_line-requires-3-clause-size
put_line-requires-3-clause-size g c =
    let size_0 = size_after _ _ _ _ _ _ c.in_ok-put_line.ensures.put in
    let size_1 = size_after _ _ _ _ _ _ c.in_ok-put_line-2.ensures.put in
    let size_2 = size_after _ _ _ _ _ _ c.in_ok-put_items.ensures.put in
    omega (arith, size_0, size_1, size_2, c.requires.size, c.requires.few)

pub returns-in_err-put_line-3-clause-put : goal.returns-in_err-put_line-3-clause-put
returns-in_err-put_line-3-clause-put g c =
    cut_put c.from_residual-in_err-put_line-3.result c.in_err-put_line-3.field-0.0 _ _ _ _ _ _ c.from_residual-in_err-put_line-3.ensures.1
    (ack_cut_fourth c.args.stamp.now c.args.header.now (g.L.Answers.items c.args.answers.now) _ c.reported_fault_count-told.ensures _ _ _ _ _ _ _ _ _ _ _ _ _
    (rw (c.bytes.ensures.line ∙ c.header_line.ensures.line ∙ ap (line_of control.header) c.file_header.ensures) at c.in_ok-put_line.ensures.put)
    (rw (c.bytes-2.ensures.line ∙ c.group_head_line.ensures.line ∙ ap (line_of control.group_head) c.group_header.ensures) at c.in_ok-put_line-2.ensures.put)
    (rw c.new.ensures at c.in_ok-put_items.ensures.put)
    (rw (c.bytes-3.ensures.line ∙ c.group_trailer_line.ensures.line ∙ ap (line_of control.group_trailer) c.group_trailer-group.ensures, c.len-transactions.ensures) at c.in_err-put_line-3.ensures.put))

pub put_line-requires-4-clause-size : goal.put_line-requires-4-clause-size
put_line-requires-4-clause-size g c =
    let size_0 = size_after _ _ _ _ _ _ c.in_ok-put_line.ensures.put in
    let size_1 = size_after _ _ _ _ _ _ c.in_ok-put_line-2.ensures.put in
    let size_2 = size_after _ _ _ _ _ _ c.in_ok-put_items.ensures.put in
    let size_3 = size_after _ _ _ _ _ _ c.in_ok-put_line-3.ensures.put in
    omega (arith, size_0, size_1, size_2, size_3, c.requires.size, c.requires.few)

pub returns-clause-put : goal.returns-clause-put
returns-clause-put g c =
    ack_put c.args.stamp.now c.args.header.now (g.L.Answers.items c.args.answers.now) _ c.reported_fault_count-told.ensures c.put_line-4.result _ _ _ _ _ _ _ _ _ _ _ _ _
    (rw (c.bytes.ensures.line ∙ c.header_line.ensures.line ∙ ap (line_of control.header) c.file_header.ensures) at c.in_ok-put_line.ensures.put)
    (rw (c.bytes-2.ensures.line ∙ c.group_head_line.ensures.line ∙ ap (line_of control.group_head) c.group_header.ensures) at c.in_ok-put_line-2.ensures.put)
    (rw c.new.ensures at c.in_ok-put_items.ensures.put)
    (rw (c.bytes-3.ensures.line ∙ c.group_trailer_line.ensures.line ∙ ap (line_of control.group_trailer) c.group_trailer-group.ensures, c.len-transactions.ensures) at c.in_ok-put_line-3.ensures.put)
    (rw (c.bytes-4.ensures.line ∙ c.file_trailer_line.ensures.line ∙ ap (line_of control.file_trailer) c.file_trailer-file.ensures, c.len-transactions.ensures) at c.put_line-4.ensures.put)
