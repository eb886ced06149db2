use Rattle.std.proofs.Common.{◌≡◌, ◌∙◌, inl, inr, List, ℕ, take, Err, ap, sym}
use Rattle.cwr_acknowledgement.specs.Acknowledgement.{ack_text}
use Rattle.cwr_acknowledgement.specs.declared.ack_error.AckError.{AckError}
use Rattle.cwr_acknowledgement.specs.declared.ack_error.AckError.TheVariants.{Write}
use Rattle.cwr_engine.specs.AckItems.{items_with_replies}
use Rattle.cwr_verify.proofs.Comparing.{differs_from, has_written, is_not_true}
use Rattle.cwr_verify.proofs.file_check.compare_acknowledgement.Goals as goal

pub returns-then-is_whole-clause-same : goal.returns-then-is_whole-clause-same
returns-then-is_whole-clause-same g c =
    let sent : List ℕ = c.args.file.now.acknowledgement.now in
    let made : List ℕ = ack_text c.args.stamp.now c.args.header.now (items_with_replies c.answered.result.transactions.now c.answered.result.replies.now) in
    let text : List ℕ = ack_text c.args.stamp.now c.args.header.now (items_with_replies c.args.replied.now.transactions c.args.replied.now.replies) in
    let same : made ≡ text = λ x. ack_text c.args.stamp.now c.args.header.now (items_with_replies (c.answered.ensures.transactions x) (c.answered.ensures.replies x)) in
    let wrote = has_written c.with-compared.result c.send_answers.new.writer sent made c.with-compared.ensures c.in-Ok.ensures.all in
    sym wrote.expects ∙ (sym (c.is_whole.ensures.0 c.if-is_whole.true) ∙ (wrote.wrote ∙ same))

pub returns-else-is_whole-clause-told : goal.returns-else-is_whole-clause-told
returns-else-is_whole-clause-told g c =
    let sent : List ℕ = c.args.file.now.acknowledgement.now in
    let made : List ℕ = ack_text c.args.stamp.now c.args.header.now (items_with_replies c.answered.result.transactions.now c.answered.result.replies.now) in
    let text : List ℕ = ack_text c.args.stamp.now c.args.header.now (items_with_replies c.args.replied.now.transactions c.args.replied.now.replies) in
    let same : made ≡ text = λ x. ack_text c.args.stamp.now c.args.header.now (items_with_replies (c.answered.ensures.transactions x) (c.answered.ensures.replies x)) in
    let wrote = has_written c.with-compared.result c.send_answers.new.writer sent made c.with-compared.ensures c.in-Ok.ensures.all in
    differs_from c.args.number c.send_answers.new.writer sent made text c.other_line.result wrote.expects same
    (c.other_line.ensures made (inl (wrote.wrote, λ whole. is_not_true (c.if-is_whole.ensures.1 whole))))

pub returns-in-Err-Write-clause-told : goal.returns-in-Err-Write-clause-told
returns-in-Err-Write-clause-told g c =
    let sent : List ℕ = c.args.file.now.acknowledgement.now in
    let made : List ℕ = ack_text c.args.stamp.now c.args.header.now (items_with_replies c.answered.result.transactions.now c.answered.result.replies.now) in
    let text : List ℕ = ack_text c.args.stamp.now c.args.header.now (items_with_replies c.args.replied.now.transactions c.args.replied.now.replies) in
    let same : made ≡ text = λ x. ack_text c.args.stamp.now c.args.header.now (items_with_replies (c.answered.ensures.transactions x) (c.answered.ensures.replies x)) in
    let size : ℕ = c.in-Err-Write.field-0-0 in
    let is : c.send_answers.result ≡ Err (Write size) = c.in-Err-Write.is ∙ ap (λ (e : AckError). Err e) c.in-Err-Write.field-0-is in
    let wrote = has_written c.with-compared.result c.send_answers.new.writer sent (take size made) c.with-compared.ensures (c.send_answers.ensures.first size is) in
    differs_from c.args.number c.send_answers.new.writer sent made text c.other_line-in-Err-Write.result wrote.expects same
    (c.other_line-in-Err-Write.ensures made (inr (size, wrote.wrote, c.send_answers.ensures.failed size is)))
