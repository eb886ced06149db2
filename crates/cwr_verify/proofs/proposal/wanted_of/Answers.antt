use Rattle.std.proofs.Common.{◌≡◌, ◌∙◌, [], ◌∷◌, ◌++◌, ap, sym}
use Rattle.std.proofs.lemmas.List.{map_more}
use Rattle.cwr_verify.specs.Proposed.{wanting_of}
use Rattle.cwr_verify.proofs.proposal.wanted_of.Goals as goal

pub loop-file-preserved : goal.loop-file-preserved
loop-file-preserved g c =
    let made : c.in_ok-of.field-0 ≡ wanting_of c.file-item.result =
    c.in_ok-of.ensures ∙ (λ i. record { replied = record { transactions = c.transactions.ensures.its i; replies = [] }; told = c.in_ok-told.ensures i }) in
    c.in_ok-push.ensures.items
    ∙ ((λ i. c.loop-file.invariant i ++ (made ∙ ap wanting_of c.file-item.is) i ∷ [])
    ∙ sym (map_more wanting_of c.args.files.now c.loop-file.file-index c.file-item.result c.loop-file-test.true))
