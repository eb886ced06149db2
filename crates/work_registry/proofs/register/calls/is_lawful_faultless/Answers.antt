use Rattle.std.proofs.Common.{◌∙◌, ap, sym}
use Rattle.cwr_call.specs.Lawful.{is_iswc, are_at_most}
use Rattle.cwr_field.specs.Share.{max_whole}
use Rattle.work_registry.specs.declared.register.head.Head.{Head}
use Rattle.work_registry.proofs.CleanCalls.{lawful_alone}
use Rattle.work_registry.proofs.register.calls.is_lawful_faultless.Goals as goal

pub returns-then-is_iswc : goal.returns-then-is_iswc
returns-then-is_iswc c = λ whole.
    let head = c.args.head.now in
    let iswc = ap (λ (h : Head). is_iswc h.iswc) c.head.view_is in
    let control = ap (λ (h : Head). are_at_most max_whole h.control) c.head.view_is in
    lawful_alone head.submitter head.title head.number head.kind head.iswc head.control c.requires.submitter c.requires.title c.requires.number
    (sym iswc ∙ sym c.is_iswc.ensures ∙ c.if-is_iswc.true) (sym control ∙ sym c.are_at_most.ensures ∙ whole)
