use Rattle.std.proofs.Common.{◌∙◌, List, ℕ, IsTrue, ap, sym, subst}
use Rattle.cwr_call.specs.Lawful.{is_clean}
use Rattle.work_registry.specs.declared.register.head.Head.{Head}
use Rattle.work_registry.proofs.RegisterEntries.{alone_says, alone_only}
use Rattle.work_registry.proofs.register.entry_line.read_faultless.Goals as goal

pub is_lawful_faultless-requires : goal.is_lawful_faultless-requires
is_lawful_faultless-requires c =
    let P : List ℕ → Type 0 = λ text. IsTrue (is_clean text) in
    let stands = c.in_ok-head.ensures.some in
    let all = c.are_texts_clean.ensures c.if-not-are_texts_clean.false in
    record { submitter = subst P (sym stands.1.1.0) all.0; title = subst P (sym stands.1.1.1.1.0) all.1; number = subst P (sym stands.1.1.1.1.1.0) all.2 }

pub returns-clause-says : goal.returns-clause-says
returns-clause-says c =
    let none = sym (ap (λ (h : Head). h.faults) c.head.view_is) ∙ c.if-head-ne0.false in
    alone_says c.args.line.now c.in_ok-head.head c.if-line-ne-HEAD_WIDTH.false c.in_ok-head.ensures.some c.in_ok-head.ensures.fits c.in_ok-head.ensures.rights none (c.is_lawful_faultless.ensures c.if-not-is_lawful_faultless.false)

pub returns-clause-only : goal.returns-clause-only
returns-clause-only c = alone_only c.args.line.now c.in_ok-head.head c.if-line-ne-HEAD_WIDTH.false c.in_ok-head.ensures.some c.in_ok-head.ensures.rights
