use Rattle.std.proofs.Common.{◌∙◌, ℕ, List, ◌++◌, ap, ap₂}
use Rattle.std.specs.Prelude.{codes}
use Rattle.rule_pages.specs.Pages.{heading_text, line_text}
use Rattle.rule_pages.proofs.Steps.{four}
use Rattle.rule_pages.proofs.writing.put_answer.Goals as goal

pub returns : goal.returns
returns g c =
    let heading : List ℕ = c.put_heading.new.out.items in
    let means : List ℕ = c.put_line.new.out.items in
    let given : List ℕ = c.put_line-2.new.out.items in
    four c.args.out.now.items heading means given c.put_line-3.new.out.items
    _ _ _ _
    (c.in_ok-put_heading.ensures ∙ ap₂ (λ (name title : List ℕ). c.args.out.now.items ++ heading_text name title) c.code.ensures c.answer_title.ensures)
    (c.in_ok-put_line.ensures ∙ ap (λ (text : List ℕ). heading ++ line_text (codes "means") text) c.meaning_of.ensures)
    (c.in_ok-put_line-2.ensures ∙ ap (λ (text : List ℕ). means ++ line_text (codes "given for") text) c.given_for.ensures)
    (c.in_ok-put_line-3.ensures ∙ ap (λ (text : List ℕ). given ++ line_text (codes "then") text) c.done_then.ensures)
