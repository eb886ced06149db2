use Rattle.std.proofs.Common.{◌∙◌, ℕ, List, ◌++◌, ap, ap₂}
use Rattle.std.specs.Prelude.{codes}
use Rattle.rule_pages.specs.Pages.{heading_text, line_text}
use Rattle.rule_pages.proofs.Steps.{four}
use Rattle.rule_pages.proofs.pages.put_page.Goals as goal

pub returns : goal.returns
returns g c =
    let heading : List ℕ = c.put_heading.new.out.items in
    let requirement : List ℕ = c.put_line.new.out.items in
    let violation : List ℕ = c.put_line-2.new.out.items in
    four c.args.out.now.items heading requirement violation c.put_line-3.new.out.items
    _ _ _ _
    (c.in_ok-put_heading.ensures ∙ ap₂ (λ (name title : List ℕ). c.args.out.now.items ++ heading_text name title) c.name_of.ensures c.title.ensures)
    (c.in_ok-put_line.ensures ∙ ap (λ (text : List ℕ). heading ++ line_text (codes "requires") text) c.requirement.ensures)
    (c.in_ok-put_line-2.ensures ∙ ap (λ (text : List ℕ). requirement ++ line_text (codes "broken by") text) c.violation.ensures)
    (c.in_ok-put_line-3.ensures ∙ ap (λ (text : List ℕ). violation ++ line_text (codes "fixed by") text) c.fix.ensures)
