use Rattle.std.proofs.Common.{◌≡◌, ◌∙◌, ◌-◌, length, ap, arith, rules}
use Rattle.cwr_field.specs.Layout.{padded}
use Rattle.cwr_acknowledgement.proofs.OverLines.{put_behind}
use Rattle.cwr_acknowledgement.proofs.places.put_padded.Goals as goal

pub returns-clause-before : goal.returns-clause-before
returns-clause-before c =
    let width : length c.fill_text.new.buffer ≡ c.args.column.width = search rules in
    let text : c.fill_text.new.buffer ≡ padded c.args.column.width c.args.text.now = c.fill_text.ensures ∙ ap (λ n. padded n c.args.text.now) (search rules) in
    put_behind c.args.line.now c.fill_text.new.buffer (padded c.args.column.width c.args.text.now) (c.args.column.start - 1) _ _ text (omega (arith, width)) (omega (arith, c.requires.within))
