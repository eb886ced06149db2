use Rattle.std.proofs.Common.{◌∙◌, sym, ap}
use Rattle.cwr_field.specs.Layout.{is_blank}
use Rattle.cwr_field.proofs.Blanks.{is_blank-padded}
use Rattle.cwr_field.proofs.field.Field.is_blank.Goals as goal

pub returns : goal.returns
returns c =
    c.are_blank.ensures ∙ (sym (is_blank-padded c.self.inside.width c.self.inside.bytes.now) ∙ ap is_blank c.self.view_is)
