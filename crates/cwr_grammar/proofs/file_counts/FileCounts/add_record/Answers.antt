use Rattle.std.proofs.Common.{◌∙◌, ◌∷◌, ap, map}
use Rattle.cwr_grammar.specs.Counted.{counts_of}
use Rattle.cwr_grammar.specs.Roles.{role_at, role_of}
use Rattle.cwr_grammar.proofs.file_counts.FileCounts.add_record.Goals as goal

pub returns : goal.returns
returns c = λ before is. c.add.ensures (map role_of before) is ∙ ap (λ r. counts_of (r ∷ map role_of before)) (c.role_at.ensures ∙ ap (λ t. role_at t c.args.line.now) c.type_of.ensures)
