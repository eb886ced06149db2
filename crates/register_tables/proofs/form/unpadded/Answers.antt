use Rattle.std.proofs.Common.{rules, arith, sym, ◌∙◌}
use Rattle.register_tables.proofs.Blanks.{unpadded-take, unpadded-same}
use Rattle.register_tables.proofs.form.unpadded.Goals as goal

pub loop-rest-preserved : goal.loop-rest-preserved
loop-rest-preserved c = unpadded-take c.loop-rest.rest.now (omega arith) (search rules) ∙ c.loop-rest.invariant

pub returns-in_default-2 : goal.returns-in_default-2
returns-in_default-2 c = sym (unpadded-same c.loop-rest.rest.now (omega arith) (search rules)) ∙ c.loop-rest.invariant
