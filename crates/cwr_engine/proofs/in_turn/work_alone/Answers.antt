use Rattle.std.proofs.Common.{rules}
use Rattle.cwr_engine.proofs.lemmas.Turns.{lent_turns}
use Rattle.cwr_engine.proofs.in_turn.work_alone.Goals as goal

pub work_file-registry-requires-clause-turns : goal.work_file-registry-requires-clause-turns
work_file-registry-requires-clause-turns g c = lent_turns c.args.session c.requires.few

pub returns : goal.returns
returns g c = search rules
