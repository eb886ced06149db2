use Rattle.std.proofs.Common.{vec_len}
use Rattle.cwr_engine.proofs.in_turn.+turn_from.Given as goal

abbrev pub decreases-turn_from : goal.decreases-turn_from
decreases-turn_from g l = vec_len l.jobs
