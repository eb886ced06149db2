use Rattle.std.proofs.Common.{rules}
use Rattle.cwr_desk.proofs.at_desk.AtDeskSubmitCall.hand_in.Goals as goal

pub returns-in-Err-clause-full : goal.returns-in-Err-clause-full
returns-in-Err-clause-full g c = search rules

pub returns-in-Err-clause-marked : goal.returns-in-Err-clause-marked
returns-in-Err-clause-marked g c = search rules
