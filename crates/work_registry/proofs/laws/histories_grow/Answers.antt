use Rattle.std.proofs.Common.{refl}
use Rattle.work_registry.specs.Replay.{entry_for}
use Rattle.work_registry.proofs.SoundHistories.{history-push}
use Rattle.work_registry.proofs.GrowingBooks.{history-replay, history-begin}
use Rattle.work_registry.proofs.laws.histories_grow.Goals as goal

pub returns-clause-one_more : goal.returns-clause-one_more
returns-clause-one_more c = λ history session call is. history-push history (entry_for session history call) is refl

pub returns-clause-replayed : goal.returns-clause-replayed
returns-clause-replayed c = λ history session calls is. history-replay history session calls is

pub returns-clause-beginning : goal.returns-clause-beginning
returns-clause-beginning c = λ history later is. history-begin history later is
