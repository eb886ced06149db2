use Rattle.work_registry.proofs.LaterHistories.{keeps-after}
use Rattle.work_registry.proofs.laws.works_keep_their_iswc.Goals as goal

pub returns : goal.returns
returns c = λ old later is. keeps-after old later is
