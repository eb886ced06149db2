use Rattle.work_registry.specs.Rows.{rows_of}
use Rattle.work_registry.proofs.SoundHistories.{sound, named_once}
use Rattle.work_registry.proofs.laws.histories_are_sound.Goals as goal

pub returns-clause-shared : goal.returns-clause-shared
returns-clause-shared c = λ h is. (sound h is).small

pub returns-clause-named_once : goal.returns-clause-named_once
returns-clause-named_once c = λ h is. named_once (rows_of h) (sound h is)

pub returns-clause-agrees : goal.returns-clause-agrees
returns-clause-agrees c = λ h is. (sound h is).agrees
