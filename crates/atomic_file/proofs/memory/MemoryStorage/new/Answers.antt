use Rattle.atomic_file.proofs.OneByOne.{Only-begun, Only-first}
use Rattle.atomic_file.proofs.memory.MemoryStorage.new.Goals as goal

pub returns-clause-settled : goal.returns-clause-settled
returns-clause-settled g c = Only-begun c.settle.new.self _ _ c.settle.ensures.all c.settle.ensures.told c.new-file.ensures.file

pub returns-clause-begun : goal.returns-clause-begun
returns-clause-begun g c =
    Only-first c.settle.new.self _ (Only-begun c.settle.new.self _ _ c.settle.ensures.all c.settle.ensures.told c.new-file.ensures.file)
