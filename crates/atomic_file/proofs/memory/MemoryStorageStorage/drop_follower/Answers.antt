use Rattle.std.proofs.Common.{◌≡◌, ◌∙◌, ap, rules}
use Rattle.std.specs.Prelude.{Some}
use Rattle.atomic_file.specs.Names.{dropping_follower}
use Rattle.atomic_file.specs.Memory.{state_of}
use Rattle.atomic_file.proofs.Slots.{Within-same, Within-dropping, Within-stays, state-dropping}
use Rattle.atomic_file.proofs.memory.MemoryStorageStorage.drop_follower.Goals as goal

pub returns-then-at-len-clause-told : goal.returns-then-at-len-clause-told
returns-then-at-len-clause-told g c =
    let same : c.remember.new.self.shelf ≡ c.args.self.now.shelf = search rules in
    ap (λ s. Some s) (state-dropping _ _ _ c.drop_follower.ensures ∙ ap (λ s. dropping_follower c.args.at (state_of s)) same)

pub returns-then-at-len-clause-now : goal.returns-then-at-len-clause-now
returns-then-at-len-clause-now g c =
    let same : c.remember.new.self.shelf ≡ c.args.self.now.shelf = search rules in
    Within-stays c.args.self.now.shelf _
    (Within-dropping _ _ c.args.self.now.shelf _ (Within-same _) (rw same at c.drop_follower.ensures) (search rules))
