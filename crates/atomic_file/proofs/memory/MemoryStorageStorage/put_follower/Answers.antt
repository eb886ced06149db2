use Rattle.std.proofs.Common.{◌≡◌, ◌∙◌, ap, rules}
use Rattle.std.specs.Prelude.{Some}
use Rattle.atomic_file.proofs.Slots.{Renames-follower, Renames-stays, Within-same, Within-refusing, Within-stays, state-placing, state-refusing}
use Rattle.atomic_file.specs.Names.{refusing_follower, placing_follower}
use Rattle.atomic_file.specs.Memory.{state_of}
use Rattle.atomic_file.proofs.memory.MemoryStorageStorage.put_follower.Goals as goal

pub returns-then-fails-clause-refused : goal.returns-then-fails-clause-refused
returns-then-fails-clause-refused g c =
    let same : c.fails-fails.new.self.shelf ≡ c.args.self.now.shelf = search rules in
    ap (λ s. Some s) (state-refusing _ _ _ c.refuse_follower.ensures ∙ ap (λ s. refusing_follower c.args.at (state_of s)) same)

pub returns-then-fails-clause-now : goal.returns-then-fails-clause-now
returns-then-fails-clause-now g c =
    let same : c.fails-fails.new.self.shelf ≡ c.args.self.now.shelf = search rules in
    Renames-stays _ _ _ _ (Within-stays c.args.self.now.shelf _
    (Within-refusing _ _ c.args.self.now.shelf _ (Within-same _) (rw same at c.refuse_follower.ensures) (search rules)))

pub returns-clause-placed : goal.returns-clause-placed
returns-clause-placed g c =
    let same : c.fails-fails.new.self.shelf ≡ c.args.self.now.shelf = search rules in
    ap (λ s. Some s) (state-placing _ _ _ c.place_follower.ensures (search rules) ∙ ap (λ s. placing_follower c.args.at (state_of s)) same)

pub returns-clause-now : goal.returns-clause-now
returns-clause-now g c =
    let same : c.fails-fails.new.self.shelf ≡ c.args.self.now.shelf = search rules in
    Renames-follower c.args.at c.args.self.now.shelf c.place_follower.new.self (rw same at c.place_follower.ensures) (search rules)
