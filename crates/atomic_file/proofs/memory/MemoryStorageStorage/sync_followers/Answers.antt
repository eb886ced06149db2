use Rattle.std.proofs.Common.{◌≡◌, ◌+◌, ◌<◌, length, vec_len, rules, sym, ap, subst, arith}
use Rattle.atomic_file.proofs.Slots.{Within-stays}
use Rattle.atomic_file.proofs.OneByOne.{Syncing, Syncing-none, Syncing-refused, Syncing-synced, Syncing-all}
use Rattle.atomic_file.proofs.memory.MemoryStorageStorage.sync_followers.Goals as goal
use Rattle.atomic_file.proofs.memory.MemoryStorageStorage.sync_followers.Goals.{then-fails, else-fails}

pub loop-at-init : goal.loop-at-init
loop-at-init g c = record {
  so_far = Syncing-none _ _ (ap (λ m. m.shelf) c.remember.ensures.same);
  past = search rules;
  failed = search rules;
}

pub loop-at-preserved : goal.loop-at-preserved
loop-at-preserved g c =
    let same : c.fails.new.self.shelf ≡ c.loop-at.self.shelf = search rules in
    let begun : c.remember.new.self.shelf ≡ c.args.self.now.shelf = search rules in
    let count : c.len-at-end.result ≡ vec_len c.args.self.now.shelf.followers = rw begun at c.len-at-end.ensures in
    let bound : c.loop-at.at < length c.loop-at.self.shelf.followers.items = omega (arith, c.loop-at-test.true, count, c.loop-at.invariant.so_far.within.count) in
    elim c.if-fails.branch [
      | then-fails w ↦ record {
        so_far = subst (λ shelf. Syncing (c.loop-at.at + 1) c.args.self.now.shelf shelf) (sym (ap (λ m. m.shelf) w.self-is)) (Syncing-refused _ _ c.loop-at.self.shelf _ c.loop-at.invariant.so_far (rw same at w.refuse_follower.ensures) bound);
        past = search rules;
        failed = search rules;
      }
      | else-fails w ↦ record {
        so_far = subst (λ shelf. Syncing (c.loop-at.at + 1) c.args.self.now.shelf shelf) (sym (ap (λ m. m.shelf) w.self-is)) (Syncing-synced _ _ c.loop-at.self.shelf _ c.loop-at.invariant.so_far (rw same at w.sync_follower.ensures) bound);
        past = search rules;
        failed = search rules;
      }
    ]

pub returns-clause-now : goal.returns-clause-now
returns-clause-now g c = Within-stays _ _ c.loop-at.invariant.so_far.within

pub returns-clause-told : goal.returns-clause-told
returns-clause-told g c =
    let begun : c.remember.new.self.shelf ≡ c.args.self.now.shelf = search rules in
    let count : c.len-at-end.result ≡ vec_len c.args.self.now.shelf.followers = rw begun at c.len-at-end.ensures in
    Syncing-all _ _ _ (search rules) c.loop-at.invariant.so_far
