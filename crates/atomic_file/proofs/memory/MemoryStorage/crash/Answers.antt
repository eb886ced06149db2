use Rattle.std.proofs.Common.{◌≡◌, ◌+◌, ◌<◌, length, vec_len, ◌∙◌, rules, sym, ap, subst, inl, arith}
use Rattle.atomic_file.specs.Memory.{undoing_slot, lies}
use Rattle.atomic_file.proofs.OneByOne.{Crashing, Crashing-none, Crashing-settled, Crashing-undone, Crashing-all, Crashing-left, Staying, Staying-none, Staying-settled, Staying-undone, Only-settled, Within-undone, undone_lies_of, Undoing, Undoing-none, Undoing-settled, Undoing-undone, Undoing-all}
use Rattle.atomic_file.proofs.memory.MemoryStorage.crash.Goals as goal
use Rattle.atomic_file.proofs.memory.MemoryStorage.crash.Goals.{then-has_stayed, else-has_stayed}

pub loop-at-init : goal.loop-at-init
loop-at-init g c = record {
  so_far = Crashing-none _ _ (Within-undone _ _ (c.undo.ensures ∙ ap (λ m. undoing_slot m.shelf.file) c.remember.ensures.same) (ap (λ m. m.shelf.followers) c.remember.ensures.same));
  file = ap (λ slot. slot.is_settled) c.undo.ensures;
  stayed = Staying-none c.args.stayed.now c.args.self.now.shelf c.remember.new.self.shelf (ap (λ m. m.shelf.followers) c.remember.ensures.same);
  undone = Undoing-none c.args.stayed.now c.args.self.now.shelf _ (c.undo.ensures ∙ ap (λ m. undoing_slot m.shelf.file) c.remember.ensures.same) (ap (λ m. m.shelf.followers) c.remember.ensures.same);
  under_name = undone_lies_of _ _ (c.undo.ensures ∙ ap (λ m. undoing_slot m.shelf.file) c.remember.ensures.same);
  past = search rules;
  failed = search rules;
}

pub loop-at-preserved : goal.loop-at-preserved
loop-at-preserved g c =
    let begun : c.remember.new.self.shelf ≡ c.args.self.now.shelf = search rules in
    let count : c.len-at-end.result ≡ vec_len c.args.self.now.shelf.followers = rw begun at c.len-at-end.ensures in
    let bound : c.loop-at.at < length c.loop-at.self.shelf.followers.items = omega (arith, c.loop-at-test.true, count, c.loop-at.invariant.so_far.within.count) in
    elim c.if-has_stayed.branch [
      | then-has_stayed w ↦ record {
        so_far = subst (λ shelf. Crashing (c.loop-at.at + 1) c.args.self.now.shelf shelf) (sym (ap (λ m. m.shelf) w.self-is)) (Crashing-settled _ _ c.loop-at.self.shelf _ c.loop-at.invariant.so_far w.settle_follower.ensures bound);
        file = ap (λ m. m.shelf.file.is_settled) w.self-is ∙ ap (λ shelf. shelf.file.is_settled) w.settle_follower.ensures.same ∙ c.loop-at.invariant.file;
        stayed = subst (λ shelf. Staying (c.loop-at.at + 1) c.args.stayed.now c.args.self.now.shelf shelf) (sym (ap (λ m. m.shelf) w.self-is)) (Staying-settled c.loop-at.at c.args.stayed.now c.args.self.now.shelf c.loop-at.self.shelf w.settle_follower.new.self c.loop-at.invariant.stayed w.settle_follower.ensures);
        undone = subst (λ shelf. Undoing (c.loop-at.at + 1) c.args.stayed.now c.args.self.now.shelf shelf) (sym (ap (λ m. m.shelf) w.self-is)) (Undoing-settled c.loop-at.at c.args.stayed.now c.args.self.now.shelf c.loop-at.self.shelf w.settle_follower.new.self (sym c.has_stayed.ensures ∙ w.if-has_stayed.true) c.loop-at.invariant.undone w.settle_follower.ensures);
        under_name = ap (λ m. lies m.shelf.file) w.self-is ∙ ap (λ shelf. lies shelf.file) w.settle_follower.ensures.same ∙ c.loop-at.invariant.under_name;
        past = search rules;
        failed = search rules;
      }
      | else-has_stayed w ↦ record {
        so_far = subst (λ shelf. Crashing (c.loop-at.at + 1) c.args.self.now.shelf shelf) (sym (ap (λ m. m.shelf) w.self-is)) (Crashing-undone _ _ c.loop-at.self.shelf _ c.loop-at.invariant.so_far w.undo_follower.ensures bound);
        file = ap (λ m. m.shelf.file.is_settled) w.self-is ∙ ap (λ shelf. shelf.file.is_settled) w.undo_follower.ensures.same ∙ c.loop-at.invariant.file;
        stayed = subst (λ shelf. Staying (c.loop-at.at + 1) c.args.stayed.now c.args.self.now.shelf shelf) (sym (ap (λ m. m.shelf) w.self-is)) (Staying-undone c.loop-at.at c.args.stayed.now c.args.self.now.shelf c.loop-at.self.shelf w.undo_follower.new.self (sym c.has_stayed.ensures ∙ w.if-has_stayed.false) c.loop-at.invariant.stayed w.undo_follower.ensures);
        undone = subst (λ shelf. Undoing (c.loop-at.at + 1) c.args.stayed.now c.args.self.now.shelf shelf) (sym (ap (λ m. m.shelf) w.self-is)) (Undoing-undone c.loop-at.at c.args.stayed.now c.args.self.now.shelf c.loop-at.self.shelf w.undo_follower.new.self c.loop-at.invariant.undone w.undo_follower.ensures bound);
        under_name = ap (λ m. lies m.shelf.file) w.self-is ∙ ap (λ shelf. lies shelf.file) w.undo_follower.ensures.same ∙ c.loop-at.invariant.under_name;
        past = search rules;
        failed = search rules;
      }
    ]

pub returns-clause-left : goal.returns-clause-left
returns-clause-left g c = Crashing-left _ _ _ c.loop-at.invariant.so_far

pub returns-clause-stays : goal.returns-clause-stays
returns-clause-stays g c =
    let begun : c.remember.new.self.shelf ≡ c.args.self.now.shelf = search rules in
    let count : c.len-at-end.result ≡ vec_len c.args.self.now.shelf.followers = rw begun at c.len-at-end.ensures in
    Only-settled _ (Crashing-all _ _ _ (search rules) c.loop-at.invariant.file c.loop-at.invariant.so_far)

pub returns-clause-stayed : goal.returns-clause-stayed
returns-clause-stayed g c = λ k said. c.loop-at.invariant.stayed k (inl said)

pub returns-clause-undone : goal.returns-clause-undone
returns-clause-undone g c =
    let begun : c.remember.new.self.shelf ≡ c.args.self.now.shelf = search rules in
    let count : c.len-at-end.result ≡ vec_len c.args.self.now.shelf.followers = rw begun at c.len-at-end.ensures in
    Undoing-all _ _ _ _ (search rules) c.loop-at.invariant.so_far.within.count c.loop-at.invariant.under_name c.loop-at.invariant.undone
