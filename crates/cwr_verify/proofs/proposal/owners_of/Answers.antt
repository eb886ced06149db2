use Rattle.std.proofs.Common.{◌∙◌, ℕ, ◌+◌, ap, length, subst, sym}
use Rattle.std.proofs.lemmas.List.{length_push}
use Rattle.std.proofs.lemmas.List.Elements.{All-from_recursion}
use Rattle.work_registry.specs.EntryValue.{EntryValue}
use Rattle.work_registry.specs.Numbers.{IsNumbered}
use Rattle.cwr_verify.proofs.Proposing.{entry_more}
use Rattle.cwr_verify.proofs.proposal.owners_of.Goals as goal

pub owner_of-requires-clause-numbered : goal.owner_of-requires-clause-numbered
owner_of-requires-clause-numbered g c =
    subst (λ (e : EntryValue). IsNumbered e.reply) (sym c.entry-item.is)
    (All-from_recursion (λ (e : EntryValue). IsNumbered e.reply) c.args.history.now c.requires c.loop-entry.entry-index c.entry-item.result c.loop-entry-test.true)

pub loop-entry-preserved : goal.loop-entry-preserved
loop-entry-preserved g c =
    let put = c.in_ok-push.ensures.items in
    let found = c.in_ok-owner.ensures in
    record {
      owned = ap length put ∙ (length_push c.loop-entry.owners.items _ ∙ ap (λ (n : ℕ). n + 1) c.loop-entry.invariant.owned);
      first = entry_more c.args.wanted.now c.args.history.now c.loop-entry.entry-index c.loop-entry.owners.items c.push.new.self.items c.loop-entry.wanted c.owner_of.new.wanted
          c.entry-item.result c.in_ok-owner.owner c.loop-entry-test.true c.entry-item.is put c.loop-entry.invariant.first found.first found.moved;
      waiting = found.waiting;
    }
