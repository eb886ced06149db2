use Rattle.std.proofs.Common.{◌≡◌, ◌+◌, ◌≤◌, ℕ, List, length, map, vec_capacity}
use Rattle.std.specs.List.{AllByRecursion}
use Rattle.cwr_acknowledgement.specs.Acknowledgement.{FitsItem}
use Rattle.cwr_grammar.specs.RawParts.{RawParts, IsPlaced}
use Rattle.cwr_engine.specs.Handing.{AreAnswered}
use Rattle.cwr_engine.specs.AckItems.{items_with_replies}
use Rattle.cwr_engine.specs.Judged.{judged_of}
use Rattle.cwr_engine.proofs.engine.hand_in_all.Given as goal

abbrev pub invariant-loop-index : goal.invariant-loop-index
invariant-loop-index g l = record {
  session : g.H.Submit.session l.registry ≡ g.H.Submit.session l.fn.registry;
  limit : g.H.Submit.limit l.registry ≡ g.H.Submit.limit l.fn.registry;
  home : g.H.Submit.home l.registry ≡ g.H.Submit.home l.fn.registry;
  count : length l.replies.items ≡ l.index;
  answered : (submitter : List ℕ) (ts : List RawParts) → l.transactions ≡ map (judged_of submitter) ts → AllByRecursion IsPlaced ts
      → AreAnswered (g.H.Submit.session l.fn.registry) submitter ts (items_with_replies l.transactions l.replies.items) (g.H.Submit.entries l.fn.registry) (g.H.Submit.entries l.registry);
  mark : g.H.Submit.mark l.registry ≡ g.H.Submit.mark l.fn.registry;
  fit : AllByRecursion FitsItem (items_with_replies l.transactions l.replies.items);
  room : length l.transactions ≤ vec_capacity l.replies;
  turns : length l.transactions ≤ g.H.Submit.turns_left l.registry + l.index;
}
