-- The account of a job names no session, and the history's being full matters only where it stopped the job.
use Rattle.std.proofs.Common.{◌≡◌, ◌∙◌, ◌<◌, ℕ, Bool, true, List, [], ◌∷◌, length, map, ap, sym, subst, refl, arith, take}
use Rattle.std.proofs.lemmas.List.{length-map}
use Rattle.cwr_acknowledgement.specs.AckItem.{Item}
use Rattle.cwr_acknowledgement.specs.Acknowledgement.{ack_text}
use Rattle.cwr_grammar.specs.RawParts.{RawParts}
use Rattle.cwr_record.specs.Stamp.{StampParts}
use Rattle.work_registry.specs.EntryValue.{EntryValue}
use Rattle.work_registry.specs.Register.{opened}
use Rattle.work_registry.proofs.lemmas.Opened.{calls_of-opened}
use Rattle.cwr_engine.specs.Account.{Account, IsAccount, IsMadeOf, IsMadeOfAll, IsMadeOfSome, WriteEnds, ReadEnds, ends_of}
use Rattle.cwr_engine.specs.Causes.{ends_full}
use Rattle.cwr_engine.specs.Items.{item_of, items_of}
use Rattle.cwr_engine.specs.declared.outcome.FileOutcome.{FileOutcome}
use Rattle.cwr_engine.specs.declared.outcome.FileOutcome.TheVariants.{Acked, Refused, Stopped}
use Rattle.cwr_engine.specs.declared.outcome.Why.TheVariants.{Memory, Full, Read, TooLong, Gate, Write}

items-opened : (ts : List RawParts) (made : List EntryValue) → items_of ts (map opened made) ≡ items_of ts made
items-opened [] made = refl
items-opened (t ∷ ts) [] = refl
items-opened (t ∷ ts) (e ∷ made) = ap (λ (items : List Item). item_of t e ∷ items) (items-opened ts made)

count : (made : List EntryValue) → length (map opened made) ≡ length made
count made = length-map made opened

part-opened : {input : List ℕ} (made : List EntryValue) → IsMadeOf input made → IsMadeOf input (map opened made)
part-opened made part = record {
  head = part.head;
  transactions = part.transactions;
  read = part.read;
  calls = rw (calls_of-opened made, count made) part.calls;
}

all-opened : {input : List ℕ} (made : List EntryValue) → IsMadeOfAll input made → IsMadeOfAll input (map opened made)
all-opened made all = record { head = all.head; transactions = all.transactions; read = all.read; calls = calls_of-opened made ∙ all.calls }

some-opened : {input : List ℕ} (made : List EntryValue) → IsMadeOfSome input made → IsMadeOfSome input (map opened made)
unfolding part-opened
some-opened made some = record { part = part-opened made some.part; further = let f = some.further in let c = count made in omega (arith, f, c) }

module _ (reader : ReadEnds) (writer : WriteEnds) (may_shut : Bool) (stamp : StampParts) where
  pub account-opened : (o : FileOutcome) (a b : Bool) (made : List EntryValue) → (ends_full o ≡ true → b ≡ true) → IsAccount (ends_of reader writer a may_shut) stamp o made
      → IsAccount (ends_of reader writer b may_shut) stamp o (map opened made)
  unfolding all-opened
  account-opened o a b made full r =
      record { input = r.input; written = r.written; given = r.given; read_on = r.read_on; few_reads = r.few_reads; appended = r.appended; account = by o full r.account } where
        by : (o : FileOutcome) → (ends_full o ≡ true → b ≡ true) → Account (ends_of reader writer a may_shut) stamp r.input o r.written made
            → Account (ends_of reader writer b may_shut) stamp r.input o r.written (map opened made)
        by (Acked n) f x = record {
          whole = all-opened made x.whole;
          transaction_count = x.transaction_count ∙ sym (count made);
          text = x.text ∙ ap (ack_text stamp x.whole.head) (sym (items-opened x.whole.transactions made));
        }
        by (Refused fault line) f x = (x.0, x.1, rw x.2 refl)
        by (Stopped n Memory) f x = (x.0 ∙ sym (count made), (x.1.0, λ some. part-opened made (x.1.1 (let c = count made in omega (arith, c, some)))))
        by (Stopped n Full) f x = (x.0 ∙ sym (count made), (x.1.0, some-opened made x.1.1, f refl))
        by (Stopped n Gate) f x = (x.0 ∙ sym (count made), (x.1.0, some-opened made x.1.1, x.1.2))
        by (Stopped n Read) f x = (x.0 ∙ sym (count made), (x.1.0, rw x.1.1 refl, x.1.2))
        by (Stopped n TooLong) f x = (x.0 ∙ sym (count made), (x.1.0, rw x.1.1 refl, x.1.2))
        by (Stopped n (Write sent)) f x =
            let all = all-opened made x.1.whole in
            let text = ap (ack_text stamp x.1.whole.head) (sym (items-opened x.1.whole.transactions made)) in (
              x.0 ∙ sym (count made),
              record { whole = all; stopped = x.1.stopped; fewer = subst (λ (l : List ℕ). sent < length l) text x.1.fewer; front = x.1.front ∙ ap (take sent) text },
            )
