use Rattle.std.proofs.Common.{◌≡◌, ◌∙◌, refl, ap, arith, length}
use Rattle.cwr_engine.specs.Account.{ends_of}
use Rattle.cwr_engine.specs.AckItems.{items_with_replies}
use Rattle.cwr_engine.proofs.Answering.{length_told}
use Rattle.cwr_engine.proofs.Accounts.{few_judged, length_judged, few_told, few_transactions, not_begun, handed_some}
use Rattle.cwr_engine.proofs.engine.hand_in_file.Goals as goal

pub returns-in_default-clause-stopped : goal.returns-in_default-clause-stopped
returns-in_default-clause-stopped g c = λ ts reader writer stamp input judged read none.
    rw c.stopped.ensures (not_begun _ _ _ _ none read.read_on read.few_reads)

pub hand_in_all-registry-requires-clause-few : goal.hand_in_all-registry-requires-clause-few
hand_in_all-registry-requires-clause-few g c = let few = few_judged _ _ _ c.requires.judged.1 in omega (arith, few)

pub hand_in_all-registry-requires-clause-turns : goal.hand_in_all-registry-requires-clause-turns
hand_in_all-registry-requires-clause-turns g c = let few = few_judged _ _ _ c.requires.judged.1 in omega (arith, few, c.requires.turns)

pub hand_in_all-registry-requires-clause-placed : goal.hand_in_all-registry-requires-clause-placed
hand_in_all-registry-requires-clause-placed g c =
    let judged = c.requires.judged in
    (_, judged.0, c.deref.ensures.value ∙ judged.1.judged_are, judged.1.bounds.placed)

pub overflow_cast-len : goal.overflow_cast-len
overflow_cast-len g c =
    let judged = c.requires.judged in
    let few = few_transactions _ _ judged.1.bounds in
    let all = length_judged _ judged.0 _ judged.1 in
    let fewer = rw c.in-Err.is at c.hand_in_all-registry.ensures.some in
    let same = ap length c.deref.ensures.value in
    omega (arith, few, all, fewer, same, c.len-in-Err.ensures, c.hand_in_all-registry.new.replies.ok.0)

pub returns-in-Err-clause-marked : goal.returns-in-Err-clause-marked
returns-in-Err-clause-marked g c =
    rw c.stopped-in-Err.ensures (rw c.in-Err.is at c.hand_in_all-registry.ensures.marked)

pub returns-in-Err-clause-stopped : goal.returns-in-Err-clause-stopped
returns-in-Err-clause-stopped g c =
    let replies = c.hand_in_all-registry.new.replies in
    let fewer = rw c.in-Err.is at c.hand_in_all-registry.ensures.some in
    let long = length_told c.deref.result.now replies.items (omega (arith, fewer)) in
    let count : c.len-in-Err.result ≡ length (items_with_replies c.deref.result.now replies.items) = omega (arith, long, replies.ok.0, c.len-in-Err.ensures) in
    λ ts reader writer stamp input judged read none. rw c.stopped-in-Err.ensures (handed_some _ (ends_of reader writer _ _) _ _ _ input _ ts (items_with_replies c.deref.result.now replies.items)
    read.given read.read_on read.few_reads read.read
    (c.hand_in_all-registry.ensures.answered _ ts (c.deref.ensures.value ∙ judged.judged_are) judged.bounds.placed) c.len-in-Err.result count c.in-Err.why none
    (let l = length_judged _ ts _ judged in let same = ap length c.deref.ensures.value in omega (arith, fewer, l, same, long)) (rw c.in-Err.is at c.hand_in_all-registry.ensures.why))

pub invariant_of-answered : goal.invariant_of-answered
invariant_of-answered g c =
    let judged = c.requires.judged in
    let answered = rw c.deref.ensures.value at (c.hand_in_all-registry.ensures.answered _ judged.0 (c.deref.ensures.value ∙ judged.1.judged_are) judged.1.bounds.placed) in
    record { fit = rw c.deref.ensures.value at c.hand_in_all-registry.ensures.fit; few = few_told _ _ _ _ _ _ judged.1.bounds answered }

pub returns-in-Ok-done-clause-answered : goal.returns-in-Ok-done-clause-answered
returns-in-Ok-done-clause-answered g c =
    let transactions = c.args.file.transactions.items in
    let replies = c.hand_in_all-registry.new.replies.items in
    let all : length replies ≡ length transactions = (rw c.in-Ok-done.is at c.hand_in_all-registry.ensures.all) ∙ ap length c.deref.ensures.value in
    let long = length_told transactions replies (omega (arith, all)) ∙ all in
    λ ts judged. record {
      header = refl;
      answered = rw c.deref.ensures.value at (c.hand_in_all-registry.ensures.answered _ ts (c.deref.ensures.value ∙ judged.judged_are) judged.bounds.placed);
      all = long ∙ length_judged _ ts _ judged;
    }
