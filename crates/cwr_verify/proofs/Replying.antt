-- The replies that transactions got, and one more.
use Rattle.std.proofs.Common.{◌≡◌, ◌∙◌, ◌+◌, ℕ, List, [], ◌∷◌, ◌++◌, length, drop, Some, None, IsTrue, refl, sym, ap, subst, arith}
use Rattle.std.specs.Prelude.{option_map, slice_get}
use Rattle.std.specs.List.{AllByRecursion}
use Rattle.std.proofs.lemmas.List.{length-map, length_push}
use Rattle.std.proofs.lemmas.Option.{slice_get-map, slice_get_within}
use Rattle.cwr_call.specs.CallValue.{CallValue}
use Rattle.cwr_call.specs.Lawful.{are_faults}
use Rattle.cwr_acknowledgement.specs.Acknowledgement.{FitsItem}
use Rattle.cwr_engine.specs.Handing.{Entries}
use Rattle.cwr_engine.specs.Judged.{JudgedValue}
use Rattle.cwr_engine.specs.AckItems.{item_with_reply, items_with_replies}
use Rattle.cwr_engine.proofs.Answering.{answered, fit_next, next_judged, told_next, told_none}
use Rattle.work_registry.specs.EntryValue.{EntryValue, entry_of}
use Rattle.work_registry.specs.Numbers.{IsNumbered}
use Rattle.work_registry.specs.declared.reply.Reply.{Reply}
use Rattle.cwr_verify.proofs.Lists.{drop_here, item_at}
use Rattle.cwr_verify.specs.Reading.{asked_in}
use Rattle.cwr_verify.specs.Replied.{AreFitting, AreOfFile}

abbrev pub none_yet : Entries
none_yet = record { list = []; whole = None }

-- what is told of a transaction and of a reply fits its line
item_fits : (transactions : List JudgedValue) (n : ℕ) (judged : JudgedValue) (r : Reply) → AreOfFile transactions
    → drop n transactions ≡ judged ∷ drop (n + 1) transactions → IsNumbered r → IsTrue (are_faults judged.call.faults) → FitsItem (item_with_reply judged r)
item_fits transactions n judged r file here numbered lawful =
    let next = next_judged file.submitter n file.found judged (drop (n + 1) transactions) file.placed (sym here ∙ ap (drop n) file.judged) in
    (answered 0 file.submitter next.transaction judged judged.call r none_yet (record { list = entry_of 0 judged.call r ∷ []; whole = None })
    next.judged_is refl (record { list = refl; whole = tt }) next.placed numbered lawful).fits

-- none yet
pub fitting_none : (transactions : List JudgedValue) (replies : List Reply) → AreOfFile transactions → replies ≡ [] → AreFitting transactions replies
fitting_none transactions replies file none = subst (AreFitting transactions) (sym none) (record {
  of_file = file;
  few = omega arith;
  fit = subst (AllByRecursion FitsItem) (sym (told_none transactions [] refl)) tt;
})

-- the transaction with this place, and its call
called_at : (transactions : List JudgedValue) (n : ℕ) (call : CallValue) → slice_get (asked_in transactions) n ≡ Some call
    → (j : JudgedValue) × (slice_get transactions n ≡ Some j) × (j.call ≡ call)
called_at transactions n call is =
    let within = slice_get_within (asked_in transactions) n call is in
    let size : length (asked_in transactions) ≡ length transactions = length-map transactions (λ j. j.call) in
    let at = item_at transactions n (omega (arith, within, size)) in
    let its : Some at.0.call ≡ Some call = sym (ap (option_map (λ (j : JudgedValue). j.call)) at.1) ∙ sym (slice_get-map (λ (j : JudgedValue). j.call) transactions n) ∙ is in
    (at.0, at.1, cc)

-- one more, of an entry that has the next call
pub fitting_more : (transactions : List JudgedValue) (replies next : List Reply) (e : EntryValue) (r : Reply) → AreFitting transactions replies
    → slice_get (asked_in transactions) (length replies) ≡ Some e.call → IsNumbered e.reply → IsTrue (are_faults e.call.faults)
    → r ≡ e.reply → next ≡ replies ++ r ∷ [] → AreFitting transactions next
fitting_more transactions replies next e r so_far call numbered lawful reply is =
    let n : ℕ = length replies in
    let size : length next ≡ n + 1 = ap length is ∙ length_push replies r in
    let its = called_at transactions n e.call call in
    let within = slice_get_within transactions n its.0 its.1 in
    let here : drop n transactions ≡ its.0 ∷ drop (n + 1) transactions = drop_here transactions n its.0 its.1 in
    record {
      of_file = so_far.of_file;
      few = omega (arith, size, within);
      fit = fit_next (items_with_replies transactions replies) (items_with_replies transactions next) (item_with_reply its.0 r)
          (told_next transactions (drop (n + 1) transactions) its.0 replies next r here is)
          so_far.fit
          (item_fits transactions n its.0 r so_far.of_file here (subst IsNumbered (sym reply) numbered)
          (subst (λ (c : CallValue). IsTrue (are_faults c.faults)) (sym its.2) lawful));
    }
