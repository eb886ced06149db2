-- The entries that a file owns once owners are proposed: they have the calls of its first transactions, which got their replies.
use Rattle.std.proofs.Common.{◌≡◌, ◌≢◌, ◌∙◌, ℕ, Bool, true, false, List, [], ◌∷◌, ◌++◌, length, take, drop, map, Some, if◌then◌else◌, refl, sym, ap, subst, arith, append_assoc, append-nil}
use Rattle.std.specs.Prelude.{◌==◌, option_map, slice_get}
use Rattle.std.proofs.lemmas.Bool.Decides.{nat_tests}
use Rattle.std.proofs.lemmas.List.{drop_all, length-map, length_push, take_at}
use Rattle.cwr_call.specs.CallValue.{CallValue}
use Rattle.work_registry.specs.EntryValue.{EntryValue}
use Rattle.work_registry.specs.Replay.{calls_of}
use Rattle.work_registry.specs.declared.reply.Reply.{Reply}
use Rattle.cwr_verify.proofs.Lists.{drop_here}
use Rattle.cwr_verify.specs.Owned.{owned}
use Rattle.cwr_verify.specs.Proposed.{AreFirst}
use Rattle.cwr_verify.specs.Reading.{asked_in}
use Rattle.cwr_verify.specs.Replied.{Replied, AreBegunBy, AreRepliedBy}
use Rattle.cwr_verify.specs.Wanting.{CanHaveMade, HasMovedOn, IsFirst, Wanting, found_by}

-- these entries have the calls of the next transactions, which got their replies
pub record HasGrown (before after : Replied) (entries : List EntryValue) : Type 0 where
  pub transactions : after.transactions ≡ before.transactions
  pub replies : after.replies ≡ before.replies ++ map (λ e. e.reply) entries
  pub calls : drop (length before.replies) (asked_in before.transactions) ≡ calls_of entries ++ drop (length after.replies) (asked_in before.transactions)

-- an entry more in front, which has the next call
grown_by : (w v : Wanting) (e : EntryValue) (entries : List EntryValue) → CanHaveMade w e → HasGrown (found_by e w).replied v.replied entries → HasGrown w.replied v.replied (e ∷ entries)
grown_by w v e entries made rest =
    let calls : List CallValue = asked_in w.replied.transactions in
    let n : ℕ = length w.replied.replies in
    record {
      transactions = rest.transactions;
      replies = rest.replies ∙ append_assoc w.replied.replies (e.reply ∷ []) (map (λ e. e.reply) entries);
      calls = drop_here calls n e.call made.call
          ∙ ap (λ (l : List CallValue). e.call ∷ l) (ap (λ (k : ℕ). drop k calls) (sym (length_push w.replied.replies e.reply)) ∙ rest.calls);
    }

-- an entry more in front, which is this file's or another's
grown_past : (o file : ℕ) (before next : List Wanting) (e : EntryValue) (entries : List EntryValue) (w v : Wanting) (own : Bool) → (o == file) ≡ own
    → IsFirst before e o → HasMovedOn e before next o → slice_get before file ≡ Some w
    → ((x : Wanting) → slice_get next file ≡ Some x → HasGrown x.replied v.replied entries) → HasGrown w.replied v.replied (if own then e ∷ entries else entries)
grown_past o file before next e entries w v true own first moved was rest =
    let its : o ≡ file = grind (arith, nat_tests) in
    let at : slice_get before o ≡ Some w = ap (slice_get before) its ∙ was in
    grown_by w v e entries (first.made w at) (rest (found_by e w) (ap (slice_get next) (sym its) ∙ (moved.its ∙ ap (option_map (found_by e)) at)))
grown_past o file before next e entries w v false own first moved was rest =
    let other : file ≢ o = λ same. absurd (grind (arith, nat_tests)) in
    rest w (moved.others file other ∙ was)

-- what a file wants after these entries
pub grown : (before : List Wanting) (history : List EntryValue) (owners : List ℕ) (after : List Wanting) (file : ℕ) (w v : Wanting)
    → AreFirst before history owners after → slice_get before file ≡ Some w → slice_get after file ≡ Some v → HasGrown w.replied v.replied (owned file owners history)
grown before [] [] after file w v first was is =
    let same : Some w ≡ Some v = sym was ∙ (sym (ap (λ (l : List Wanting). slice_get l file) first) ∙ is) in
    let one : w ≡ v = cc in
    subst (λ (x : Wanting). HasGrown w.replied x.replied []) one (record { transactions = refl; replies = sym (append-nil w.replied.replies); calls = refl })
grown before [] (o ∷ owners) after file w v first was is = absurd first
grown before (e ∷ history) [] after file w v first was is = absurd first
grown before (e ∷ history) (o ∷ owners) after file w v first was is =
    grown_past o file before first.0 e (owned file owners history) w v (o == file) refl first.1 first.2 was (λ x at. grown first.0 history owners after file x v first.3 at is)

-- as many files as before
pub as_many : (before : List Wanting) (history : List EntryValue) (owners : List ℕ) (after : List Wanting) → AreFirst before history owners after → length after ≡ length before
as_many before [] [] after first = ap length first
as_many before [] (o ∷ owners) after first = absurd first
as_many before (e ∷ history) [] after first = absurd first
as_many before (e ∷ history) (o ∷ owners) after first = as_many first.0 history owners after first.3 ∙ first.2.files

-- where all of a file's transactions got replies, its entries have all its calls
pub all_replied : (before after : Replied) (entries : List EntryValue) → before.replies ≡ [] → HasGrown before after entries → length after.replies ≡ length after.transactions
    → AreRepliedBy after entries
all_replied before after entries none has whole =
    let calls : List CallValue = asked_in before.transactions in
    let over : length calls ≡ length after.replies = length-map before.transactions (λ j. j.call) ∙ ap length (sym has.transactions) ∙ sym whole in
    record {
      calls = sym (append-nil (calls_of entries)) ∙ (ap (λ (l : List CallValue). calls_of entries ++ l) (sym (drop_all (length after.replies) calls (omega (arith, over))))
          ∙ (sym has.calls ∙ (ap (λ (l : List Reply). drop (length l) calls) none ∙ ap asked_in (sym has.transactions))));
      replies = has.replies ∙ ap (λ (l : List Reply). l ++ map (λ e. e.reply) entries) none;
    }

-- its entries have the calls of its first transactions
pub begun : (before after : Replied) (entries : List EntryValue) → before.replies ≡ [] → HasGrown before after entries → AreBegunBy after entries
begun before after entries none has =
    let calls : List CallValue = asked_in before.transactions in
    let split : calls ≡ calls_of entries ++ drop (length after.replies) calls = ap (λ (l : List Reply). drop (length l) calls) (sym none) ∙ has.calls in
    record {
      calls = sym (ap (λ (l : List CallValue). take (length entries) l) (ap asked_in has.transactions ∙ split)
          ∙ take_at (calls_of entries) (drop (length after.replies) calls) (length entries) (length-map entries (λ e. e.call)));
      replies = has.replies ∙ ap (λ (l : List Reply). l ++ map (λ e. e.reply) entries) none;
    }
