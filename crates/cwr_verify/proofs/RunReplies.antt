-- The replies of the entries of a run, one entry after the other.
use Rattle.std.proofs.Common.{◌≡◌, ◌∙◌, ℕ, ◌+◌, ◌<◌, ◌≤◌, List, [], ◌∷◌, ◌++◌, length, get_or, take, map, Some, refl, sym, ap, subst, arith}
use Rattle.std.specs.Prelude.{slice_get}
use Rattle.std.proofs.lemmas.List.{length-map, length_push, map-append, take_all}
use Rattle.std.proofs.lemmas.Option.{slice_get_read}
use Rattle.cwr_call.specs.CallValue.{CallValue}
use Rattle.cwr_engine.specs.Judged.{JudgedValue}
use Rattle.work_registry.specs.EntryValue.{EntryValue}
use Rattle.work_registry.specs.declared.reply.Reply.{Reply}
use Rattle.cwr_verify.specs.Reading.{asked_in}
use Rattle.cwr_verify.specs.Replied.{Replied, next_call, replied_by}
use Rattle.cwr_verify.specs.Run.{HasRun, IsRun}
use Rattle.cwr_verify.proofs.Runs.{IsFound, found_more, found_run, no_more_found, none_so_far, passed_more, run_has}

-- these are the replies of the entries of the run of the first calls, as far as these entries go
pub record AreReplies (transactions : List JudgedValue) (history : List EntryValue) (i : ℕ) (replied : Replied) : Type 0 where
  pub its : replied.transactions ≡ transactions
  pub run : List EntryValue
  pub so_far : IsFound (asked_in transactions) (length replied.replies) history i run
  pub replied_by : replied.replies ≡ map (λ e. e.reply) run

pub no_replies : (transactions : List JudgedValue) (history : List EntryValue) (replied : Replied) → replied ≡ record { transactions = transactions; replies = [] }
    → AreReplies transactions history 0 replied
no_replies transactions history replied none =
    subst (AreReplies transactions history 0) (sym none) (record { its = refl; run = []; so_far = none_so_far (asked_in transactions) history; replied_by = refl })

-- an entry more, which has the next call
pub replies_more : (transactions : List JudgedValue) (history : List EntryValue) (i : ℕ) (replied next : Replied) (e : EntryValue)
    → i < length history → e ≡ get_or history i e → next_call replied ≡ Some e.call → next ≡ replied_by e replied
    → AreReplies transactions history i replied → AreReplies transactions history (i + 1) next
replies_more transactions history i replied next e lt at call put are =
    let asked : slice_get (asked_in transactions) (length replied.replies) ≡ Some e.call =
    ap (λ (l : List JudgedValue). slice_get (asked_in l) (length replied.replies)) (sym are.its) ∙ call in
    subst (AreReplies transactions history (i + 1)) (sym put) (record {
      its = are.its;
      run = are.run ++ e ∷ [];
      so_far = subst (λ (n : ℕ). IsFound (asked_in transactions) n history (i + 1) (are.run ++ e ∷ [])) (sym (length_push replied.replies e.reply))
          (found_more (asked_in transactions) (length replied.replies) history i are.run e asked (slice_get_read history (length history) i e refl lt at) are.so_far);
      replied_by = ap (λ (l : List Reply). l ++ e.reply ∷ []) are.replied_by ∙ sym (map-append (λ (e : EntryValue). e.reply) are.run (e ∷ []));
    })

-- an entry more, which has another one
pub replies_passed : (transactions : List JudgedValue) (history : List EntryValue) (i : ℕ) (replied : Replied) (e : EntryValue)
    → i < length history → e ≡ get_or history i e → (next_call replied ≡ Some e.call → ⊥)
    → AreReplies transactions history i replied → AreReplies transactions history (i + 1) replied
replies_passed transactions history i replied e lt at other are = record {
  its = are.its;
  run = are.run;
  so_far = passed_more (asked_in transactions) (length replied.replies) history i are.run e
      (λ call. other (ap (λ (l : List JudgedValue). slice_get (asked_in l) (length replied.replies)) are.its ∙ call))
      (slice_get_read history (length history) i e refl lt at) are.so_far;
  replied_by = are.replied_by;
}

-- ---- at the end

-- they are those of a run
pub replies_run : (transactions : List JudgedValue) (history : List EntryValue) (i : ℕ) (replied : Replied) → AreReplies transactions history i replied
    → length replied.replies ≡ length transactions → (run : List EntryValue) × IsRun (asked_in transactions) history run × (replied.replies ≡ map (λ e. e.reply) run)
replies_run transactions history i replied are whole =
    let size : length (asked_in transactions) ≡ length transactions = length-map transactions (λ j. j.call) in
    let all : take (length replied.replies) (asked_in transactions) ≡ asked_in transactions = take_all (length replied.replies) (asked_in transactions) (omega (arith, size, whole)) in (
      are.run,
      subst (λ (l : List CallValue). IsRun l history are.run) all (found_run (asked_in transactions) (length replied.replies) history i are.run are.so_far),
      are.replied_by,
    )

pub replies_some : (transactions : List JudgedValue) (history : List EntryValue) (i : ℕ) (replied : Replied) → AreReplies transactions history i replied
    → HasRun (take (length replied.replies) (asked_in transactions)) history
replies_some transactions history i replied are =
    run_has (take (length replied.replies) (asked_in transactions)) history are.run (found_run (asked_in transactions) (length replied.replies) history i are.run are.so_far)

-- and there are no more
pub replies_all : (transactions : List JudgedValue) (history : List EntryValue) (i : ℕ) (replied : Replied) → length history ≤ i → AreReplies transactions history i replied
    → length replied.replies < length transactions → HasRun (take (length replied.replies + 1) (asked_in transactions)) history → ⊥
replies_all transactions history i replied over are lt has =
    let size : length (asked_in transactions) ≡ length transactions = length-map transactions (λ j. j.call) in
    no_more_found (asked_in transactions) (length replied.replies) history i are.run (omega (arith, size, lt)) over are.so_far has
