-- What is told of the transactions of a file and of their replies.
use Rattle.std.proofs.Common.{◌≡◌, ◌∙◌, ℕ, suc, ◌+◌, ◌<◌, ◌≤◌, List, [], ◌∷◌, length, take, drop, map, Option, Some, None, Ok, Err, refl, sym, ap, subst, arith}
use Rattle.std.specs.Prelude.{slice_get, Result, IfErr}
use Rattle.std.specs.Result.{IsErrAnd}
use Rattle.std.specs.Io.KnownBytes.{Appends}
use Rattle.std.proofs.lemmas.List.{length-map, take_all}
use Rattle.cwr_call.specs.CallValue.{CallValue}
use Rattle.cwr_record.specs.Stamp.{StampParts}
use Rattle.cwr_record.specs.declared.control.Header.{Header}
use Rattle.cwr_acknowledgement.specs.AckItem.{Item}
use Rattle.cwr_acknowledgement.specs.Acknowledgement.{ack_text, reported_fault_count, max_ack_records}
use Rattle.cwr_grammar.specs.RawParts.{RawParts}
use Rattle.cwr_rules.specs.Calls.{call_of}
use Rattle.cwr_engine.specs.Account.{IsAcked, IsMadeOfAll, WriteEnds, answer_of, max_file_bytes}
use Rattle.cwr_engine.specs.Handing.{AreAnswered}
use Rattle.cwr_engine.specs.Items.{item_of, items_of, calls_in}
use Rattle.cwr_engine.specs.Judged.{JudgedValue, WasJudged, judged_of}
use Rattle.cwr_engine.specs.AckItems.{item_with_reply, items_with_replies}
use Rattle.cwr_engine.specs.declared.judged.JudgedFile.{JudgedFile}
use Rattle.cwr_engine.proofs.Accounts.{few_told}
use Rattle.work_registry.specs.EntryValue.{EntryValue}
use Rattle.work_registry.specs.Replay.{calls_of}
use Rattle.cwr_verify.specs.Acknowledged.{stamp_in}
use Rattle.cwr_verify.specs.Again.{IsAnsweredAgain, IsJudgedFile, IsSentInPart, IsUnanswered, IsWhyNot}
use Rattle.cwr_verify.specs.Reading.{IsReadingOf, asked_in, transactions_in}
use Rattle.cwr_verify.specs.Replied.{Replied, AreRepliedBy}
use Rattle.cwr_verify.specs.Run.{HasRun, IsFront, IsRunFrom}
use Rattle.cwr_verify.specs.Sent.{Sent}
use Rattle.cwr_verify.specs.Verified.{IsAnsweredBy}
use Rattle.cwr_verify.specs.declared.no_answer.NoAnswer.{NoAnswer}
use Rattle.cwr_verify.specs.declared.no_answer.NoAnswer.TheVariants.{Memory, TooLong, Refused, OtherEntry, Transaction, Write}
use Rattle.cwr_verify.specs.declared.reading.Reading.{Reading}
use Rattle.cwr_verify.specs.declared.reading.Reading.TheVariants.{File}
use Rattle.cwr_verify.proofs.Judging.{are_judged, is_read}
use Rattle.cwr_verify.proofs.Replying.{none_yet}
use Rattle.cwr_verify.proofs.Runs.{fewer, run_calls}

-- ---- entries that answer a file

pub asked_of : (submitter : List ℕ) (ts : List RawParts) → asked_in (map (judged_of submitter) ts) ≡ calls_in submitter ts
asked_of submitter [] = refl
asked_of submitter (t ∷ ts) = ap (λ (l : List CallValue). call_of submitter t ∷ l) (asked_of submitter ts)

-- the calls of a run are those of the transactions, so that its entries tell what the replies do
pub told_by_run : (submitter : List ℕ) (ts : List RawParts) (run : List EntryValue) → calls_of run ≡ calls_in submitter ts
    → items_with_replies (map (judged_of submitter) ts) (map (λ e. e.reply) run) ≡ items_of ts run
told_by_run submitter [] run is = refl
told_by_run submitter (t ∷ ts) [] is = refl
told_by_run submitter (t ∷ ts) (e ∷ run) is =
    let all : e.call ∷ calls_of run ≡ call_of submitter t ∷ calls_in submitter ts = is in
    let same : call_of submitter t ≡ e.call = cc in
    let rest : calls_of run ≡ calls_in submitter ts = cc in
    let item : item_with_reply (judged_of submitter t) e.reply ≡ item_of t e =
    ap (λ (c : CallValue). item_with_reply (record { group = t.group; sequence = t.sequence; call = c }) e.reply) same in
    λ i. item i ∷ told_by_run submitter ts run rest i

-- as many items as entries
items_size : (submitter : List ℕ) (ts : List RawParts) (run : List EntryValue) → calls_of run ≡ calls_in submitter ts → length (items_of ts run) ≡ length run
items_size submitter [] [] is = refl
items_size submitter [] (e ∷ run) is = absurd (let all : e.call ∷ calls_of run ≡ [] = is in cc)
items_size submitter (t ∷ ts) [] is = refl
items_size submitter (t ∷ ts) (e ∷ run) is =
    let all : e.call ∷ calls_of run ≡ call_of submitter t ∷ calls_in submitter ts = is in
    let rest : calls_of run ≡ calls_in submitter ts = cc in
    ap suc (items_size submitter ts run rest)

-- what is known of a file whose transactions got their replies by these entries
pub record IsFileRun (text : List ℕ) (head : Header) (replied : Replied) (entries : List EntryValue) : Type 0 where
  pub whole : IsMadeOfAll text entries
  pub told : items_with_replies replied.transactions replied.replies ≡ items_of whole.transactions entries
  pub header : whole.head ≡ head
  pub few : length (items_with_replies replied.transactions replied.replies) + reported_fault_count (items_with_replies replied.transactions replied.replies) ≤ max_ack_records

pub file_run : (text : List ℕ) (head : Header) (replied : Replied) (entries : List EntryValue)
    → length text ≤ max_file_bytes → WasJudged text head replied.transactions → AreRepliedBy replied entries → IsFileRun text head replied entries
file_run text head replied run fits was by =
    let ts : List RawParts = was.transactions in
    let judged_is : replied.transactions ≡ map (judged_of head.sender) ts = was.are.judged_are in
    let calls : calls_of run ≡ calls_in head.sender ts = by.calls ∙ (ap asked_in judged_is ∙ asked_of head.sender ts) in
    let told : items_with_replies replied.transactions replied.replies ≡ items_of ts run =
    (λ i. items_with_replies (judged_is i) (by.replies i)) ∙ told_by_run head.sender ts run calls in
    let part : AreAnswered 0 head.sender ts (items_of ts run) none_yet (record { list = run; whole = None }) = record {
      made = run;
      gained = record { list = refl; whole = tt };
      calls = calls ∙ sym (ap (λ n. take n (calls_in head.sender ts)) (sym (length-map run (λ e. e.call)) ∙ ap length calls) ∙ take_all (length (calls_in head.sender ts)) (calls_in head.sender ts) (omega arith));
      told = refl;
      count = items_size head.sender ts run calls;
    } in
    record {
      whole = record { head = head; transactions = ts; read = is_read text head replied.transactions fits was; calls = calls };
      told = told;
      header = refl;
      few = subst (λ (l : List Item). length l + reported_fault_count l ≤ max_ack_records) (sym told)
          (few_told 0 head ts (items_of ts run) none_yet (record { list = run; whole = None }) (are_judged text head replied.transactions fits was).bounds part);
    }

-- the text for its replies acknowledges it
pub acked : (stamp : StampParts) (text : List ℕ) (head : Header) (replied : Replied) (entries : List EntryValue) → IsFileRun text head replied entries
    → IsAcked stamp text (length entries) (ack_text stamp head (items_with_replies replied.transactions replied.replies)) entries
acked stamp text head replied entries its = record {
  whole = its.whole;
  transaction_count = refl;
  text = λ i. ack_text stamp (sym its.header i) (its.told i);
}

-- the same of a file that was judged to this one
pub checked_run : {Z : Type 0} (text : List ℕ) (reading : Reading Z) (file : JudgedFile Z) (replied : Replied) (entries : List EntryValue) → reading ≡ File file
    → IsReadingOf text reading → replied.transactions ≡ transactions_in reading → AreRepliedBy replied entries → IsFileRun text file.header replied entries
checked_run text reading file replied entries is judged its by =
    let read = subst (IsReadingOf text) is judged in
    file_run text file.header replied entries read.0 (subst (WasJudged text file.header) (sym (its ∙ ap transactions_in is)) read.1) by

pub answered_by : (sent : Sent) (stamp : StampParts) (head : Header) (replied : Replied) (entries : List EntryValue) → stamp_in sent.acknowledgement ≡ Some stamp
    → IsFileRun sent.text head replied entries → sent.acknowledgement ≡ ack_text stamp head (items_with_replies replied.transactions replied.replies) → IsAnsweredBy sent entries
answered_by sent stamp head replied entries its_own its same =
    record { stamp = stamp; its_own = its_own; acked = subst (λ (text : List ℕ). IsAcked stamp sent.text (length entries) text entries) (sym same) (acked stamp sent.text head replied entries its) }

-- what is known where these entries are the run of the file
pub record IsOwnRun (text : List ℕ) (head : Header) (entry : Option ℕ) (history : List EntryValue) (replied : Replied) : Type 0 where
  pub run : List EntryValue
  pub its : IsRunFrom entry (calls_of run) history run
  pub all : IsFileRun text head replied run

-- the run is known by lists that are equal to those of the file and of the book
pub own_run : (text : List ℕ) (head : Header) (judged asked : List JudgedValue) (entry : Option ℕ) (history entries : List EntryValue) (replied : Replied)
    → asked ≡ judged → entries ≡ history → replied.transactions ≡ asked → length text ≤ max_file_bytes → WasJudged text head judged
    → (run : List EntryValue) × IsRunFrom entry (asked_in asked) entries run × (replied.replies ≡ map (λ e. e.reply) run)
    → IsOwnRun text head entry history replied
own_run text head judged asked entry history entries replied same_judged same_history its fits was run =
    let calls : calls_of run.0 ≡ asked_in asked = run_calls (asked_in asked) (drop run.1.place entries) run.0 run.1.first in
    record {
      run = run.0;
      its = subst (λ (h : List EntryValue). IsRunFrom entry (calls_of run.0) h run.0) same_history
          (subst (λ (l : List CallValue). IsRunFrom entry l entries run.0) (sym calls) run.1);
      all = file_run text head replied run.0 fits (subst (λ (js : List JudgedValue). WasJudged text head js) (sym (its ∙ same_judged)) was)
          (record { calls = calls ∙ ap asked_in (sym its); replies = run.2 });
    }

-- ---- what was written

pub written_again : (stamp : StampParts) (text : List ℕ) (head : Header) (entry : Option ℕ) (history : List EntryValue) (replied : Replied) (ends : WriteEnds)
    → IsOwnRun text head entry history replied → Appends ends.taken_before ends.taken_after (ack_text stamp head (items_with_replies replied.transactions replied.replies))
    → IsAnsweredAgain stamp text entry history ends
written_again stamp text head entry history replied ends its appended = record {
  run = its.run;
  its = its.its;
  written = ack_text stamp head (items_with_replies replied.transactions replied.replies);
  appended = appended;
  acked = acked stamp text head replied its.run its.all;
}

pub cut_again : (stamp : StampParts) (text : List ℕ) (head : Header) (entry : Option ℕ) (history : List EntryValue) (replied : Replied) (ends : WriteEnds) (why : NoAnswer)
    → IsOwnRun text head entry history replied → IsSentInPart ends (ack_text stamp head (items_with_replies replied.transactions replied.replies)) why
    → IsWhyNot stamp text entry history ends why
cut_again stamp text head entry history replied ends Memory its part = tt
cut_again stamp text head entry history replied ends TooLong its part = absurd part
cut_again stamp text head entry history replied ends (Refused number line) its part = absurd part
cut_again stamp text head entry history replied ends OtherEntry its part = absurd part
cut_again stamp text head entry history replied ends (Transaction group sequence) its part = absurd part
cut_again stamp text head entry history replied ends (Write sent) its part =
    let same : ack_text stamp head (items_with_replies replied.transactions replied.replies) ≡ answer_of stamp its.run its.all.whole = λ i. ack_text stamp (sym its.all.header i) (its.all.told i) in
    record {
      run = its.run;
      its = its.its;
      written = take sent (ack_text stamp head (items_with_replies replied.transactions replied.replies));
      appended = part.0;
      cut = record {
        whole = its.all.whole;
        stopped = part.2;
        fewer = subst (λ (l : List ℕ). sent < length l) same part.1;
        front = ap (take sent) same;
      };
    }

-- ---- why a file has no run

pub unanswered : (input : List ℕ) (transactions : List JudgedValue) (entry : Option ℕ) (history : List EntryValue) (place before : ℕ) (first : JudgedValue)
    → IsJudgedFile input transactions → slice_get transactions before ≡ Some first
    → ((HasRun (asked_in transactions) (drop place history) → ⊥) → IsFront entry (asked_in transactions) history place)
    → HasRun (take before (asked_in transactions)) (drop place history) → (HasRun (take (before + 1) (asked_in transactions)) (drop place history) → ⊥)
    → IsUnanswered input entry history first.group first.sequence
unanswered input transactions entry history place before first file its front some none = record {
  transactions = transactions;
  file = file;
  place = place;
  front = front (λ all. none (fewer (asked_in transactions) (drop place history) (before + 1) all));
  before = before;
  transaction = first;
  its = its;
  group_is = refl;
  sequence_is = refl;
  some = some;
  none = none;
}

-- what a `?` hands on is so
pub handed_on : (r : Result (Unit {0}) NoAnswer) (why : NoAnswer) (So : NoAnswer → Type 0) → IsErrAnd r (λ e. e ≡ why) → So why → IfErr r So
handed_on (Ok u) why So is so = absurd is
handed_on (Err e) why So is so = subst So (sym is) so
