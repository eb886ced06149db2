-- the account of a job at each of its ends
use Rattle.std.proofs.Common.{◌≡◌, ◌∙◌, ℕ, zero, suc, ◌+◌, ◌*◌, ◌<◌, ◌≤◌, Bool, true, false, cond, List, [], ◌∷◌, length, take, Option, Some, None, IfSome, refl, sym, ap, subst, arith, append-nil}
use Rattle.std.proofs.Math.Seq.{take-length}
use Rattle.std.proofs.lemmas.List.{length-map}
use Rattle.std.proofs.lemmas.List.Sums.{sum_by-cons}
use Rattle.std.specs.Io.KnownBytes.{Appends}
use Rattle.std.specs.List.{AllByRecursion}
use Rattle.byte_streams.specs.GivenBytes.{HasGiven}
use Rattle.cwr_record.specs.Stamp.{StampParts}
use Rattle.cwr_record.specs.declared.control.Header.{Header}
use Rattle.cwr_acknowledgement.specs.AckItem.{Item, reported_faults, is_rejected}
use Rattle.cwr_acknowledgement.specs.Acknowledgement.{ack_text, reported_fault_count, max_ack_records}
use Rattle.cwr_grammar.specs.RawParts.{RawParts, IsPlaced, lines_in}
use Rattle.cwr_grammar.specs.Submitted.{IsBounded}
use Rattle.cwr_call.specs.declared.transaction_fault.Fault.{Fault}
use Rattle.cwr_call.specs.CallValue.{CallValue}
use Rattle.cwr_rules.specs.Calls.{call_of}
use Rattle.work_registry.specs.EntryValue.{EntryValue}
use Rattle.work_registry.specs.Replay.{calls_of}
use Rattle.work_registry.specs.ReplyParts.{status_in}
use Rattle.cwr_engine.specs.Account.{max_file_bytes, Ends, Account, IsRead, IsMadeOf, IsMadeOfAll, Gives}
use Rattle.cwr_source.specs.Input.{IsUnjudged}
use Rattle.cwr_source.specs.declared.refused.SourceRefused.{SourceRefused}
use Rattle.cwr_source.specs.declared.refused.SourceRefused.TheVariants as unjudged
use Rattle.cwr_engine.specs.Causes.{IsCause, ends_full, marked_by, outcome_of}
use Rattle.cwr_engine.specs.Handing.{Entries, AreAnswered, IsSent, IsWorked}
use Rattle.cwr_engine.specs.Items.{item_of, items_of, calls_in}
use Rattle.cwr_engine.specs.Judged.{JudgedValue, judged_of, AreJudged, WasJudged}
use Rattle.cwr_engine.specs.declared.outcome.FileOutcome.{FileOutcome}
use Rattle.cwr_engine.specs.declared.outcome.FileOutcome.TheVariants.{Acked, Refused, Stopped}
use Rattle.cwr_engine.specs.declared.outcome.Why.{Why}
use Rattle.cwr_engine.specs.declared.outcome.Why.TheVariants.{Memory, Full, Read, TooLong, Gate, Write}
use Rattle.cwr_engine.proofs.Answering.{gained_none}
use Rattle.cwr_engine.proofs.CallSizes.{few_faults}

-- ---- what was read

pub read_whole : (input : List ℕ) (head : Header) (judged : List JudgedValue) → length input ≤ max_file_bytes → (was : WasJudged input head judged)
    → IsRead input head was.transactions
read_whole input head judged fits was =
    record { fits = fits; file = was.file; formed = was.formed; header = was.header; found = was.found }

-- fewer bytes than the most
pub within : (input : List ℕ) (head : Header) (judged : List JudgedValue) → length input ≤ max_file_bytes → (was : WasJudged input head judged)
    → AreJudged max_file_bytes head was.transactions judged
within input head judged fits was =
    let bounds = was.are.bounds in
    record {
      judged_are = was.are.judged_are;
      bounds = record { placed = bounds.placed; few = let few = bounds.few in omega (arith, few, fits); printable = bounds.printable };
    }

few_in_all : (head : Header) (ts : List RawParts) → IsBounded max_file_bytes head ts → lines_in ts ≤ 8388608
few_in_all head ts bounds = let few : 2 * lines_in ts ≤ 16777216 = bounds.few in omega (arith, few)

each_has_lines : (ts : List RawParts) → AllByRecursion IsPlaced ts → length ts ≤ lines_in ts
each_has_lines [] all = omega arith
each_has_lines (t ∷ ts) all = let h = each_has_lines ts all.1 in let some = all.0.some in omega (arith, h, some)

pub few_transactions : (head : Header) (ts : List RawParts) → IsBounded max_file_bytes head ts → length ts ≤ 8388608
few_transactions head ts bounds = let a = few_in_all head ts bounds in let b = each_has_lines ts bounds.placed in omega (arith, a, b)

pub length_judged : (head : Header) (ts : List RawParts) (judged : List JudgedValue) → AreJudged max_file_bytes head ts judged → length judged ≡ length ts
length_judged head ts judged are = ap length are.judged_are ∙ length-map ts (judged_of head.sender)

pub few_judged : (head : Header) (ts : List RawParts) (judged : List JudgedValue) → AreJudged max_file_bytes head ts judged → length judged ≤ 8388608
few_judged head ts judged are =
    let few = few_transactions head ts are.bounds in
    let same = length_judged head ts judged are in
    omega (arith, few, same)

told_few : (rejected : Bool) (faults : List Fault) → length (cond rejected faults []) ≤ length faults
told_few true faults = omega arith
told_few false faults = omega arith

told_in : (submitter : List ℕ) (ts : List RawParts) (made : List EntryValue) → AllByRecursion IsPlaced ts → calls_of made ≡ take (length made) (calls_in submitter ts)
    → length (items_of ts made) + reported_fault_count (items_of ts made) ≤ 10 * lines_in ts
told_in submitter [] made all is = omega arith
told_in submitter (t ∷ ts) [] all is = omega arith
told_in submitter (t ∷ ts) (e ∷ made) all is =
    let own : e.call ≡ call_of submitter t = cc in
    let others : calls_of made ≡ take (length made) (calls_in submitter ts) = cc in
    let rest = told_in submitter ts made all.1 others in
    let sum : reported_fault_count (item_of t e ∷ items_of ts made) ≡ length (reported_faults (item_of t e)) + reported_fault_count (items_of ts made) =
    sum_by-cons (λ (item : Item). length (reported_faults item)) (item_of t e) (items_of ts made) in
    let here : length (reported_faults (item_of t e)) ≤ length e.call.faults = told_few (is_rejected (status_in e.reply)) e.call.faults in
    let same : length e.call.faults ≡ length (call_of submitter t).faults = ap (λ (c : CallValue). length c.faults) own in
    let few = few_faults submitter t all.0.some in
    let some = all.0.some in
    omega (arith, rest, sum, here, same, few, some)

-- the acknowledgement of what was handed in has eight digits for its records
pub few_told : (session : ℕ) (head : Header) (ts : List RawParts) (items : List Item) (before after : Entries)
    → IsBounded max_file_bytes head ts → AreAnswered session head.sender ts items before after → length items + reported_fault_count items ≤ max_ack_records
few_told session head ts items before after bounds so_far =
    let few = told_in head.sender ts so_far.made bounds.placed so_far.calls in
    let all = few_in_all head ts bounds in
    subst (λ (l : List Item). length l + reported_fault_count l ≤ max_ack_records) (sym so_far.told) (omega (arith, few, all))

-- ---- what is known of the ends

-- nothing was written
pub Appends-nil : (taken : Option (List ℕ)) → Appends taken taken []
Appends-nil None = tt
Appends-nil (Some bytes) = sym (append-nil bytes)

-- a job that ends for another cause than a full book leaves the mark as it was
pub unmarked : (before after : Option Bool) → after ≡ before → after ≡ marked_by false before
unmarked None after same = same
unmarked (Some mark) after same = same

-- bytes that the reader gave whole
pub given_whole : (left : Option (List ℕ)) (input : List ℕ) → IfSome left (λ bytes. input ≡ bytes) → Gives left input
given_whole None input h = tt
given_whole (Some bytes) input h = h

-- some bytes more than the most
too_many : (n : ℕ) → (bytes : List ℕ) × (n < length bytes)
too_many zero = (0 ∷ [], omega arith)
too_many (suc n) = let r = too_many n in (0 ∷ r.0, omega (arith, r.1))

-- what the reader had, where the reading ended before its end
some_input : (left : Option (List ℕ)) → (input : List ℕ) × Gives left input
some_input None = ([], tt)
some_input (Some bytes) = (bytes, refl)

long_input : (left : Option (List ℕ)) (n : ℕ) → IfSome left (λ bytes. n < length bytes) → (input : List ℕ) × Gives left input × (n < length input)
long_input None n h = let r = too_many n in (r.0, tt, r.1)
long_input (Some bytes) n h = (bytes, refl, h)

-- ---- a job that handed nothing in

module _ (session : ℕ) (ends : Ends) (stamp : StampParts) (before : Entries) (unwritten : Appends ends.taken_before ends.taken_after [])
    (read_on : HasGiven ends.left_before ends.left_after) (few_reads : ends.reads_after ≤ ends.reads_before + max_file_bytes + 2) where
  nothing_made : (outcome : FileOutcome) (input : List ℕ) → Gives ends.left_before input → Account ends stamp input outcome [] []
      → IsWorked session ends stamp outcome before before
  nothing_made outcome input given account = record {
    made = [];
    gained = gained_none session before;
    account = record { input = input; written = []; given = given; read_on = read_on; few_reads = few_reads; appended = unwritten; account = account };
  }

  -- there was no memory before the first transaction
  pub not_begun : IsWorked session ends stamp (Stopped 0 Memory) before before
  not_begun = let i = some_input ends.left_before in nothing_made (Stopped 0 Memory) i.0 i.1 (refl, (refl, λ h. absurd (omega arith)))

  -- its file was not judged
  pub not_judged : (why : SourceRefused) → IsUnjudged max_file_bytes ends.left_before ends.read_failed why → IsWorked session ends stamp (outcome_of why) before before
  not_judged unjudged.Memory h = not_begun
  not_judged unjudged.Read h = let i = some_input ends.left_before in nothing_made (Stopped 0 Read) i.0 i.1 (refl, (refl, refl, h))
  not_judged unjudged.TooLong h = let i = long_input ends.left_before max_file_bytes h in nothing_made (Stopped 0 TooLong) i.0 i.1 (refl, (refl, refl, i.2))
  not_judged (unjudged.Fault number line) h = nothing_made (Refused number line) h.0 (given_whole ends.left_before h.0 h.1.1) (record { fits = h.1.0; first = h.2 }, refl, refl)

-- ---- a job that handed transactions of a file in

module _ (session : ℕ) (ends : Ends) (stamp : StampParts) (before after : Entries) (input : List ℕ) (head : Header) (ts : List RawParts) (items : List Item)
    (given : IfSome ends.left_before (λ bytes. input ≡ bytes)) (read_on : HasGiven ends.left_before ends.left_after)
    (few_reads : ends.reads_after ≤ ends.reads_before + max_file_bytes + 2) (read : IsRead input head ts) (so_far : AreAnswered session head.sender ts items before after)
    (n : ℕ) (count : n ≡ length items) where
  ended : (outcome : FileOutcome) (written : List ℕ) → Appends ends.taken_before ends.taken_after written → Account ends stamp input outcome written so_far.made
      → IsWorked session ends stamp outcome before after
  ended outcome written appended account = record {
    made = so_far.made;
    gained = so_far.gained;
    account = record {
      input = input;
      written = written;
      given = given_whole ends.left_before input given;
      read_on = read_on;
      few_reads = few_reads;
      appended = appended;
      account = account;
    };
  }

  handed : n ≡ length so_far.made
  handed = count ∙ so_far.count

  abbrev part : IsMadeOf input so_far.made
  part = record { head = head; transactions = ts; read = read; calls = so_far.calls }

  -- a transaction got no reply
  pub handed_some : (why : Why) → Appends ends.taken_before ends.taken_after [] → length items < length ts → IsCause ends.full ends.may_shut why
      → IsWorked session ends stamp (Stopped n why) before after
  handed_some Memory none some cause =
      ended (Stopped n Memory) [] none (handed, (refl, λ _. part))
  handed_some Full none some cause =
      ended (Stopped n Full) [] none (handed, (refl, record { part = part; further = let c = so_far.count in omega (arith, c, some) }, cause))
  handed_some Gate none some cause =
      ended (Stopped n Gate) [] none (handed, (refl, record { part = part; further = let c = so_far.count in omega (arith, c, some) }, cause))
  handed_some Read none some cause = absurd cause
  handed_some TooLong none some cause = absurd cause
  handed_some (Write sent) none some cause = absurd cause

  -- all got replies, and then there was no memory for the acknowledgement
  pub no_text : Appends ends.taken_before ends.taken_after [] → IsWorked session ends stamp (Stopped n Memory) before after
  no_text none =
      ended (Stopped n Memory) [] none (handed, (refl, λ _. part))

  module _ (text : List ℕ) (all : length items ≡ length ts) (is : text ≡ ack_text stamp head items) where
    all_calls : calls_of so_far.made ≡ calls_in head.sender ts
    all_calls =
        let c = so_far.count in
        let m = length-map ts (call_of head.sender) in
        let long : length so_far.made ≡ length (calls_in head.sender ts) = omega (arith, c, all, m) in
        so_far.calls ∙ (ap (λ k. take k (calls_in head.sender ts)) long ∙ take-length (calls_in head.sender ts))

    abbrev entire : IsMadeOfAll input so_far.made
    entire = record { head = head; transactions = ts; read = read; calls = all_calls }

    told : text ≡ ack_text stamp head (items_of ts so_far.made)
    told = is ∙ ap (ack_text stamp head) so_far.told

    pub acked : Appends ends.taken_before ends.taken_after text → IsWorked session ends stamp (Acked n) before after
    acked sent =
        ended (Acked n) text sent (record { whole = entire; transaction_count = handed; text = told })

    pub cut_off : (k : ℕ) → Appends ends.taken_before ends.taken_after (take k text) → k < length text → ends.write_failed ≡ true
        → IsWorked session ends stamp (Stopped n (Write k)) before after
    cut_off k sent fewer failed =
        ended (Stopped n (Write k)) (take k text) sent (
          handed,
          record {
            whole = entire;
            stopped = failed;
            fewer = let e = ap length told in omega (arith, e, fewer);
            front = ap (take k) told;
          },
        )

-- all got replies, and their acknowledgement was sent, or its sending stopped
module _ (session : ℕ) (ends : Ends) (stamp : StampParts) (before after : Entries) (input : List ℕ) (head : Header) (ts : List RawParts) (items : List Item)
    (given : IfSome ends.left_before (λ bytes. input ≡ bytes)) (read_on : HasGiven ends.left_before ends.left_after)
    (few_reads : ends.reads_after ≤ ends.reads_before + max_file_bytes + 2) (read : IsRead input head ts) (so_far : AreAnswered session head.sender ts items before after)
    (all : length items ≡ length ts) where
  pub sent : (outcome : FileOutcome) → IsSent ends.taken_before ends.taken_after ends.write_failed (ack_text stamp head items) (length items) outcome
      → IsWorked session ends stamp outcome before after
  sent (Acked n) h =
      acked session ends stamp before after input head ts items given read_on few_reads read so_far n h.0 (ack_text stamp head items) all refl h.1
  sent (Refused fault line) h = absurd h
  sent (Stopped n Memory) h =
      no_text session ends stamp before after input head ts items given read_on few_reads read so_far n h.0 h.1
  sent (Stopped n Full) h = absurd h
  sent (Stopped n Read) h = absurd h
  sent (Stopped n TooLong) h = absurd h
  sent (Stopped n Gate) h = absurd h
  sent (Stopped n (Write k)) h =
      cut_off session ends stamp before after input head ts items given read_on few_reads read so_far n h.0 (ack_text stamp head items) all refl k h.1 h.2 h.3

-- none of these ends is one for a full book
pub sent_not_full : (before after : Option (List ℕ)) (failed : Bool) (text : List ℕ) (count : ℕ) (outcome : FileOutcome) → IsSent before after failed text count outcome
    → ends_full outcome ≡ false
sent_not_full before after failed text count (Acked n) h = refl
sent_not_full before after failed text count (Refused fault line) h = refl
sent_not_full before after failed text count (Stopped n Memory) h = refl
sent_not_full before after failed text count (Stopped n Full) h = absurd h
sent_not_full before after failed text count (Stopped n Read) h = refl
sent_not_full before after failed text count (Stopped n TooLong) h = refl
sent_not_full before after failed text count (Stopped n Gate) h = refl
sent_not_full before after failed text count (Stopped n (Write k)) h = refl
