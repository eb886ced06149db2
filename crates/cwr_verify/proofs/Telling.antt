-- What is told of the first file that is not answered is so.
use Rattle.std.proofs.Common.{◌≡◌, ◌∙◌, ◌⊎◌, inl, inr, ℕ, ◌<◌, List, [], ◌∷◌, length, map, get_or, Some, refl, sym, ap, subst, arith}
use Rattle.std.specs.Prelude.{slice_get}
use Rattle.std.specs.List.{AllZip}
use Rattle.std.proofs.lemmas.List.{length-map, take_all}
use Rattle.std.proofs.lemmas.Option.{slice_get_read, get_or_from_slice_get}
use Rattle.cwr_record.specs.Stamp.{StampParts}
use Rattle.cwr_record.specs.declared.control.Header.{Header}
use Rattle.cwr_acknowledgement.specs.Acknowledgement.{ack_text}
use Rattle.cwr_engine.specs.AckItems.{items_with_replies}
use Rattle.cwr_engine.specs.Judged.{JudgedValue, WasJudged}
use Rattle.cwr_engine.specs.declared.judged.JudgedFile.{JudgedFile}
use Rattle.work_registry.specs.EntryValue.{EntryValue}
use Rattle.cwr_verify.proofs.FileRuns.{IsFileRun, acked}
use Rattle.cwr_verify.specs.Acknowledged.{stamp_in, statuses_in}
use Rattle.cwr_verify.specs.Again.{IsJudgedFile}
use Rattle.cwr_verify.specs.Compared.{IsDifference}
use Rattle.cwr_verify.specs.Owned.{owned}
use Rattle.cwr_verify.specs.Proposed.{AreFirst, AreProposed, IsNoFile, IsWantingOf, wanting_of}
use Rattle.cwr_verify.specs.Read.{AreReadFrom}
use Rattle.cwr_verify.specs.Reading.{IsReadingOf, asked_in, transactions_in}
use Rattle.cwr_verify.specs.Replied.{AreBegunBy, AreRepliedBy, Replied}
use Rattle.cwr_verify.specs.Sent.{Sent}
use Rattle.cwr_verify.specs.Verified.{IsAnsweredBy}
use Rattle.cwr_verify.specs.VerifyErrors.{IsFirstUnanswered, IsToldOf, IsUnverified, LacksEntry}
use Rattle.cwr_verify.specs.Wanting.{Wanting}
use Rattle.cwr_verify.specs.declared.reading.Reading.{Reading}
use Rattle.cwr_verify.specs.declared.reading.Reading.TheVariants as reading
use Rattle.cwr_verify.specs.declared.sent.ReadFile.{ReadFile}
use Rattle.cwr_verify.specs.declared.verify_error.VerifyError.{VerifyError}
use Rattle.cwr_verify.specs.declared.verify_error.VerifyError.TheVariants.{Memory, TooLong, Refused, Transaction, Acknowledgement}

-- ---- what the files need of a history

transactions_of : {Z : Type 0} (text : List ℕ) (reading : Reading Z) → IsReadingOf text reading
    → IsJudgedFile text (transactions_in reading) ⊎ (IsNoFile text × (transactions_in reading ≡ []))
transactions_of text (reading.File file) is = inl (record { fits = is.0; head = file.header; was = is.1 })
transactions_of text reading.TooLong is = inr (inl is, refl)
transactions_of text (reading.Refused number line) is = inr (inr (number, line, is), refl)

wanted : {Z : Type 0} (sent : List Sent) (files : List (ReadFile Z)) → AreReadFrom sent files → AllZip IsWantingOf sent (map wanting_of files)
wanted [] [] are = tt
wanted [] (f ∷ files) are = absurd are
wanted (s ∷ sent) [] are = absurd are
wanted (s ∷ sent) (f ∷ files) are =
    (record { transactions = transactions_of s.text f.text are.0.0; none_yet = refl; told = ap statuses_in (sym are.0.1) }, wanted sent files are.1)

pub proposed : {Z : Type 0} (sent : List Sent) (files : List (ReadFile Z)) (history : List EntryValue) (owners : List ℕ) (after : List Wanting) → AreReadFrom sent files
    → AreFirst (map wanting_of files) history owners after → AreProposed sent history owners
proposed sent files history owners after are first = record { before = map wanting_of files; wanting = wanted sent files are; after = after; first = first }

-- ---- what is told of one file

-- its first transaction without an entry
pub lacks : {Z : Type 0} (text : List ℕ) (read : Reading Z) (file : JudgedFile Z) (replied : Replied) (entries : List EntryValue) (first : JudgedValue) → read ≡ reading.File file
    → IsReadingOf text read → replied.transactions ≡ transactions_in read → AreBegunBy replied entries → slice_get replied.transactions (length replied.replies) ≡ Some first
    → LacksEntry text entries first.group first.sequence
lacks text read file replied entries first is judged its by at =
    let so = subst (IsReadingOf text) is judged in
    let size : length replied.replies ≡ length entries = ap length by.replies ∙ length-map entries (λ e. e.reply) in
    record {
      transactions = replied.transactions;
      file = record { fits = so.0; head = file.header; was = subst (WasJudged text file.header) (sym (its ∙ ap transactions_in is)) so.1 };
      calls = by.calls;
      transaction = first;
      its = ap (slice_get replied.transactions) (sym size) ∙ at;
      group_is = refl;
      sequence_is = refl;
    }

-- the entries of all its transactions, where each has one
pub all_begun : (replied : Replied) (entries : List EntryValue) → AreBegunBy replied entries → length replied.replies ≡ length replied.transactions → AreRepliedBy replied entries
all_begun replied entries by all =
    let size : length replied.replies ≡ length entries = ap length by.replies ∙ length-map entries (λ e. e.reply) in
    let many : length (asked_in replied.transactions) ≡ length replied.transactions = length-map replied.transactions (λ j. j.call) in
    record { calls = by.calls ∙ take_all (length entries) (asked_in replied.transactions) (omega (arith, size, many, all)); replies = by.replies }

-- the line of its acknowledgement that is another
pub other_line : (number : ℕ) (sent : Sent) (stamp : StampParts) (head : Header) (replied : Replied) (entries : List EntryValue) (told : VerifyError)
    → stamp_in sent.acknowledgement ≡ Some stamp → IsFileRun sent.text head replied entries
    → IsDifference number sent.acknowledgement (ack_text stamp head (items_with_replies replied.transactions replied.replies)) told → IsToldOf number sent entries told
other_line number sent stamp head replied entries Memory its_own run differs = tt
other_line number sent stamp head replied entries (TooLong file) its_own run differs = absurd differs
other_line number sent stamp head replied entries (Refused file fault line) its_own run differs = absurd differs
other_line number sent stamp head replied entries (Transaction file group sequence) its_own run differs = absurd differs
other_line number sent stamp head replied entries (Acknowledgement file line) its_own run differs = (
  differs.0,
  inr (record {
    stamp = stamp;
    its_own = its_own;
    text = ack_text stamp head (items_with_replies replied.transactions replied.replies);
    acked = acked stamp sent.text head replied entries run;
    differs = differs.1;
  }),
)

-- ---- what is told of the files

module _ (history : List EntryValue) (files : List Sent) (number : ℕ) (sent : Sent) (owners : List ℕ) (are : AreProposed files history owners)
    (within : number < length files) (at : sent ≡ get_or files number sent)
    (before : (other : ℕ) (d : Sent) → other < number → IsAnsweredBy (get_or files other d) (owned other owners history)) where
  -- the file with this number is the first
  placed : (file : ℕ) (told : VerifyError) → file ≡ number → IsToldOf number sent (owned number owners history) told → IsFirstUnanswered history files told file
  placed file told is so = subst (IsFirstUnanswered history files told) (sym is) (record {
    within = within;
    owners = owners;
    proposed = are;
    before = before;
    its = λ (d : Sent). subst (λ (s : Sent). IsToldOf number s (owned number owners history) told)
        (sym (get_or_from_slice_get files number sent d (slice_get_read files (length files) number sent refl within at))) so;
  })

  pub unverified : (told : VerifyError) → IsToldOf number sent (owned number owners history) told → IsUnverified history files told
  unverified Memory so = tt
  unverified (TooLong file) so = placed file (TooLong file) so.0 so
  unverified (Refused file fault line) so = placed file (Refused file fault line) so.0 so
  unverified (Transaction file group sequence) so = placed file (Transaction file group sequence) so.0 so
  unverified (Acknowledgement file line) so = placed file (Acknowledgement file line) so.0 so
