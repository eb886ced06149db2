-- The files so far, and one more.
use Rattle.std.proofs.Common.{◌≡◌, ◌∙◌, ℕ, ◌+◌, ◌<◌, List, length, map, get_or, refl, sym, ap, subst, arith}
use Rattle.std.specs.Prelude.{option_map}
use Rattle.std.proofs.lemmas.List.{length-map}
use Rattle.std.proofs.lemmas.Option.{slice_get-map, slice_get_read, get_or_from_slice_get}
use borrow.Author.Count.{below_more}
use Rattle.work_registry.specs.EntryValue.{EntryValue}
use Rattle.cwr_verify.proofs.Lists.{item_at, zip_at, zip_length}
use Rattle.cwr_verify.proofs.Owning.{all_replied, as_many, begun, grown}
use Rattle.cwr_verify.specs.Owned.{owned}
use Rattle.cwr_verify.specs.Proposed.{AreFirst, wanting_of}
use Rattle.cwr_verify.specs.Read.{AreReadFrom, IsReadFrom}
use Rattle.cwr_verify.specs.Reading.{transactions_in}
use Rattle.cwr_verify.specs.Replied.{Replied, AreBegunBy, AreRepliedBy}
use Rattle.cwr_verify.specs.Sent.{Sent}
use Rattle.cwr_verify.specs.Verified.{IsAnsweredBy}
use Rattle.cwr_verify.specs.Wanting.{Wanting}
use Rattle.cwr_verify.specs.declared.sent.ReadFile.{ReadFile}

pub next_file : (owners : List ℕ) (history : List EntryValue) (files : List Sent) (number : ℕ) (sent : Sent)
    → ((file : ℕ) (d : Sent) → file < number → IsAnsweredBy (get_or files file d) (owned file owners history))
    → number < length files → sent ≡ get_or files number sent → IsAnsweredBy sent (owned number owners history)
    → (file : ℕ) (d : Sent) → file < number + 1 → IsAnsweredBy (get_or files file d) (owned file owners history)
next_file owners history files number sent before within at here file d lt =
    let read : get_or files number d ≡ sent = get_or_from_slice_get files number sent d (slice_get_read files (length files) number sent refl within at) in
    below_more (λ (k : ℕ). IsAnsweredBy (get_or files k d) (owned k owners history)) number (λ k l. before k d l)
    (subst (λ (s : Sent). IsAnsweredBy s (owned number owners history)) (sym read) here) file lt

-- what is known of the transactions of a file once the owners are proposed
pub record IsReplied {Z : Type 0} (file : ReadFile Z) (replied : Replied) (entries : List EntryValue) : Type 0 where
  pub its : replied.transactions ≡ transactions_in file.text
  pub made : length replied.replies ≡ length replied.transactions → AreRepliedBy replied entries
  pub begun : AreBegunBy replied entries

pub wanted_count : {Z : Type 0} (files : List (ReadFile Z)) (history : List EntryValue) (owners : List ℕ) (after : List Wanting) → AreFirst (map wanting_of files) history owners after
    → length after ≡ length files
wanted_count files history owners after first = as_many (map wanting_of files) history owners after first ∙ length-map files wanting_of

pub replied_at : {Z : Type 0} (files : List (ReadFile Z)) (history : List EntryValue) (owners : List ℕ) (after : List Wanting) (n : ℕ) (file : ReadFile Z) (w : Wanting)
    → AreFirst (map wanting_of files) history owners after → n < length files → file ≡ get_or files n file → w ≡ get_or after n w → IsReplied file w.replied (owned n owners history)
replied_at files history owners after n file w first lt at now =
    let many = wanted_count files history owners after first in
    let grows = grown (map wanting_of files) history owners after n (wanting_of file) w first
    (slice_get-map wanting_of files n ∙ ap (option_map wanting_of) (slice_get_read files (length files) n file refl lt at))
    (slice_get_read after (length after) n w refl (omega (arith, lt, many)) now) in
    record { its = grows.transactions; made = all_replied (wanting_of file).replied w.replied (owned n owners history) refl grows; begun = begun (wanting_of file).replied w.replied (owned n owners history) refl grows }

-- the file that this one was read from
pub sent_at : {Z : Type 0} (sent : List Sent) (files : List (ReadFile Z)) (n : ℕ) (file : ReadFile Z) → AreReadFrom sent files → n < length files → file ≡ get_or files n file
    → (s : Sent) × (n < length sent) × (s ≡ get_or sent n s) × IsReadFrom s file
sent_at sent files n file are lt at =
    let many : length files ≡ length sent = zip_length IsReadFrom sent files are in
    let within : n < length sent = omega (arith, lt, many) in
    let found = item_at sent n within in
    let is : found.0 ≡ get_or sent n found.0 = sym (get_or_from_slice_get sent n found.0 found.0 found.1) in
    (found.0, within, is, zip_at IsReadFrom sent files n found.0 file are within is at)
