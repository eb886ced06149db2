-- Which file each entry of a history is proposed for.
use Rattle.std.specs.Prelude.{◌≡◌, ◌⊎◌, ℕ, ◌<◌, List, [], ◌∷◌, length}
use Rattle.std.specs.List.{AllZip}
use Rattle.cwr_engine.specs.Account.{IsRefused, max_file_bytes}
use Rattle.work_registry.specs.EntryValue.{EntryValue}
use Rattle.cwr_verify.specs.Acknowledged.{statuses_in}
use Rattle.cwr_verify.specs.Again.{IsJudgedFile}
use Rattle.cwr_verify.specs.Reading.{transactions_in}
use Rattle.cwr_verify.specs.Sent.{Sent}
use Rattle.cwr_verify.specs.declared.sent.ReadFile.{ReadFile}
use Rattle.cwr_verify.specs.Wanting.{Wanting, IsFirst, HasMovedOn}

-- what a file needs of a history before any of its transactions is found
abbrev pub wanting_of : {Z : Type 0} → ReadFile Z → Wanting
wanting_of file = record { replied = record { transactions = transactions_in file.text; replies = [] }; told = statuses_in file.acknowledgement.now }

-- The owner of each entry is the first file whose next transaction can have made it, once the transactions that made
-- the entries before it are found. `before` and `after` are what the files need before and after these entries.
abbrev pub AreFirst : List Wanting → List EntryValue → List ℕ → List Wanting → Type 0
AreFirst before [] [] after = after ≡ before
AreFirst before [] (owner ∷ owners) after = ⊥
AreFirst before (entry ∷ history) [] after = ⊥
AreFirst before (entry ∷ history) (owner ∷ owners) after =
    (next : List Wanting) × IsFirst before entry owner × HasMovedOn entry before next owner × AreFirst next history owners after

-- the text is no well-formed file of at most 16,777,216 bytes
abbrev pub IsNoFile : List ℕ → Type 0
IsNoFile text = (max_file_bytes < length text) ⊎ ((fault line : ℕ) × IsRefused text fault line)

-- what a file that was sent needs of a history before any of its transactions is found: its transactions, judged, or
-- none where it is not well-formed, and what its acknowledgement has for them
pub record IsWantingOf (sent : Sent) (wanting : Wanting) : Type 0 where
  pub transactions : IsJudgedFile sent.text wanting.replied.transactions ⊎ (IsNoFile sent.text × (wanting.replied.transactions ≡ []))
  pub none_yet : wanting.replied.replies ≡ []
  pub told : wanting.told ≡ statuses_in sent.acknowledgement

-- The owner of each entry is the first of the files whose next transaction can have made it, in the order of the
-- history; where there is none, it is the number of the files.
pub record AreProposed (files : List Sent) (history : List EntryValue) (owners : List ℕ) : Type 0 where
  -- what the files need before the entries
  pub before : List Wanting
  pub wanting : AllZip IsWantingOf files before
  -- what they need after them
  pub after : List Wanting
  pub first : AreFirst before history owners after
