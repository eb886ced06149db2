-- What is summed over the records of a transaction.
use Rattle.std.specs.Prelude.{ℕ, ◌≡◌, ◌+◌, ◌<◌, ◌≤◌, ◌^◌, ◌==◌, if◌then◌else◌, Bool, List, [], ◌∷◌, Option, Some, None, nat_eq, option_map, unwrap_or}
use Rattle.std.specs.List.{list_any}
use Rattle.std.specs.HashMap.{HashMap}
use Rattle.std.specs.Map.{lookup}
use Rattle.cwr_field.specs.Share.{whole}
use Rattle.cwr_rules.specs.declared.collected.Collected.{Collected}
use Rattle.cwr_rules.specs.declared.record.Record.{Record}
use Rattle.cwr_rules.specs.declared.totals.Totals.{Totals}
use Rattle.cwr_rules.specs.declared.record.Shares.{Shares}
use Rattle.cwr_rules.specs.declared.sums.Sums.{Sums}
use Rattle.cwr_rules.specs.Totals.{valued, shares_of, ownership, control, collection, is_over_somewhere}
use Rattle.cwr_rules.specs.Rules.{is_writer}

-- the ownership and the control of records, and whether there is a writer among them
abbrev pub sums_of : List Record → Sums
sums_of records = record { ownership = ownership records; control = control records; has_writer = list_any is_writer records }

-- totals so small that the share of one record more can be added
pub record AreSmall (t : Totals) : Type 0 where
  pub performing : t.performing < 2 ^ 60
  pub mechanical : t.mechanical < 2 ^ 60
  pub synchronization : t.synchronization < 2 ^ 60

-- both the ownership and the control are so small
abbrev pub AreSmallSums : Sums → Type 0
AreSmallSums s = AreSmall s.ownership × AreSmall s.control

-- each share of the record is at most the whole
pub record IsCapped (r : Record) : Type 0 where
  pub performing : valued (shares_of r).performing ≤ whole
  pub mechanical : valued (shares_of r).mechanical ≤ whole
  pub synchronization : valued (shares_of r).synchronization ≤ whole

-- each share of each record is at most the whole
abbrev pub AreCapped : List Record → Type 0
AreCapped [] = Unit {0}
AreCapped (r ∷ records) = IsCapped r × AreCapped records

-- the entries of a map, each a TIS code with its totals; `None` where there is no map
abbrev pub entries_in : {S : Type 0} → Option (HashMap ℕ Totals S) → Option (List (ℕ × Totals))
entries_in map = option_map (λ m. m.entries) map

-- the totals that the entries have for a code; `None` where they have none, or where there are no entries
abbrev pub found_among : Option (List (ℕ × Totals)) → ℕ → Option Totals
found_among None code = None
found_among (Some entries) code = lookup (nat_eq code) entries

-- the totals that a map has for a code; `None` where it has none, or where there is no map
abbrev pub kept_at : {S : Type 0} → Option (HashMap ℕ Totals S) → ℕ → Option Totals
kept_at map code = found_among (entries_in map) code

-- the totals for a code, where the first code is stored apart from the others
abbrev pub found_in : Option (ℕ × Totals) → (ℕ → Option Totals) → ℕ → Option Totals
found_in None others code = others code
found_in (Some first) others code = if first.0 == code then Some first.1 else others code

-- the collection totals that are stored for a code; `None` where there are none
abbrev pub found_by : {A : Type 0} → Collected A → ℕ → Option Totals
found_by c = found_in c.first (kept_at c.others)

-- the totals for a code, and 0 in each right where none are found
abbrev pub value_at : (ℕ → Option Totals) → ℕ → Totals
value_at found code = unwrap_or (found code) (record { performing = 0; mechanical = 0; synchronization = 0 })

-- totals with the shares of one record more; a share that is not valid adds 0
abbrev pub with_shares : Totals → Shares → Totals
with_shares t s = record { performing = t.performing + valued s.performing; mechanical = t.mechanical + valued s.mechanical; synchronization = t.synchronization + valued s.synchronization }

-- `found` has the collection totals of the records for every code, and `over` says whether some are above 100.06 per
-- cent
pub record IsCollected (found : ℕ → Option Totals) (over : Bool) (records : List Record) : Type 0 where
  pub values : (code : ℕ) → value_at found code ≡ collection code records
  pub over_is : over ≡ is_over_somewhere records

-- the sums that are stored are the collection totals of the records
abbrev pub IsCollectedBy : {A : Type 0} → Collected A → List Record → Type 0
IsCollectedBy c records = IsCollected (found_by c) c.is_over records
