-- What the accepted entries say of a submitter's number of a work.
use Rattle.std.specs.Prelude.{ℕ, List, Option, count_by}
use Rattle.std.specs.Option.{option_map}
use Rattle.work_registry.specs.declared.key.Key.{Key}
use Rattle.work_registry.specs.declared.claim.Claim.{Claim}
use Rattle.work_registry.specs.Rows.{Row, same_key, last_of_key}

-- how often a call with this key was accepted
abbrev pub versions_of : Key → List Row → ℕ
versions_of k rows = count_by (λ r. same_key r.key k) rows

-- the claim of an accepted entry, as this version
abbrev pub claim_from : ℕ → Row → Claim
claim_from version r = record { work = r.work; version = version; control = r.control }

-- the claim in force under a key: its last accepted entry, with the number of its accepted entries as the version;
-- `None` where it has none
abbrev pub claim_of : Key → List Row → Option Claim
claim_of k rows = option_map (claim_from (versions_of k rows)) (last_of_key k rows)
