-- A set of interested party numbers, each stored as two numbers, which compare faster than nine bytes.
use Rattle.std.specs.Prelude.{ℕ, ◌≡◌, ◌<◌, ◌||◌, Bool, List, Option, Some, None, length, take, get_or}
use Rattle.std.specs.BTreeSet.{BTreeSet, contains}
use Rattle.std.specs.Int.{w64, from_be_bytes}
use Rattle.std.specs.Ordering.{nat_cmp, ordering_then, is_eq}
use Rattle.std.specs.declared.cmp.Ordering.{Ordering}
use Rattle.cwr_rules.specs.declared.parties.Parties.{Parties}
use Rattle.cwr_rules.specs.Rules.{is_party_of}

-- a party's nine bytes as two numbers: the first eight bytes, big-endian, and the last
abbrev pub key_of : List ℕ → ℕ × ℕ
key_of party = (from_be_bytes w64 (take 8 party), get_or party 8 0)

-- the order of keys, by the first number and then by the second, which is that of the bytes
abbrev pub key_cmp : ℕ × ℕ → ℕ × ℕ → Ordering
key_cmp one other = ordering_then (nat_cmp one.0 other.0) (nat_cmp one.1 other.1)

-- an interested party number: nine bytes
pub record IsNumber (party : List ℕ) : Type 0 where
  pub nine : length party ≡ 9
  -- each is below 256
  pub bytes : (i : ℕ) → get_or party i 0 < 256

-- the key is the one stored apart, or in the set of the others
abbrev pub kept_in : Option (ℕ × ℕ) → BTreeSet (ℕ × ℕ) → ℕ × ℕ → Bool
kept_in None others key = contains key_cmp others key
kept_in (Some first) others key = is_eq (key_cmp first key) || contains key_cmp others key

-- the key is stored
abbrev pub kept_by : {A : Type 0} → Parties A → ℕ × ℕ → Bool
kept_by p = kept_in p.first p.set

-- exactly these parties are stored
abbrev pub HoldsParties : (ℕ × ℕ → Bool) → List (List ℕ) → Type 0
HoldsParties kept parties = (q : List ℕ) → IsNumber q → kept (key_of q) ≡ is_party_of parties q
