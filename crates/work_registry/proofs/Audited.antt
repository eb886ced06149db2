-- A register that is read a line at a time.
use Rattle.std.proofs.Common.{◌≡◌, ℕ, List, length, Option, Some, None, arith, ap, subst}
use Rattle.std.specs.Prelude.{◌≤◌}
use Rattle.work_registry.specs.EntryValue.{EntryValue}
use Rattle.work_registry.specs.RegisterReader.{ReaderState, HasCounted, IsRest, IsRestAfter}
use Rattle.work_registry.specs.RegisterReading.{IsReadTo}

-- what is left before the first line, and after it

pub rest_first : (s : ReaderState) (text rest : List ℕ) → s.count ≡ None → IsRest s text rest → text ≡ rest
rest_first s text rest e left = let P : Option ℕ → Type 0 = λ o. IsRestAfter s.limit o s.history text rest in subst P e left

pub rest_later : (s : ReaderState) (count : ℕ) (text rest : List ℕ) → s.count ≡ Some count → IsRest s text rest → IsReadTo s.limit text count s.history rest
rest_later s count text rest e left = let P : Option ℕ → Type 0 = λ o. IsRestAfter s.limit o s.history text rest in subst P e left

-- how many entries there are after the first line
pub counted_later : (limit : ℕ) (o : Option ℕ) (history : List EntryValue) (count : ℕ) → o ≡ Some count → HasCounted limit o history → (length history ≤ count) × (count ≤ limit)
counted_later limit o history count e is = let P : Option ℕ → Type 0 = λ x. HasCounted limit x history in subst P e is

-- and there are never more than may be
pub counted_within : (limit : ℕ) (o : Option ℕ) (history : List EntryValue) → HasCounted limit o history → length history ≤ limit
counted_within limit None history is = let none = ap length is in omega (arith, none)
counted_within limit (Some count) history is = omega (arith, is.0, is.1)
