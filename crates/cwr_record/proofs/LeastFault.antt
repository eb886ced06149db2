-- The first field from the left that is not readable is the least fault.
use Rattle.std.proofs.Common.{◌≡◌, ℕ, zero, suc, ◌<◌, ◌≤◌, true, false, cond, List, [], ◌∷◌, length, take, get_or, arith, refl, inl, inr, is_some}
use Rattle.std.specs.List.{AllByRecursion}
use Rattle.std.proofs.lemmas.Bool.Decides.{nat_tests}
use Rattle.cwr_record.specs.declared.slot.FieldFault.{FieldFault}
use Rattle.cwr_record.specs.declared.slot.Slot.{Slot}
use Rattle.cwr_record.specs.declared.slot.Content.{Content}
use Rattle.cwr_record.specs.declared.slot.Content.TheVariants.{Kind}
use Rattle.std.specs.Prelude.{Option}
use Rattle.cwr_record.specs.Layout.{Value, reading}
use Rattle.cwr_record.specs.Faults.{IsLeastFault, IsNotAfter, faults, fault_of}
use Rattle.cwr_record.specs.Ranges.{starts_rise}
use Rattle.cwr_record.specs.Readable.{IsRead, IsReadable}

-- the fields after one start after it
later : (line : List ℕ) (s : Slot) (slots : List Slot) (f : FieldFault) → f.start ≤ s.column.start → starts_rise (s ∷ slots) ≡ true
    → AllByRecursion (IsNotAfter f) (faults line slots)
later line s [] f le rise = tt
later line s (t ∷ slots) f le rise =
    let lt : s.column.start < t.column.start = grind (arith, nat_tests) in
    let rest = later line t slots f (omega arith) (grind (arith, nat_tests)) in
    elim (is_some (reading line t)) as (λ b. AllByRecursion (IsNotAfter f) (cond b (faults line slots) (fault_of t ∷ faults line slots))) [ true ↦ rest | false ↦ (inl (omega arith), rest) ]

head_is : (line : List ℕ) (s : Slot) (slots : List Slot) → starts_rise (s ∷ slots) ≡ true → is_some (reading line s) ≡ false
    → IsLeastFault line (s ∷ slots) (fault_of s)
head_is line s slots rise none =
    rw none ((0, omega arith, refl), (inr (refl, omega arith), later line s slots (fault_of s) (omega arith) rise))

rises_on : (s : Slot) (slots : List Slot) → starts_rise (s ∷ slots) ≡ true → starts_rise slots ≡ true
rises_on s [] rise = refl
rises_on s (t ∷ slots) rise = grind (arith, nat_tests)

-- a field that was checked has a value
has_value : (content : Content) (value : Option Value) → IsRead content value → is_some value ≡ true
has_value (Kind code) value h = rw h refl
has_value content value h = h

pub least_at : (line : List ℕ) (slots : List Slot) (i : ℕ) (d : Slot) → i < length slots → starts_rise slots ≡ true
    → AllByRecursion (IsReadable line) (take i slots) → is_some (reading line (get_or slots i d)) ≡ false
    → IsLeastFault line slots (fault_of (get_or slots i d))
least_at line [] i d lt rise before none = absurd (omega arith)
least_at line (s ∷ slots) zero d lt rise before none = head_is line s slots rise none
least_at line (s ∷ slots) (suc i) d lt rise before none =
    rw (has_value s.content (reading line s) before.0) (least_at line slots i d (omega arith) (rises_on s slots rise) before.1 none)
