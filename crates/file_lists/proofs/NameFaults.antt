-- The fault of a name, and the first fault of some.
use Rattle.std.proofs.Common.{◌≡◌, ℕ, ◌+◌, eqb, true, false, List, ◌∷◌, length, Some, None, refl}
use Rattle.std.specs.Str.{is_utf8, IsUtf8}
use Rattle.std.proofs.lemmas.Str.{IsUtf8-from_is_utf8, is_utf8-from_IsUtf8}
use Rattle.file_lists.specs.FileList.{name_fault, first_fault}
use Rattle.file_lists.specs.declared.fault.ListFault.{ListFault}
use Rattle.file_lists.specs.declared.fault.ListFault.TheVariants.{NoText}

pub text_has_none : (number : ℕ) (name : List ℕ) → eqb (length name) 0 ≡ false → IsUtf8 name → name_fault number name ≡ None
text_has_none number name some text = rw (some, is_utf8-from_IsUtf8 name text) refl

pub no_text : (number : ℕ) (name : List ℕ) → eqb (length name) 0 ≡ false → (IsUtf8 name → ⊥) → name_fault number name ≡ Some (NoText number)
no_text number name some not =
    let answer : is_utf8 name ≡ false = (elim (is_utf8 name) as (λ b. is_utf8 name ≡ b → is_utf8 name ≡ false) [
      | true ↦ λ e. absurd (not (IsUtf8-from_is_utf8 name e))
      | false ↦ λ e. e
    ]) refl in
    rw (some, answer) refl

-- where the first name has no fault, the first fault is that of the others
pub first_fault-right : (number : ℕ) (name : List ℕ) (names : List (List ℕ)) → name_fault number name ≡ None → first_fault number (name ∷ names) ≡ first_fault (number + 1) names
first_fault-right number name names e = rw e refl

-- where it has one, that is the first fault
pub first_fault-wrong : (number : ℕ) (name : List ℕ) (names : List (List ℕ)) (fault : ListFault) → name_fault number name ≡ Some fault → first_fault number (name ∷ names) ≡ Some fault
first_fault-wrong number name names fault e = rw e refl
