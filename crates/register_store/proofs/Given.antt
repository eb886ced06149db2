-- What is read of a reader that gave these bytes.
use Rattle.std.proofs.Common.{◌≡◌, ◌∙◌, ℕ, Bool, true, false, List, Option, Some, None, IfSome, refl, sym, subst}
use Rattle.std.specs.Prelude.{IfOk, IfErr, OnOk}
use Rattle.std.specs.declared.result.Result.{Result}
use Rattle.std.specs.declared.result.Result.TheVariants.{Ok, Err}
use Rattle.byte_streams.specs.Consuming.{IsUnconsumed}
use Rattle.byte_streams.specs.declared.consuming.ConsumeError.{ConsumeError}
use Rattle.byte_streams.specs.declared.consuming.ConsumeError.TheVariants as consumed
use Rattle.byte_streams.specs.declared.reading.ReadRefused.TheVariants as unread
use Rattle.work_registry.specs.Numbers.{max_entries}
use Rattle.work_registry.specs.RegisterFaults.{IsRefusal}
use Rattle.work_registry.specs.declared.register.refusal.RegisterRefusal.{RegisterRefusal}
use Rattle.work_registry.specs.declared.register.refusal.RegisterRefusal.TheVariants as register
use Rattle.register_store.specs.Auditing.{IsUnaudited, answer_for, is_memory}
use Rattle.register_store.specs.declared.reading.ReadBookError.{ReadBookError}
use Rattle.register_store.specs.declared.reading.ReadBookError.TheVariants.{Memory, Read, TooLong, Refused}

-- what holds of the bytes that were given holds of those that were left
pub holds_given : (left : Option (List ℕ)) (text : List ℕ) (P : List ℕ → Type 0) → IfSome left (λ bytes. text ≡ bytes) → P text → IfSome left P
holds_given None text P given p = tt
holds_given (Some bytes) text P given p = subst P given p

-- four things that hold of an answer
pub all_of : {T E : Type 0} (r : Result T E) (P Q R S : T → Type 0) → IfOk r P → IfOk r Q → IfOk r R → IfOk r S → IfOk r (λ x. P x × Q x × R x × S x)
all_of (Ok x) P Q R S p q r s = (p, q, r, s)
all_of (Err e) P Q R S p q r s = tt

-- a refusal but for want of memory is another
others : (refusal : RegisterRefusal) → is_memory refusal ≡ false → refusal ≡ register.Memory → ⊥
others register.Memory none e = absurd (let never : true ≡ false = none in cc)
others (register.Fault number line) none e = absurd cc

-- why a register was not consumed is why it was not audited
unaudited : (limit : ℕ) (left : Option (List ℕ)) (failed : Bool) (why : ConsumeError RegisterRefusal)
    → IsUnconsumed (λ (refusal : RegisterRefusal) (text : List ℕ). IsRefusal max_entries text refusal) is_memory limit left failed why → IsUnaudited limit left failed (answer_for why)
unaudited limit left failed (consumed.Unread unread.Memory) h = h
unaudited limit left failed (consumed.Unread unread.Read) h = h
unaudited limit left failed (consumed.Unread unread.TooLong) h = h
unaudited limit left failed (consumed.Refused refusal) h =
    let t = h.2 in
    (h.0, others refusal h.1, holds_given left t.0 (λ text. IsRefusal max_entries text refusal) t.1 t.3)

pub unaudited_as : (limit : ℕ) (left : Option (List ℕ)) (failed : Bool) (why : ConsumeError RegisterRefusal) (answer : ReadBookError) → answer ≡ answer_for why
    → IsUnconsumed (λ (refusal : RegisterRefusal) (text : List ℕ). IsRefusal max_entries text refusal) is_memory limit left failed why → IsUnaudited limit left failed answer
unaudited_as limit left failed why answer e h = subst (λ (a : ReadBookError). IsUnaudited limit left failed a) (sym e) (unaudited limit left failed why h)

-- ---- why no book was read

pub unread_is : {B : Type 0} (r : Result B ReadBookError) (why : ReadBookError) (limit : ℕ) (left : Option (List ℕ)) (failed : Bool) → IfErr r (IsUnaudited limit left failed) → r ≡ Err why → IsUnaudited limit left failed why
unread_is {B = B} r why limit left failed is e = let P : Result B ReadBookError → Type 0 = λ x. IfErr x (IsUnaudited limit left failed) in subst P e is

pub failed_read : {B : Type 0} (r : Result B ReadBookError) (limit : ℕ) (left : Option (List ℕ)) (failed : Bool) → OnOk r (failed ≡ false) → IfErr r (IsUnaudited limit left failed) → failed ≡ true → r ≡ Err Read
failed_read (Ok book) limit left failed going is f = absurd (let never : true ≡ false = sym f ∙ going in cc)
failed_read (Err Memory) limit left failed going is f = absurd (let never : true ≡ false = sym f ∙ is in cc)
failed_read (Err Read) limit left failed going is f = refl
failed_read (Err TooLong) limit left failed going is f = absurd (let never : true ≡ false = sym f ∙ is.0 in cc)
failed_read (Err (Refused refusal)) limit left failed going is f = absurd (let never : true ≡ false = sym f ∙ is.0 in cc)
