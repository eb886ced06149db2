-- Why a register that is read and audited was not audited.
use Rattle.std.specs.Prelude.{ℕ, ◌≡◌, ◌<◌, Bool, true, false, List, length, Option, IfSome}
use Rattle.byte_streams.specs.declared.consuming.ConsumeError.{ConsumeError}
use Rattle.byte_streams.specs.declared.consuming.ConsumeError.TheVariants as consumed
use Rattle.byte_streams.specs.declared.reading.ReadRefused.TheVariants as unread
use Rattle.work_registry.specs.Numbers.{max_entries}
use Rattle.work_registry.specs.RegisterFaults.{IsRefusal}
use Rattle.work_registry.specs.declared.register.refusal.RegisterRefusal.{RegisterRefusal}
use Rattle.work_registry.specs.declared.register.refusal.RegisterRefusal.TheVariants as register
use Rattle.register_store.specs.declared.reading.ReadBookError.{ReadBookError}
use Rattle.register_store.specs.declared.reading.ReadBookError.TheVariants.{Memory, Read, TooLong, Refused}

-- the error of an audit, given why the register was not consumed
abbrev pub answer_for : ConsumeError RegisterRefusal → ReadBookError
answer_for (consumed.Unread unread.Memory) = Memory
answer_for (consumed.Unread unread.Read) = Read
answer_for (consumed.Unread unread.TooLong) = TooLong
answer_for (consumed.Refused refusal) = Refused refusal

-- the register is refused because an allocation failed
abbrev pub is_memory : RegisterRefusal → Bool
is_memory register.Memory = true
is_memory _ = false

-- Why the register of a reader was not audited: an allocation failed, a read failed, there are bytes past the limit,
-- or the bytes are refused for this.
abbrev pub IsUnaudited : ℕ → Option (List ℕ) → Bool → ReadBookError → Type 0
IsUnaudited limit left failed Memory = failed ≡ false
IsUnaudited limit left failed Read = failed ≡ true
IsUnaudited limit left failed TooLong = (failed ≡ false) × IfSome left (λ bytes. limit < length bytes)
IsUnaudited limit left failed (Refused refusal) = (failed ≡ false) × (refusal ≡ register.Memory → ⊥) × IfSome left (λ bytes. IsRefusal max_entries bytes refusal)
