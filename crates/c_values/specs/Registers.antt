-- What is returned of a register that is given as bytes.
use Rattle.std.specs.Prelude.{◌≡◌, ℕ, ◌≤◌, ◌⊎◌, List, length, IsTrue}
use Rattle.std.specs.List.{AllByRecursion}
use Rattle.work_registry.specs.EntryValue.{EntryValue}
use Rattle.work_registry.specs.History.{IsHistory}
use Rattle.work_registry.specs.Numbers.{max_entries}
use Rattle.work_registry.specs.Register.{register_text, IsWholeEntry}
use Rattle.work_registry.specs.RegisterFaults.{IsLeastFault}
use Rattle.work_registry.specs.Replay.{is_opening}
use Rattle.work_registry.specs.declared.register.refusal.RegisterRefusal.{RegisterRefusal}
use Rattle.work_registry.specs.declared.register.refusal.RegisterRefusal.TheVariants.{Fault, Memory}
use Rattle.c_values.specs.Answers.{done, no_memory, faulty}
use Rattle.c_values.specs.declared.registers.RegisterFault.{RegisterFault}

-- the first fault of the text as a register of at most `limit` entries
abbrev pub IsFirstFault : ℕ → List ℕ → RegisterFault → Type 0
IsFirstFault limit text fault = IsLeastFault limit text fault.line fault.number

-- the status for a text that has no book
abbrev pub refusal_status : RegisterRefusal → ℕ
refusal_status (Fault number line) = faulty
refusal_status Memory = no_memory

-- a status that an audit can return
abbrev pub IsAuditStatus : ℕ → Type 0
IsAuditStatus status = (status ≡ done) ⊎ ((status ≡ faulty) ⊎ (status ≡ no_memory))

-- the text is the register of this history, which is one of a registry, all of the opening
pub record IsRegisterOf (text : List ℕ) (history : List EntryValue) : Type 0 where
  pub register : text ≡ register_text history
  pub lawful : IsHistory history
  pub opening : IsTrue (is_opening history)
  pub whole : AllByRecursion IsWholeEntry history
  pub few : length history ≤ max_entries
