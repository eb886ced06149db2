-- A call that the registry answered: who handed it in (session 0 is the opening), what it was, and the reply.
use Rattle.std.specs.Prelude.{ℕ}
use Rattle.cwr_call.specs.CallValue.{CallValue}
use Rattle.work_registry.specs.declared.reply.Reply.{Reply}

-- one entry of a history
pub record EntryValue : Type 0 where
  -- the number of the session that handed the call in; 0 is the opening
  pub session : ℕ
  pub call : CallValue
  pub reply : Reply

-- the entry of a call with its reply, handed in by this session
abbrev pub entry_of : ℕ → CallValue → Reply → EntryValue
entry_of session call reply = record { session = session; call = call; reply = reply }
