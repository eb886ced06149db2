-- A call that was not taken, and why.
use Rattle.std.specs.Prelude.{Bool, true, false}
use Rattle.std.specs.declared.result.Result.{Result}
use Rattle.std.specs.declared.result.Result.TheVariants.{Ok, Err}
use Rattle.cwr_call.specs.CallValue.{CallValue}
use Rattle.work_registry.specs.declared.reply.Reply.{Reply}
use Rattle.work_registry.specs.declared.refused.HandInError.{HandInError}
use Rattle.work_registry.specs.declared.refused.HandInError.TheVariants.{Full, Memory}

-- a call that was handed back, and why
pub record RefusedValue : Type 0 where
  pub call : CallValue
  pub why : HandInError

-- the call was not taken because the book holds its limit of entries
abbrev pub is_for_limit : HandInError → Bool
is_for_limit Full = true
is_for_limit Memory = false

-- a book answered that it holds its limit of entries
abbrev pub is_full : Result Reply RefusedValue → Bool
is_full (Ok reply) = false
is_full (Err refused) = is_for_limit refused.why
