-- The controls of a call as they are stored: the low four bytes of each, and the byte above them.
use Rattle.std.specs.Prelude.{ℕ, ◌+◌, ◌*◌, ◌^◌, List, [], ◌∷◌, slice_index}
use Rattle.cwr_call.specs.declared.kept_control.KeptControl.{KeptControl}

-- the control of the right at this place, from 0, put together from its stored parts
abbrev pub control_at : ℕ → KeptControl → ℕ
control_at place c = slice_index c.high place * 2 ^ 32 + slice_index c.low place

-- the controls of the performing, the mechanical and the synchronization right, in that order
abbrev pub controls : KeptControl → List ℕ
controls c = control_at 0 c ∷ control_at 1 c ∷ control_at 2 c ∷ []
