-- What a handle owns.
use Rattle.std.specs.Prelude.{Option, Some, None}
use Rattle.std.specs.Coded.{coded_option}
use Rattle.std.specs.Box.Ownership.{box_owns}
use Rattle.std.specs.contracts.impls.GlobalAllocator.TheImpl.{ghosts}
use Rattle.c_values.specs.RegistryValue.{RegistryValue}
use Rattle.c_values.specs.contracts.registry.Registry.{the_row}
use mir.Syntax.{Ty}
use base.Fml.{Fml, feq}
use base.Stored.{Coded}
use denote.RattleType.{RattleType}
use denote.RawPtr.{Ptr, null_ptr}

-- the right to give a block back to the C library's heap
abbrev pub frees : Ty → Ptr → Fml
frees = ghosts.dealloc_token (record { memory = record { seal = tt } })

-- what a box over that heap owns behind its pointer
abbrev pub owns_boxed : (R : RattleType) → Ptr → R.Denot → Fml
owns_boxed = box_owns frees

-- nothing, behind a null pointer, or what a box of a registry owns
abbrev pub owns_held : Ptr → Option RegistryValue → Fml
owns_held at None = feq Ptr at null_ptr
owns_held at (Some registry) = owns_boxed the_row at registry

-- how a registry behind a pointer, or none, is encoded for the logic of ownership
abbrev pub held_coded : Coded (Option RegistryValue)
held_coded = coded_option the_row.coded
