-- A handle may go to another thread: a registry may, and any thread may give its block back to the heap.
use mir.Raw.{raw}
use base.Shift.{Keyless}
use denote.Memory.{lone}
use denote.RawPtr.{Ptr}
use denote.Struct.Struct.{exits_of}
use denote.Struct.Owning.{shape, fields, to}
use denote.Param.Send.{IsSend, AllSend, owning_send, struct_send, sendable}
use Rattle.std.specs.Prelude.{Option, Some, None}
use Rattle.std.proofs.Crossing as heap
use Rattle.std_alloc.proofs.SendSync.{quiet, lies}
use Rattle.purvilgo_c.specs.Ownership.{owns_held}
use Rattle.c_values.specs.RegistryValue.{RegistryValue}
use Rattle.c_values.specs.contracts.registry.Registry as Registry
use Rattle.c_values.proofs.registry.Registry.TheSendSync.{the_send as registry}
use Rattle.purvilgo_c.specs.contracts.handle.Handle.{the_row, the_type}

crosses : (p : Ptr) (held : Option RegistryValue) → Keyless (owns_held p held)
crosses p None = tt
crosses p (Some r) = (lies Registry.the_row registry p r, heap.frees.frees (record { memory = record { seal = tt } }) (raw (lone Registry.the_row.mir)) p)

pub send : IsSend the_row
send =
    let all : AllSend (fields the_type) = (search sendable, tt) in
    owning_send the_type all (λ h. crosses h.at h.held) (λ k. quiet (to the_type) (exits_of k (fields the_type)) ((struct_send (shape the_type) all).leaving k))
