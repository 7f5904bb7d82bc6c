-- A handle says the same to every thread, since its table does.
use mathlib.Core.Bool.{Bool, true, false}
use mir.Raw.{raw}
use base.Shift.{Keyless}
use denote.Memory.{lone}
use denote.RawPtr.{Ptr}
use denote.Struct.Struct.{exits_of}
use denote.Struct.Owning.{shape, fields, to}
use denote.Param.Send.{IsSend, AllSend, owning_send, struct_send, sendable}
use Rattle.std.specs.declared.alloc.Global.{Global}
use Rattle.std.specs.declared.option.Option.{Option}
use Rattle.std.specs.declared.option.Option.TheVariants.{None, Some}
use Rattle.std.proofs.Crossing.{frees}
use Rattle.std.proofs.alloc.Global.TheSendSync as heap
use Rattle.std_alloc.proofs.SendSync.{quiet, lies}
use Rattle.table_file.specs.Table.{TableParts}
use Rattle.std.specs.Prelude.{[], ◌∷◌}
use Rattle.idlc_c.specs.contracts.held.Held as held
use Rattle.idlc_c.proofs.held.Held.TheSendSync.{the_send}
use Rattle.idlc_c.specs.Handle.{Labels, owns_table}
use Rattle.idlc_c.specs.contracts.handle.Handle.{the_row, the_type}

owned_keyless : (alloc : Global) (at : Ptr) (loaded : Bool) (table : Option TableParts) (names : Labels)
    → Keyless (owns_table alloc at loaded table names)
owned_keyless alloc at false None [] = tt
owned_keyless alloc at true (Some table) names = (
  lies held.the_row the_send at (record { table = table; names = names }),
  frees.frees alloc (raw (lone held.the_row.mir)) at,
)
owned_keyless alloc at false None (name ∷ names) = tt
owned_keyless alloc at false (Some table) names = tt
owned_keyless alloc at true None names = tt

pub send : IsSend the_row
send =
    let all : AllSend (fields the_type) = (search sendable, (search sendable, (heap.the_field_send, tt))) in
    owning_send the_type all (λ d. owned_keyless d.alloc d.at d.loaded d.table d.names)
    (λ k. quiet (to the_type) (exits_of k (fields the_type)) ((struct_send (shape the_type) all).leaving k))
