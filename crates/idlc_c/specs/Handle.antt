-- What a handle owns.
use mathlib.Core.Bool.{Bool, true, false}
use base.Fml.{Fml, ftrue, ffalse}
use denote.RawPtr.{Ptr}
use Rattle.std.specs.Prelude.{ℕ, List, [], ◌∷◌}
use Rattle.std.specs.declared.alloc.Global.{Global}
use Rattle.std.specs.declared.option.Option.{Option}
use Rattle.std.specs.declared.option.Option.TheVariants.{None, Some}
use Rattle.std.specs.contracts.impls.GlobalAllocator.TheImpl.{ghosts}
use Rattle.std_alloc.specs.Box.Ownership.{box_owns}
use Rattle.table_file.specs.Table.{TableParts}
use Rattle.idlc_c.specs.contracts.held.Held.{the_row}

-- the names of the parts of nodes, by their numbers; empty where none are known
abbrev pub Labels : Type 0
Labels = List (List (List ℕ))

-- a handle that says it is loaded owns the box of its table and its names, another has none
abbrev pub owns_table : Global → Ptr → Bool → Option TableParts → Labels → Fml
owns_table alloc at false None [] = ftrue
owns_table alloc at true (Some table) names =
    box_owns (ghosts.dealloc_token alloc) the_row at (record { table = table; names = names })
owns_table alloc at false None (name ∷ names) = ffalse
owns_table alloc at false (Some table) names = ffalse
owns_table alloc at true None names = ffalse
