-- The names that a scope has itself, and in which nothing of the same name is declared.
use Rattle.std.specs.Prelude.{ℕ, zero, suc, Bool, true, false, ◌&&◌, List, Option, Some, None, slice_get}
use Rattle.std.specs.Str.{str_eq_ignore_ascii_case}
use Rattle.idl_tree.specs.declared.kinds.EntryKind.{EntryKind}
use Rattle.idl_tree.specs.declared.kinds.EntryKind.TheVariants as Entries
use Rattle.name_table.specs.Entry.{Entry}

-- a module, an interface, a structure, a union or an exception: its name isn't declared directly inside it
abbrev pub keeps_its_name : EntryKind → Bool
keeps_its_name Entries.Module = true
keeps_its_name Entries.Interface = true
keeps_its_name Entries.Struct = true
keeps_its_name Entries.Union = true
keeps_its_name Entries.Enum = true
keeps_its_name Entries.Enumerator = true
keeps_its_name Entries.Typedef = true
keeps_its_name Entries.Const = true
keeps_its_name Entries.Exception = true
keeps_its_name Entries.Operation = false
keeps_its_name Entries.Attribute = true

abbrev pub is_named_so : List ℕ → Option Entry → Bool
is_named_so name None = false
is_named_so name (Some e) = keeps_its_name e.kind && str_eq_ignore_ascii_case e.name name

-- the scope's own name
abbrev pub is_own_name : List Entry → ℕ → List ℕ → Bool
is_own_name es zero name = false
is_own_name es (suc e) name = is_named_so name (slice_get es e)
