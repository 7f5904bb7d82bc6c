-- What interfaces are lowered to, step by step.
use Rattle.std.proofs.Common.{◌≡◌, ◌∙◌, ℕ, List, Option, Ok, sym, ap}
use Rattle.idl_tree.specs.declared.names.Leaf.{Leaf}
use Rattle.idl_tree.specs.declared.definitions.Export.{Export}
use Rattle.idl_tree.specs.declared.definitions.Interface.{Interface}
use Rattle.name_table.specs.Entry.{Entry}
use Rattle.lowered_types.specs.SimpleTypes.{entry_of}
use Rattle.lowered_types.proofs.Walks.{goes_on}
use Rattle.lowered_operations.specs.Operations.{Defined}
use Rattle.lowered_operations.specs.Interfaces.{exports_of, identifier_of, interface, interface_as}

-- an interface whose entry is found
pub interface_told : (es : List Entry) (scope : ℕ) (d : Defined) (i : Interface) (id : Leaf) (e : ℕ)
    (exports : Option (List Export))
    → id ≡ identifier_of i → Ok e ≡ entry_of es scope id → exports ≡ exports_of i
    → interface_as es d e exports ≡ interface es scope d i
interface_told es scope d i id e exports same named is =
    ap (interface_as es d e) is
    ∙ sym (goes_on (entry_of es scope (identifier_of i)) e (λ e. interface_as es d e (exports_of i))
    (sym (named ∙ ap (entry_of es scope) same)))
