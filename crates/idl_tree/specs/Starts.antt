-- Where tokens stand; the parts of names, and the first tokens of names and expressions.
use Rattle.std.specs.Prelude.{Bool, false, List, [], Option, Some, None, is_some}
use Rattle.idl_tree.specs.declared.names.At.{At}
use Rattle.idl_tree.specs.declared.names.Leaf.{Leaf}
use Rattle.idl_tree.specs.declared.names.ScopedName.{ScopedName}
use Rattle.idl_tree.specs.declared.names.ScopedName.TheVariants.{Plain, Scoped}
use Rattle.idl_tree.specs.declared.expression.Expr.{Expr, Name, Number, Character, Text, Boolean, Parenthesized', Signed', Chain'}

abbrev pub leaf_at : Leaf → At
leaf_at l = record { token = l.number; line = l.token.line }

-- :: where a name begins with it, else its first identifier
abbrev pub root_or : Option Leaf → Leaf → Leaf
root_or None first = first
root_or (Some root) first = root

abbrev pub name_start : ScopedName → Leaf
name_start (Plain l) = l
name_start (Scoped p) = root_or p.value.root p.value.first

abbrev pub is_rooted : ScopedName → Bool
is_rooted (Plain l) = false
is_rooted (Scoped p) = is_some p.value.root

-- the first identifier
abbrev pub name_first : ScopedName → Leaf
name_first (Plain l) = l
name_first (Scoped p) = p.value.first

-- the identifiers behind the first
abbrev pub name_rest : ScopedName → List Leaf
name_rest (Plain l) = []
name_rest (Scoped p) = p.value.rest.items

abbrev pub expr_start : Expr → Leaf
expr_start (Name n) = name_start n
expr_start (Number l) = l
expr_start (Character l) = l
expr_start (Text ls) = ls.value.first
expr_start (Boolean b word) = word
expr_start (Parenthesized' l p inner) = l
expr_start (Signed' m s p inner) = m
expr_start (Chain' p first shape rest) = expr_start first
