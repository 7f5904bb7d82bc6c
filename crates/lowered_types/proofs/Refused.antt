-- Labels that a union refuses, and where that is told.
use Rattle.std.proofs.Common.{◌≡◌, ◌∙◌, ℕ, ◌+◌, length, false, List, [], ◌∷◌, ◌++◌, Option, Some, None, Result, Ok, Err, refl, ap, ℤ}
use Rattle.std.specs.Prelude.{◌&&◌, if◌then◌else◌}
use Rattle.idl_tree.specs.declared.names.At.{At}
use Rattle.idl_tree.specs.declared.names.Leaf.{Leaf}
use Rattle.idl_tree.specs.declared.const_expr.ConstExpr.{ConstExpr}
use Rattle.idl_tree.specs.declared.types.Label.TheVariants.{Case, Default}
use Rattle.idl_tree.specs.Starts.{expr_start, leaf_at}
use Rattle.type_graph.specs.declared.fault.GraphLimit.TheVariants.{Members as MembersLimit}
use Rattle.name_table.specs.declared.const_values.constant.Constant.{Constant}
use Rattle.name_table.specs.Kinds.{fits}
use Rattle.name_table.specs.Entry.{Entry}
use Rattle.scoped_names.specs.Reading.{◌>>◌}
use Rattle.scoped_names.specs.Tests.{value_read}
use Rattle.lowered_types.specs.declared.fault.BuildFault.{BuildFault}
use Rattle.lowered_types.specs.declared.fault.BuildFault.TheVariants.{Types}
use Rattle.lowered_types.specs.declared.fault.TypeFault.TheVariants.{LabelTwice}
use Rattle.lowered_types.specs.declared.labels.Switch.{Switch}
use Rattle.lowered_types.specs.Faults.{at_most, each, max_members, of_names}
use Rattle.lowered_types.specs.Labels.{Arms, CaseLabels, is_value, label_added, label_number, label_value, label_within, labelled, no_arms, no_labels, once_test, out_of_range, taken_at, value_added}

-- default: default:
pub second_default : (es : List Entry) (scope : ℕ) (s : Switch) (first second : Leaf)
    → each (label_added es scope s no_arms) no_labels (Default first ∷ Default second ∷ [])
    ≡ Err (Types (LabelTwice (leaf_at second) (leaf_at first)))
second_default es scope s first second = refl

-- what is told of a value that none has yet
abbrev fresh : Arms → CaseLabels → At → ℤ → Result CaseLabels BuildFault
fresh a ls at n = at_most max_members MembersLimit at (length a.arms + length ls.values + 1) >> λ count.
    Ok (record ls { values = ls.values ++ labelled n at ∷ [] })

-- a label whose value an arm or a label before has, which is told too
pub label_twice : (es : List Entry) (scope : ℕ) (s : Switch) (a : Arms) (ls : CaseLabels) (e : ConstExpr) (n : ℤ)
    (other : At)
    → label_value es scope s e.expr ≡ Ok n → taken_at a ls n ≡ Some other
    → label_added es scope s a ls (Case e) ≡ Err (Types (LabelTwice (leaf_at (expr_start e.expr)) other))
label_twice es scope s a ls e n other worth taken =
    let at = leaf_at (expr_start e.expr) in
    ap (λ r. r >> λ n. value_added a ls at n) worth ∙ ap (λ o. once_test at o >> λ u. fresh a ls at n) taken

-- what is told of a constant of another type
other_type : (s : Switch) (at : At) (c : Constant) (o : Option ℤ) → fits s.kind c ≡ false
    → label_within s at c o ≡ Err (Types (out_of_range s at c))
other_type s at c None other = refl
other_type s at c (Some n) other =
    ap (λ b. if b && is_value s.values n then Ok n else Err (Types (out_of_range s at c))) other

-- a label that is no constant of the type of the discriminator, as a number beyond its range
pub range_told : (es : List Entry) (scope : ℕ) (s : Switch) (a : Arms) (ls : CaseLabels) (e : ConstExpr) (c : Constant)
    → value_read es scope e.expr ≡ Ok c → fits s.kind c ≡ false
    → label_added es scope s a ls (Case e) ≡ Err (Types (out_of_range s (leaf_at (expr_start e.expr)) c))
range_told es scope s a ls e c worth other =
    let at = leaf_at (expr_start e.expr) in
    ap (λ r. (of_names r >> λ c. label_within s at c (label_number c)) >> λ n. value_added a ls at n) worth
    ∙ ap (λ r. r >> λ n. value_added a ls at n) (other_type s at c (label_number c) other)
