-- A value fits where its parts do.
use Rattle.std.proofs.Common.{◌≡◌, ℕ, ℤ, suc, ◌-◌, ◌<◌, ◌↔◌, List, ◌∷◌, [], length, replicate, Option, Some, None, Bool, false, IsTrue, refl, sym, ap, subst, rules}
use Rattle.type_graph.specs.declared.node.Node.{Node}
use Rattle.std.specs.Prelude.{Box}
use Rattle.std.specs.declared.alloc.Global.{Global}
use Rattle.type_graph.specs.declared.node.Node.TheVariants.{Seq, Union}
use Rattle.type_graph.specs.Value.{Items, Choice, count, node_at, arm_of, IsNumber, Fits, FitAll, IsCount}
use Rattle.idl_value.specs.declared.value.Value.{Value}
use Rattle.idl_value.specs.View.{tree_of, trees_of, member_of}

-- a sequence has as many trees as values
pub count-trees_of : (values : List Value) → count (trees_of values) ≡ length values
count-trees_of [] = refl
count-trees_of (value ∷ more) = ap suc (count-trees_of more)

-- a sequence, where it isn't too deep or too long
pub sequence_fits : (graph : List Node) (elem bound depth : ℕ) (values : List Value) (r : Bool) → 0 < depth
    → IsCount bound (length values)
    → IsTrue r ↔ FitAll graph (replicate (length values) elem) (trees_of values) (depth - 1)
    → IsTrue r ↔ Fits graph (Seq elem bound) (Items (trees_of values)) depth
sequence_fits graph elem bound depth values r deep counted same =
    let Parts : ℕ → Type 0 = λ n. FitAll graph (replicate n elem) (trees_of values) (depth - 1) in (
      λ t. (
        deep,
        subst (IsCount bound) (sym (count-trees_of values)) counted,
        subst Parts (sym (count-trees_of values)) (same.0 t),
      ),
      λ h. same.1 (subst Parts (count-trees_of values) h.2),
    )

-- what is too deep or too long is none
pub no_sequence : (graph : List Node) (elem bound depth : ℕ) (values : List Value)
    → (0 < depth → IsCount bound (length values) → ⊥)
    → IsTrue false ↔ Fits graph (Seq elem bound) (Items (trees_of values)) depth
no_sequence graph elem bound depth values never =
    (λ f. absurd (false_is_not f), λ h. absurd (never h.0 (subst (IsCount bound) (count-trees_of values) h.1)))
  where
    false_is_not : IsTrue false → ⊥
    false_is_not f = search rules

-- a union whose discriminator is a value, and chooses a member
pub union_fits : (graph : List Node) (switch : ℕ) (arms : List (ℤ × ℕ)) (default : Option ℕ) (a : ℤ) (depth number : ℕ)
    (member : Box Value Global) (r : Bool)
    → IsNumber (node_at graph switch) a → number ∷ [] ≡ arm_of arms default a
    → IsTrue r ↔ Fits graph (node_at graph number) (tree_of member.value) depth
    → IsTrue r ↔ Fits graph (Union switch arms default) (Choice a (member_of (Some member))) depth
union_fits graph switch arms default a depth number member r value chosen same =
    let Parts : List ℕ → Type 0 = λ numbers. FitAll graph numbers (member_of (Some member)) depth in (
      λ t. (value, subst Parts chosen (same.0 t, tt)),
      λ h. let parts : Parts (number ∷ []) =
          subst Parts (sym chosen) h.1 in same.1 parts.0,
    )

-- or none
pub empty_union_fits : (graph : List Node) (switch : ℕ) (arms : List (ℤ × ℕ)) (default : Option ℕ) (a : ℤ) (depth : ℕ)
    → IsNumber (node_at graph switch) a → [] ≡ arm_of arms default a
    → Fits graph (Union switch arms default) (Choice a (member_of None)) depth
empty_union_fits graph switch arms default a depth value chosen =
    let Parts : List ℕ → Type 0 = λ numbers. FitAll graph numbers (member_of None) depth in
    (value, subst Parts chosen tt)
