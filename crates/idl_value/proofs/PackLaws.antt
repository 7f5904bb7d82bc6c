-- What is put behind a tape for a value, where that is known for its parts.
use Rattle.std.proofs.Common.{◌≡◌, ℕ, ℤ, pos, ◌+◌, ◌-◌, ◌<◌, List, ◌∷◌, [], ◌++◌, length, drop, get_or, replicate, Option, Some, refl, sym, ap, ap₂, ◌∙◌, subst, append_assoc, drop-cons, add-one}
use Rattle.std.proofs.lemmas.List.{append-nil}
use Rattle.std.specs.Prelude.{Box}
use Rattle.std.specs.declared.alloc.Global.{Global}
use Rattle.type_graph.specs.declared.width.Width.TheVariants.{Four}
use Rattle.type_graph.specs.declared.width.Order.TheVariants.{Big}
use Rattle.type_graph.specs.declared.node.Node.{Node}
use Rattle.type_graph.specs.declared.node.Node.TheVariants.{Seq, Union}
use Rattle.type_graph.specs.Words.{word}
use Rattle.type_graph.specs.Value.{Tree, Trees, NoTree, AndTree, Items, Choice, count, node_at, number_width, arm_of, IsNumber, FitAll, tape_of, tapes_of}
use Rattle.idl_value.specs.declared.value.Value.{Value}
use Rattle.idl_value.specs.View.{tree_of, trees_of, member_of}
use Rattle.idl_value.specs.inner.Packing.{AddsValue, AddsValues}
use Rattle.idl_value.proofs.FitLaws.{count-trees_of}

-- the trees of what is left begin with that of the next value
pub trees_of-drop : (values : List Value) (i : ℕ) (value : Value) → i < length values → value ≡ get_or values i value
    → trees_of (drop i values) ≡ AndTree (tree_of value) (trees_of (drop (i + 1) values))
trees_of-drop values i value lt e =
    ap trees_of (drop-cons values i value lt)
    ∙ ap₂ (λ v j. AndTree (tree_of v) (trees_of (drop j values))) (sym e) (sym (add-one i))

module _ (graph : List Node) where
  -- one value more
  pub adds_next : (numbers more : List ℕ) (number : ℕ) (all rest : Trees) (value : Tree) (start tape new : List ℕ)
      → ((depth : ℕ) → FitAll graph numbers all depth → FitAll graph (number ∷ more) (AndTree value rest) depth
      × (tape ++ tapes_of graph (number ∷ more) (AndTree value rest) ≡ start ++ tapes_of graph numbers all))
      → AddsValue graph (node_at graph number) value tape new
      → (depth : ℕ) → FitAll graph numbers all depth → FitAll graph more rest depth
      × (new ++ tapes_of graph more rest ≡ start ++ tapes_of graph numbers all)
  adds_next numbers more number all rest value start tape new before adds depth h =
      let now = before depth h in (
        now.0.1,
        ap (λ l. l ++ tapes_of graph more rest) (adds depth now.0.0)
            ∙ append_assoc tape (tape_of graph (node_at graph number) value) (tapes_of graph more rest) ∙ now.1,
      )

  -- a count, and the elements of a sequence
  pub adds_sequence : (elem bound : ℕ) (values : List Value) (old mid new : List ℕ)
      → mid ≡ old ++ word Big Four (pos (length values))
      → AddsValues graph (replicate (length values) elem) (trees_of values) mid new
      → AddsValue graph (Seq elem bound) (Items (trees_of values)) old new
  adds_sequence elem bound values old mid new counted adds depth h =
      let trees = trees_of values in
      let Adds : ℕ → Type 0 = λ n. FitAll graph (replicate n elem) trees (depth - 1)
      → new ≡ (old ++ word Big Four (pos n)) ++ tapes_of graph (replicate n elem) trees in
      let at_length : Adds (length values) = λ f. adds (depth - 1) f
      ∙ ap (λ l. l ++ tapes_of graph (replicate (length values) elem) trees) counted in
      subst Adds (sym (count-trees_of values)) at_length h.2
      ∙ append_assoc old (word Big Four (pos (count trees))) (tapes_of graph (replicate (count trees) elem) trees)

  -- a discriminator, and the member that it chooses
  pub adds_union : (switch : ℕ) (arms : List (ℤ × ℕ)) (default : Option ℕ) (a : ℤ) (number : ℕ)
      (member : Box Value Global) (old mid new : List ℕ)
      → (IsNumber (node_at graph switch) a → mid ≡ old ++ word Big (number_width (node_at graph switch)) a)
      → number ∷ [] ≡ arm_of arms default a
      → AddsValue graph (node_at graph number) (tree_of member.value) mid new
      → AddsValue graph (Union switch arms default) (Choice a (member_of (Some member))) old new
  adds_union switch arms default a number member old mid new switched chosen adds depth h =
      let front = word Big (number_width (node_at graph switch)) a in
      let tree = tree_of member.value in
      let Parts : List ℕ → Type 0 = λ numbers. FitAll graph numbers (AndTree tree NoTree) depth
      → new ≡ old ++ (front ++ tapes_of graph numbers (AndTree tree NoTree)) in
      let at_number : Parts (number ∷ []) = λ f. adds depth f.0
      ∙ ap (λ l. l ++ tape_of graph (node_at graph number) tree) (switched h.0)
      ∙ append_assoc old front (tape_of graph (node_at graph number) tree)
      ∙ ap (λ l. old ++ (front ++ l)) (sym (append-nil (tape_of graph (node_at graph number) tree))) in
      subst Parts chosen at_number h.1

  -- no node has no tape
  no_tapes : (values : Trees) → tapes_of graph [] values ≡ []
  no_tapes NoTree = refl
  no_tapes (AndTree value more) = refl

  -- or the discriminator alone
  pub adds_switch : (switch : ℕ) (arms : List (ℤ × ℕ)) (default : Option ℕ) (a : ℤ) (values : Trees) (old mid : List ℕ)
      → (IsNumber (node_at graph switch) a → mid ≡ old ++ word Big (number_width (node_at graph switch)) a)
      → [] ≡ arm_of arms default a
      → AddsValue graph (Union switch arms default) (Choice a values) old mid
  adds_switch switch arms default a values old mid switched chosen depth h =
      let front = word Big (number_width (node_at graph switch)) a in
      switched h.0 ∙ ap (λ l. old ++ l) (sym (append-nil front) ∙ ap (λ l. front ++ l) (sym (no_tapes values))
      ∙ ap (λ numbers. front ++ tapes_of graph numbers values) chosen)
