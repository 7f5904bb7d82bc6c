-- Tables of shallow nodes, grown by one node, and by one level.
use Rattle.std.proofs.Common.{◌≡◌, ◌↔◌, ◌<◌, ◌+◌, ℕ, zero, suc, Bool, true, false, IsTrue, List, [], ◌∷◌, ◌++◌, length, get_or, slice_get, replicate, All, Option, IfSome, sym, ap, subst, ◌∙◌, arith, below_more, add-one, add-zero}
use Rattle.std.specs.List.{AllByRecursion}
use Rattle.std.proofs.Math.Seq.{get_or-append_seam}
use Rattle.std.proofs.Math.ListN.{get_or-append, get_or-replicate, length-replicate}
use Rattle.std.proofs.lemmas.Option.{slice_get-get_or}
use Rattle.std.proofs.lemmas.List.Elements.{All-cons, All-nil, All-head, All-tail}
use Rattle.type_graph.specs.declared.node.Node.{Node}
use Rattle.type_graph.specs.declared.node.Node.TheVariants.{Octet}
use Rattle.type_graph.specs.Value.{node_at}
use Rattle.type_graph.specs.GraphRules.{IsNode, held_by, IsShallow}
use Rattle.type_graph.specs.inner.Levels.{IsIn, IsLevel, IsLevelAbove}
use Rattle.type_graph.proofs.Held.{held_within}

abbrev AboveAt : List Node → List Bool → List Bool → ℕ → Type 0
AboveAt graph table next number = IsIn next number ↔ All (IsIn table) (held_by (node_at graph number))

-- what holds of the part at a place, and of all parts
pub part_known : (P : ℕ → Type 0) (parts : List ℕ) (place : ℕ) (part : Option ℕ) → part ≡ slice_get parts place
    → place < length parts → IfSome part P → P (get_or parts place 0)
part_known P parts place part is lt h = subst (λ (o : Option ℕ). IfSome o P) (is ∙ slice_get-get_or parts place 0 lt) h

pub part_of_all : (P : ℕ → Type 0) (parts : List ℕ) (place : ℕ) (part : Option ℕ) → part ≡ slice_get parts place
    → place < length parts → All P parts → IfSome part P
part_of_all P parts place part is lt h =
    subst (λ (o : Option ℕ). IfSome o P) (sym (is ∙ slice_get-get_or parts place 0 lt)) (h place 0 lt)

-- one more node is told
pub above_more : (graph : List Node) (table next : List Bool) (i : ℕ) (b : Bool) → length next ≡ i
    → ((number : ℕ) → number < i → AboveAt graph table next number)
    → (IsTrue b ↔ All (IsIn table) (held_by (node_at graph i)))
    → (number : ℕ) → number < i + 1 → AboveAt graph table (next ++ b ∷ []) number
above_more graph table next i b long told here =
    let last : get_or (next ++ b ∷ []) i false ≡ b =
    subst (λ (k : ℕ). get_or (next ++ b ∷ []) k false ≡ b) long (get_or-append_seam next b [] false) in
    below_more (AboveAt graph table (next ++ b ∷ [])) i
    (λ number lt. subst (λ (t : Bool). (t ≡ true) ↔ All (IsIn table) (held_by (node_at graph number)))
    (sym (get_or-append next (b ∷ []) false number (omega arith))) (told number lt))
    (subst (λ (t : Bool). (t ≡ true) ↔ All (IsIn table) (held_by (node_at graph i))) (sym last) here)

-- facts that agree where a third holds
all_agree : (P Q R : ℕ → Type 0) (xs : List ℕ) → All R xs → ((x : ℕ) → R x → P x ↔ Q x) → All P xs ↔ AllByRecursion Q xs
all_agree P Q R [] known same = ((λ h. tt), (λ h. All-nil P))
all_agree P Q R (x ∷ xs) known same =
    let here = same x (All-head R x xs known) in
    let more = all_agree P Q R xs (All-tail R x xs known) same in (
      λ h. (here.0 (All-head P x xs h), more.0 (All-tail P x xs h)),
      λ h. All-cons P x xs (here.1 h.0) (more.1 h.1),
    )

-- no node is shallow within no level
pub level_none : (graph : List Node) (table : List Bool) → table ≡ replicate (length graph) false
    → IsLevel 0 graph table
unfolding IsShallow
level_none graph table e = record {
  long = ap length e ∙ length-replicate (length graph) false;
  same = λ number lt.
      let out : get_or table number false ≡ false = ap (λ (t : List Bool). get_or t number false) e
      ∙ get_or-replicate (length graph) number false false lt in
      ((λ h. let bad : true ≡ false = sym h ∙ out in absurd cc), (λ h. absurd h));
}

shallow_above : (levels : ℕ) (graph : List Node) (table next : List Bool) → All (IsNode graph) graph
    → IsLevel levels graph table → IsLevelAbove graph table next
    → (number : ℕ) → number < length graph → IsIn next number ↔ IsShallow (suc levels) graph number
unfolding IsShallow
shallow_above levels graph table next rules level above number lt =
    let node = node_at graph number in
    let known = held_within graph node (rules number Octet lt) in
    let same = all_agree (IsIn table) (IsShallow levels graph) (λ part. part < length graph) (held_by node) known
    (λ part within. level.same part within) in
    let told = above.above number lt in
    ((λ h. same.0 (told.0 h)), (λ h. told.1 (same.1 h)))

-- one level more
pub level_more : (levels : ℕ) (graph : List Node) (table next : List Bool) → All (IsNode graph) graph
    → IsLevel levels graph table → IsLevelAbove graph table next → IsLevel (levels + 1) graph next
level_more levels graph table next rules level above =
    let more : IsLevel (suc levels) graph next =
    record { long = above.long; same = shallow_above levels graph table next rules level above } in
    rw add-one more

-- a table that is its own next one is that of every later level
pub level_stays : (levels more : ℕ) (graph : List Node) (table : List Bool) → All (IsNode graph) graph
    → IsLevel levels graph table → IsLevelAbove graph table table → IsLevel (levels + more) graph table
level_stays levels zero graph table rules level above = rw add-zero level
level_stays levels (suc more) graph table rules level above =
    let next = level_more (levels + more) graph table table rules
    (level_stays levels more graph table rules level above) above in
    let e : levels + suc more ≡ levels + more + 1 = omega arith in
    rw e next
