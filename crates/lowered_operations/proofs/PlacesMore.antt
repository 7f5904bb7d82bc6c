-- Places of operations, one behind another.
use Rattle.std.proofs.Common.{◌≡◌, ◌∙◌, ℕ, zero, suc, ◌+◌, ◌-◌, ◌<◌, List, [], ◌∷◌, ◌++◌, None, Some, drop, length, slice_get, sym, ap, arith}
use Rattle.std.specs.List.{fold, range_with_len}
use Rattle.std.proofs.Math.Seq.{append_snoc}
use Rattle.std.proofs.lemmas.Option.{get_or_from_slice_get, slice_get_within}
use Rattle.name_table.specs.declared.entry.Base.{Base}
use Rattle.lowered_types.proofs.Parts.{split_at}
use Rattle.lowered_operations.specs.Operations.{Defined}
use Rattle.lowered_operations.specs.Interfaces.{all_bases_of, operations_of, with_base, with_base_and_above, with_once}

-- the first of the numbers from k to before e, and the others
pub range_step : (k e : ℕ) → k < e → range_with_len k (e - k) ≡ k ∷ range_with_len (k + 1) (e - (k + 1))
range_step k e lt =
    let longer : e - k ≡ suc (e - (k + 1)) = omega arith in ap (range_with_len k) longer

-- one number more, and those that are left
pub range_more : (xs ys all : List ℕ) (k e : ℕ) → k < e → ys ≡ xs ++ k ∷ [] → xs ++ range_with_len k (e - k) ≡ all
    → ys ++ range_with_len (k + 1) (e - (k + 1)) ≡ all
range_more xs ys all k e lt pushed told =
    ap (λ y. y ++ range_with_len (k + 1) (e - (k + 1))) pushed ∙ append_snoc xs k (range_with_len (k + 1) (e - (k + 1)))
    ∙ sym (ap (λ y. xs ++ y) (range_step k e lt)) ∙ told

-- one base more, of those over which a fold goes
pub step_more : (step : List ℕ → Base → List ℕ) (bases : List Base) (k : ℕ) (b : Base) (old new all : List ℕ)
    → slice_get bases k ≡ Some b
    → new ≡ step old b → fold step old (drop k bases) ≡ all → fold step new (drop (k + 1) bases) ≡ all
step_more step bases k b old new all there told left =
    let split = split_at bases k b (slice_get_within bases k b there) (sym (get_or_from_slice_get bases k b b there)) in
    ap (λ t. fold step t (drop (k + 1) bases)) told ∙ sym (ap (fold step old) split) ∙ left

-- the operations of one base more
pub base_more : (d : Defined) (bases : List Base) (k : ℕ) (b : Base) (old new more all : List ℕ)
    → slice_get bases k ≡ Some b
    → more ≡ operations_of d b.entry → new ≡ fold with_once old more → fold (with_base d) old (drop k bases) ≡ all
    → fold (with_base d) new (drop (k + 1) bases) ≡ all
base_more d bases k b old new more all there gives told left =
    step_more (with_base d) bases k b old new all there (told ∙ ap (fold with_once old) gives) left

-- one base more and what it inherits from
pub above_more : (d : Defined) (bases : List Base) (k : ℕ) (b : Base) (old mid new more all : List ℕ)
    → slice_get bases k ≡ Some b
    → mid ≡ with_once old b.entry → more ≡ all_bases_of d b.entry → new ≡ fold with_once mid more
    → fold (with_base_and_above d) old (drop k bases) ≡ all
    → fold (with_base_and_above d) new (drop (k + 1) bases) ≡ all
above_more d bases k b old mid new more all there inserted gives told left =
    step_more (with_base_and_above d) bases k b old new all there
    (told ∙ ap (fold with_once mid) gives ∙ ap (λ m. fold with_once m (all_bases_of d b.entry)) inserted) left

-- there is a base at each place among them
pub absent : (bases : List Base) (k : ℕ) → k < length bases → slice_get bases k ≡ None → ⊥
absent [] k lt is = omega (arith, lt)
absent (b ∷ bases) zero lt is = cc
absent (b ∷ bases) (suc k) lt is = absent bases k (omega (arith, lt)) is
