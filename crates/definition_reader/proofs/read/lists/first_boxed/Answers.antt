use Rattle.std.proofs.Common.{◌≡◌, ◌<◌, ◌∷◌, [], ◌∙◌, List, length, sym, subst, arith}
use Rattle.std.specs.Prelude.{Result, Ok, Err, IfOk, slice_index_or, remove}
use Rattle.definition_reader.proofs.read.lists.first_boxed.Goals as goal

-- a list is its first part and the others
parted : {T : Type 0} (xs rest : List T) (x : T) → 0 < length xs → x ≡ slice_index_or xs 0 x → rest ≡ remove xs 0
    → xs ≡ x ∷ rest
parted [] rest x some first others = absurd (omega (arith, some))
parted (y ∷ ys) rest x some first others =
    let f : x ≡ y = first in
    let o : rest ≡ ys = others in
    cc (f, o)

-- the same of a box of the first part
parted_in : {B T E : Type 0} (value : B → T) (xs rest : List T) (x : T) (r : Result B E) → xs ≡ x ∷ rest
    → IfOk r (λ b. value b ≡ x) → IfOk r (λ b. xs ≡ value b ∷ rest)
parted_in value xs rest x (Ok b) is same = subst (λ y. xs ≡ y ∷ rest) (sym same) is
parted_in value xs rest x (Err e) is same = tt

pub returns-clause-spells : goal.returns-clause-spells
returns-clause-spells g c =
    parted_in (λ b. b.value) _ _ _ c.boxed.result
    (parted _ _ _ c.requires c.remove-first.ensures.value
    (c.shrink_to_fit.ensures.items ∙ c.remove-first.ensures.items)) c.boxed.ensures.spells
