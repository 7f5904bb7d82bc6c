-- What a part gives is no longer than what all parts give.
use Rattle.std.proofs.Common.{◌≡◌, ℕ, zero, suc, ◌<◌, ◌≤◌, List, [], ◌∷◌, get_or, length, length-append, ap, arith}
use Rattle.std.specs.List.{flat_map}

pub part_length : {T E : Type 0} (give : T → List E) (xs : List T) (k : ℕ) (x : T) → k < length xs → x ≡ get_or xs k x
    → length (give x) ≤ length (flat_map give xs)
part_length give [] k x lt here = absurd (omega arith)
part_length give (y ∷ ys) zero x lt here =
    let all = length-append (give y) (flat_map give ys) in
    let same : length (give x) ≡ length (give y) = ap (λ z. length (give z)) here in
    omega arith
part_length give (y ∷ ys) (suc k) x lt here =
    let all = length-append (give y) (flat_map give ys) in
    let rest = part_length give ys k x (omega arith) here in
    omega arith
