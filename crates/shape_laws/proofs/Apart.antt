-- Shapes of two kinds are two.
use Rattle.std.proofs.Common.{◌≡◌, ℕ, true, false, List, [], ap, sym, ◌∙◌}
use Rattle.std.specs.Str.{bytes_eq}
use Rattle.std.proofs.lemmas.Slice.Eq.{bytes_eq-Decides}
use Rattle.idl_tree.specs.Shapes.{Shape, Nothing, Token, Kind, Both}

kind_in : Shape → List ℕ
kind_in Nothing = []
kind_in (Token text n t) = []
kind_in (Kind k s) = k
kind_in (Both a b) = []

no_false : false ≡ true → ⊥
no_false h = cc

pub apart : {k l : List ℕ} {x y : Shape} {T : Type 0} → Kind k x ≡ Kind l y → bytes_eq k l ≡ false → T
unfolding kind_in
apart {k = k} {l = l} h e = absurd (no_false (sym e ∙ (bytes_eq-Decides k l).1 (ap kind_in h)))
