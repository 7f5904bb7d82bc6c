-- Keys as URLs spell them.
use Rattle.std.proofs.Common.{◌≡◌, ℕ, ◌<◌, List, [], ◌∷◌, length, None, refl, arith, rules}
use Rattle.std.proofs.lemmas.Bool.Decides.{nat_tests}
use Rattle.reference_texts.specs.Places.{escaped}

pub too_short : (text : List ℕ) → length text < 2 → escaped text ≡ None
too_short [] short = refl
too_short (digit ∷ []) short = grind (arith, nat_tests)
too_short (digit ∷ low ∷ more) short = absurd (omega (arith, short))
