-- The profiles of a reference by their places.
use Rattle.std.proofs.Common.{◌≡◌, ℕ, zero, suc, List, [], ◌∷◌, refl, sym, ◌∙◌, Some, None, slice_get}
use Rattle.std.specs.declared.vec.Vec.{Vec}
use Rattle.std.specs.declared.alloc.Global.{Global}
use Rattle.type_graph.specs.Value.{Tree}
use Rattle.reference_texts.specs.References.{owned_pairs}
use Rattle.call_client.specs.Forms.{IsProfileAt}

pub profile_there : (xs : List (ℕ × Vec ℕ Global)) (i : ℕ) (one : ℕ × Vec ℕ Global) → slice_get xs i ≡ Some one
    → slice_get (owned_pairs xs) i ≡ Some (one.0, one.1.items)
profile_there [] i one e = absurd (cc)
profile_there (x ∷ xs) zero one e = let same : x ≡ one = cc in cc
profile_there (x ∷ xs) (suc i) one e = profile_there xs i one e

none_there : (xs : List (ℕ × Vec ℕ Global)) (i : ℕ) → slice_get xs i ≡ None → slice_get (owned_pairs xs) i ≡ None
none_there [] i e = refl
none_there (x ∷ xs) zero e = absurd (cc)
none_there (x ∷ xs) (suc i) e = none_there xs i e

pub no_profile : (xs : List (ℕ × Vec ℕ Global)) (i : ℕ) → slice_get xs i ≡ None → (target : Tree)
    → IsProfileAt (owned_pairs xs) i target → ⊥
no_profile xs i e target is =
    let both : None ≡ Some is.profile = sym (none_there xs i e) ∙ is.there in
    absurd (cc)
