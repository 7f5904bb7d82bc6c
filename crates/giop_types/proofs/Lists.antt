-- Elements put behind a list one by one.
use Rattle.std.proofs.Common.{◌≡◌, List, [], ◌∷◌, ◌++◌, ap, ◌∙◌}
use Rattle.std.proofs.lemmas.List.{append_assoc}

two_added : {X : Type 0} (old one two : List X) (a b : X) → one ≡ old ++ a ∷ [] → two ≡ one ++ b ∷ []
    → two ≡ old ++ a ∷ b ∷ []
two_added old one two a b e f = f ∙ ap (λ xs. xs ++ b ∷ []) e ∙ append_assoc old (a ∷ []) (b ∷ [])

pub three_added : {X : Type 0} (old one two three : List X) (a b c : X) → one ≡ old ++ a ∷ [] → two ≡ one ++ b ∷ []
    → three ≡ two ++ c ∷ []
    → three ≡ old ++ a ∷ b ∷ c ∷ []
three_added old one two three a b c e f g =
    g ∙ ap (λ xs. xs ++ c ∷ []) (two_added old one two a b e f) ∙ append_assoc old (a ∷ b ∷ []) (c ∷ [])

pub four_added : {X : Type 0} (old one two three four : List X) (a b c d : X) → one ≡ old ++ a ∷ []
    → two ≡ one ++ b ∷ [] → three ≡ two ++ c ∷ []
    → four ≡ three ++ d ∷ [] → four ≡ old ++ a ∷ b ∷ c ∷ d ∷ []
four_added old one two three four a b c d e f g h =
    h ∙ ap (λ xs. xs ++ d ∷ []) (three_added old one two three a b c e f g) ∙ append_assoc old (a ∷ b ∷ c ∷ []) (d ∷ [])
