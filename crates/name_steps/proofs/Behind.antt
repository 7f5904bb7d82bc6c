-- What stands behind more and more.
use Rattle.std.proofs.Common.{◌≡◌, ◌∙◌, List, ◌++◌, append_assoc, ap}

pub behind_two : {X : Type 0} (xs ys zs ws vs : List X)
    → ((((xs ++ ys) ++ zs) ++ ws) ++ vs) ≡ xs ++ (((ys ++ zs) ++ ws) ++ vs)
behind_two xs ys zs ws vs =
    ap (λ l. (l ++ ws) ++ vs) (append_assoc xs ys zs) ∙ ap (λ l. l ++ vs) (append_assoc xs (ys ++ zs) ws)
    ∙ append_assoc xs ((ys ++ zs) ++ ws) vs

pub behind_three : {X : Type 0} (xs ys zs ws vs us : List X)
    → (((((xs ++ ys) ++ zs) ++ ws) ++ vs) ++ us) ≡ xs ++ ((((ys ++ zs) ++ ws) ++ vs) ++ us)
behind_three xs ys zs ws vs us = ap (λ l. l ++ us) (behind_two xs ys zs ws vs)
    ∙ append_assoc xs (((ys ++ zs) ++ ws) ++ vs) us
