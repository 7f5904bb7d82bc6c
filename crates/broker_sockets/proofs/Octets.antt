-- What is read of a connection.
use Rattle.std.proofs.Common.{◌∙◌, List, ◌++◌, Option, Some, None, ℕ, sym, ap, append_assoc}
use Rattle.std.specs.Io.KnownBytes.{Consumes}

pub consumes_more : (a b c : Option (List ℕ)) (xs ys : List ℕ) → Consumes a b xs → Consumes b c ys
    → Consumes a c (xs ++ ys)
consumes_more None b c xs ys first later = tt
consumes_more (Some xa) None c xs ys first later = absurd first
consumes_more (Some xa) (Some xb) None xs ys first later = absurd later
consumes_more (Some xa) (Some xb) (Some xc) xs ys first later =
    first ∙ ap (λ l. xs ++ l) later ∙ sym (append_assoc xs ys xc)
