-- The identifiers of a name in a pragma.
use Rattle.std.specs.Prelude.{ℕ, List, [], ◌∷◌, ◌++◌, take, slice_index, if◌then◌else◌}
use Rattle.idl_lexer.specs.Octets.{is_word}
use Rattle.idl_lexer.specs.Directives.{IsScopedName, plain, rooted, more}

-- as the rule reads them, from left to right
abbrev pub identifiers_of : {s r : List ℕ} → IsScopedName s r → List (List ℕ)
identifiers_of {s} (plain r name) = take name.long s ∷ []
identifiers_of (rooted a r scope name) = take name.long a ∷ []
identifiers_of (more a b r front scope name) = identifiers_of front ++ take name.long b ∷ []

-- an octet that stands at once before the first word
abbrev pub joined : ℕ → List (List ℕ) → List (List ℕ)
joined c [] = []
joined c (w ∷ ws) = (c ∷ w) ∷ ws

-- the words of a text: letters, digits and underscores, as many as stand together
abbrev pub words : List ℕ → List (List ℕ)
words [] = []
words (c ∷ cs) =
    (if is_word c then (if is_word (slice_index cs 0) then joined c (words cs) else (c ∷ []) ∷ words cs)
    else words cs)
