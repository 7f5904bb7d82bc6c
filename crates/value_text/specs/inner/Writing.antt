-- What is written behind tokens.
use Rattle.std.specs.Prelude.{◌≡◌, ℕ, List, [], ◌∷◌, ◌++◌, Option, Some, None}
use Rattle.json.specs.Token.{Token}
use Rattle.json.specs.Written.{Written}
use Rattle.type_graph.specs.declared.node.Node.{Node}
use Rattle.type_graph.specs.Value.{Tree}
use Rattle.value_text.specs.Texts.{text_at}

-- just these tokens
pub record Adds (old new : Written) (tokens : List Token) : Type 0 where
  pub same : new.before ≡ old.before
  pub added : new.tokens ≡ old.tokens ++ tokens

-- the name and the text of a member, if both are there
abbrev pub member_at : List (List (List ℕ)) → List Node → Option (List ℕ) → Option ℕ → Tree → List (List ℕ × List Token)
member_at names graph (Some label) (Some number) value = (label, text_at names graph number value) ∷ []
member_at names graph label number value = []

-- its text alone
abbrev pub part_at : List (List (List ℕ)) → List Node → Option ℕ → Tree → List (List Token)
part_at names graph (Some number) value = text_at names graph number value ∷ []
part_at names graph None value = []
