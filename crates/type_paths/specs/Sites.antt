-- Where the types of a list stand.
use Rattle.std.specs.Option.{option_or}
use Rattle.std.specs.Prelude.{ℕ, ◌-◌, nat_eq, nat_lt, if◌then◌else◌, List, [], ◌∷◌, Option, Some, None, slice_get, slice_index_or}
use Rattle.std.specs.List.{find}
use Rattle.idl_tree.specs.declared.names.At.{At}
use Rattle.type_graph.specs.declared.node.Node.{Node}

-- where a node stands, and where each of what it holds does, in order
pub record Sites : Type 0 where
  pub at : At
  pub held : List At

-- nodes, and the sites of those from the first that has some
pub record Types : Type 0 where
  pub nodes : List Node
  pub first : ℕ
  pub sites : List Sites

abbrev pub sites_of : Types → ℕ → Option Sites
sites_of types node = if nat_lt node types.first then None else slice_get types.sites (node - types.first)

-- no place: the first token, and a line that no token has
abbrev pub nowhere : At
nowhere = record { token = 0; line = 0 }

-- where a node stands: nowhere if it has no sites
abbrev pub own_in : Option Sites → At
own_in None = nowhere
own_in (Some sites) = sites.at

abbrev pub own_at : Types → ℕ → At
own_at types node = own_in (sites_of types node)

-- the token of what a node holds at a place: past the sites that are kept the node's own
abbrev pub held_token : Sites → ℕ → ℕ
held_token sites place = (slice_index_or sites.held place sites.at).token

abbrev pub held_in : Option Sites → ℕ → ℕ
held_in None place = 0
held_in (Some sites) place = held_token sites place

abbrev pub token_at : Types → ℕ → ℕ → ℕ
token_at types node place = held_in (sites_of types node) place

-- where a token stands, if a node or what it holds does at this token
abbrev pub known_of : ℕ → Sites → Option At
known_of token sites = find (λ at. nat_eq at.token token) (sites.at ∷ sites.held)

abbrev pub known_in : ℕ → List Sites → Option At
known_in token [] = None
known_in token (sites ∷ more) = option_or (known_of token sites) (known_in token more)

abbrev pub line_in : Option At → ℕ
line_in None = 0
line_in (Some at) = at.line

-- the line of a token, 0 where nothing stands there
abbrev pub line_of : Types → ℕ → ℕ
line_of types token = line_in (known_in token types.sites)
