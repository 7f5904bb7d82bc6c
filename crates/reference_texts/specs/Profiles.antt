-- The profiles of IIOP (ISO/IEC 19500-2, IIOP: IIOP IOR profiles).
use Rattle.std.specs.Prelude.{◌≡◌, ℕ, zero, suc, pos, List, [], ◌∷◌, ◌++◌}
use Rattle.type_graph.specs.declared.width.Width.TheVariants.{One, Two, Four}
use Rattle.type_graph.specs.declared.width.Order.TheVariants.{Big}
use Rattle.type_graph.specs.Words.{word}
use Rattle.type_graph.specs.Value.{Tree, Bytes}
use Rattle.giop_types.specs.TapeParts.{counted}
use Rattle.giop_types.specs.Fields.{number_tree, octets_tree, struct_tree, tagged_list_tree}
use Rattle.reference_texts.specs.Encapsulations.{Encapsulates, IsWritten}
use Rattle.giop_types.specs.GiopNodes.{profile_body_1_0_node, profile_body_1_1_node}

pub record Body : Type 0 where
  pub major : ℕ
  pub minor : ℕ
  pub host : List ℕ
  pub port : ℕ
  pub key : List ℕ
  pub components : List (ℕ × List ℕ)

-- a body of minor version 0 has no components
abbrev pub body_tree : Body → ℕ → Tree
body_tree body zero =
    struct_tree (number_tree body.major ∷ number_tree body.minor ∷ Bytes body.host ∷ number_tree body.port
    ∷ octets_tree body.key ∷ [])
body_tree body (suc n) =
    struct_tree (
    number_tree body.major ∷ number_tree body.minor ∷ Bytes body.host ∷ number_tree body.port ∷ octets_tree body.key
    ∷ tagged_list_tree body.components ∷ []
    )

abbrev pub body_node : ℕ → ℕ
body_node zero = profile_body_1_0_node
body_node (suc n) = profile_body_1_1_node

-- The key of a profile: its tag is that of IIOP, its major version 1. One of another tag or version has none (own).
pub record HasKey (profile : ℕ × List ℕ) (key : List ℕ) : Type 0 where
  pub tag : profile.0 ≡ 0
  pub body : Body
  pub major : body.major ≡ 1
  pub key_is : body.key ≡ key
  pub encapsulated : Encapsulates (body_node body.minor) (body_tree body body.minor) profile.1

-- the body that is written, of version 1.2
abbrev pub new_body : List ℕ → ℕ → List ℕ → Body
new_body host port key = record { major = 1; minor = 2; host = host; port = port; key = key; components = [] }

pub record IsProfile (host : List ℕ) (port : ℕ) (key octets : List ℕ) : Type 0 where
  pub written : IsWritten 25 (body_tree (new_body host port key) 2) octets

-- its tape
abbrev pub profile_tape : List ℕ → ℕ → List ℕ → List ℕ
profile_tape host port key =
    word Big One (pos 1)
    ++ (word Big One (pos 2)
    ++ (counted host ++ (word Big Two (pos port) ++ (counted key ++ word Big Four (pos 0)))))
