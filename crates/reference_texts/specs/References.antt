-- Object references (ISO/IEC 19500-2, IOP: IOR): the id of a type, and profiles, each with its tag.
use Rattle.std.specs.Prelude.{◌≡◌, ℕ, List, [], ◌∷◌, ◌++◌, map}
use Rattle.std.specs.declared.vec.Vec.{Vec}
use Rattle.std.specs.declared.alloc.Global.{Global}
use Rattle.std.specs.List.{AllByRecursion}
use Rattle.type_graph.specs.Value.{Tree, Bytes}
use Rattle.type_graph.specs.Words.{AllBelow}
use Rattle.giop_types.specs.TapeParts.{counted, IsCounted, tagged_list, AreTagged}
use Rattle.giop_types.specs.Fields.{struct_tree, tagged_list_tree}
use Rattle.reference_texts.specs.declared.reference.Ior.{Ior}

pub record Reference : Type 0 where
  pub type_id : List ℕ
  pub profiles : List (ℕ × List ℕ)

abbrev pub reference_tree : Reference → Tree
reference_tree reference = struct_tree (Bytes reference.type_id ∷ tagged_list_tree reference.profiles ∷ [])

-- its tape
abbrev pub reference_tape : Reference → List ℕ
reference_tape reference = counted reference.type_id ++ tagged_list reference.profiles

-- its lengths fit their counts
pub record IsReference (reference : Reference) : Type 0 where
  pub type_id : IsCounted reference.type_id
  pub profiles : AreTagged reference.profiles

-- at the front of a tape
pub record IsFront (tape : List ℕ) (reference : Reference) (rest : List ℕ) : Type 0 where
  pub fits : IsReference reference
  pub front : tape ≡ reference_tape reference ++ rest

abbrev pub owned_pairs : List (ℕ × Vec ℕ Global) → List (ℕ × List ℕ)
owned_pairs = map (λ one. (one.0, one.1.items))

-- what profiles hold are octets
abbrev pub AreBelow : List (ℕ × List ℕ) → Type 0
AreBelow = AllByRecursion (λ (one : ℕ × List ℕ). AllBelow 256 one.1)

abbrev pub reference_of : Ior → Reference
reference_of ior = record { type_id = ior.type_id.items; profiles = owned_pairs ior.profiles.items }
