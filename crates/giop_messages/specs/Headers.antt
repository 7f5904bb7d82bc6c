-- The headers of messages as values of their types (ISO/IEC 19500-2, GIOP message formats), and the key that the target
-- of a request tells.
use Rattle.std.specs.Prelude.{◌≡◌, ℕ, pos, Bool, true, false, List, [], ◌∷◌, Option, Some, None, slice_get}
use Rattle.type_graph.specs.Value.{Tree, Bytes, Items, Choice, Trees}
use Rattle.giop_types.specs.Fields.{number_tree, trees, struct_tree, octets_tree, tagged_tree, tagged_list_tree}
use Rattle.reference_texts.specs.Profiles.{HasKey}
use Rattle.giop_messages.specs.declared.message.ReplyStatus.{ReplyStatus}
use Rattle.giop_messages.specs.declared.message.ReplyStatus.TheVariants.{NoException, UserException, SystemException, LocationForward, LocationForwardPerm, NeedsAddressingMode}

-- the target of a request by the key of the object, by a profile, and by one of the profiles of an object reference,
-- counted from 0 (TargetAddress)
abbrev pub key_target : List ℕ → Tree
key_target key = Choice (pos 0) (trees (octets_tree key ∷ []))

abbrev pub profile_target : ℕ × List ℕ → Tree
profile_target profile = Choice (pos 1) (trees (tagged_tree profile ∷ []))

abbrev pub reference_target : ℕ → List ℕ → List (ℕ × List ℕ) → Tree
reference_target selected type_id profiles =
    Choice (pos 2)
    (trees
    (struct_tree
    (number_tree selected ∷ struct_tree (Bytes type_id ∷ tagged_list_tree profiles ∷ []) ∷ []) ∷ []))

-- the key that a target tells
pub data TellsKey (target : Tree) (key : List ℕ) : Type 0 where
  ByKey : target ≡ key_target key → TellsKey target key
  ByProfile : (profile : ℕ × List ℕ) → target ≡ profile_target profile → HasKey profile key → TellsKey target key
  ByReference : (selected : ℕ) (type_id : List ℕ) (profiles : List (ℕ × List ℕ)) (profile : ℕ × List ℕ)
      → target ≡ reference_target selected type_id profiles → slice_get profiles selected ≡ Some profile
      → HasKey profile key → TellsKey target key

-- the key of a target, none where it tells none
abbrev pub IsKeyOf : Tree → Option (List ℕ) → Type 0
IsKeyOf target (Some key) = TellsKey target key
IsKeyOf target None = (key : List ℕ) → TellsKey target key → ⊥

-- RequestHeader_1_2
abbrev pub request_tree : ℕ → ℕ → Trees → Tree → List ℕ → Trees → Tree
request_tree id flags reserved target operation contexts =
    struct_tree
    (number_tree id ∷ number_tree flags ∷ Items reserved ∷ target ∷ Bytes operation ∷ Items contexts ∷ [])

-- the numbers of the statuses (ReplyStatusType_1_2)
abbrev pub number_of : ReplyStatus → ℕ
number_of NoException = 0
number_of UserException = 1
number_of SystemException = 2
number_of LocationForward = 3
number_of LocationForwardPerm = 4
number_of NeedsAddressingMode = 5

-- ReplyHeader_1_2
abbrev pub reply_tree : ℕ → ℕ → Trees → Tree
reply_tree id status contexts = struct_tree (number_tree id ∷ number_tree status ∷ Items contexts ∷ [])

-- CancelRequestHeader
abbrev pub cancel_tree : ℕ → Tree
cancel_tree id = struct_tree (number_tree id ∷ [])

-- LocateRequestHeader_1_2
abbrev pub locate_tree : ℕ → Tree → Tree
locate_tree id target = struct_tree (number_tree id ∷ target ∷ [])

-- LocateReplyHeader_1_2
abbrev pub here_tree : ℕ → ℕ → Tree
here_tree id status = struct_tree (number_tree id ∷ number_tree status ∷ [])

-- the object is here, or it isn't known (LocateStatusType_1_2)
abbrev pub here_number : Bool → ℕ
here_number true = 1
here_number false = 0
