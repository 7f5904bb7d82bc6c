-- What readers of a header's tape tell.
use Rattle.std.specs.Prelude.{◌≡◌, ℕ, List, Option, Some, None}
use Rattle.type_graph.specs.Value.{Tree, Trees}
use Rattle.giop_types.specs.TapeParts.{pair_of}
use Rattle.giop_messages.specs.Headers.{IsKeyOf, request_tree, reply_tree, locate_tree, number_of}
use Rattle.giop.specs.inner.Tapes.{IsIn}
use Rattle.giop.specs.declared.reading.target.Target.{Target}
use Rattle.giop.specs.declared.reading.target.Target.TheVariants.{Key, Profile, Nothing}
use Rattle.giop.specs.declared.reading.header.RequestHeader.{RequestHeader}
use Rattle.giop.specs.declared.reading.header.ReplyHeader.{ReplyHeader}
use Rattle.giop.specs.declared.reading.header.LocateHeader.{LocateHeader}

-- what a target tells: this key, the key of this profile, or none
abbrev pub TellsTarget : Tree → Target → Type 0
TellsTarget target (Key key) = IsKeyOf target (Some key.now)
TellsTarget target (Profile profile) = (key : Option (List ℕ)) → IsIn (pair_of profile) key → IsKeyOf target key
TellsTarget target Nothing = IsKeyOf target None

-- the value of the header of a request
pub record IsRequestHeader (value : Tree) (header : RequestHeader) : Type 0 where
  pub reserved : Trees
  pub target : Tree
  pub contexts : Trees
  pub is : value ≡ request_tree header.id header.flags reserved target header.operation.now contexts
  pub tells : TellsTarget target header.target

-- that of a reply
pub record IsReplyHeader (value : Tree) (header : ReplyHeader) : Type 0 where
  pub contexts : Trees
  pub is : value ≡ reply_tree header.id (number_of header.status) contexts

-- that of a locate request
pub record IsLocateHeader (value : Tree) (header : LocateHeader) : Type 0 where
  pub target : Tree
  pub is : value ≡ locate_tree header.id target
  pub tells : TellsTarget target header.target
