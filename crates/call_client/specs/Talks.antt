-- A call of an object at a port of a host, and of one that a reference names.
use Rattle.std.specs.Prelude.{◌≡◌, ◌⊎◌, ℕ, Bool, true, false, List, [], ◌∷◌, ◌++◌, length, Option, Result, Ok, Err}
use Rattle.type_graph.specs.Value.{Tree}
use Rattle.giop.specs.Addresses.{target_tree}
use Rattle.giop_messages.specs.Written.{Given}
use Rattle.iiop_broker.specs.Outcomes.{Ends}
use Rattle.call_client.specs.Calls.{IsCalled}
use Rattle.call_client.specs.declared.answer.ReplyBody.{ReplyBody}
use Rattle.call_client.specs.declared.request.Request.{Request}
use Rattle.call_client.specs.declared.fault.CallFault.{CallFault}
use Rattle.call_client.specs.declared.fault.CallFault.TheVariants.{NeedsAddressingMode, NotARequest, NotReached}
use Rattle.giop_messages.specs.declared.fault.GiopFault.TheVariants.{NoMemory}
use Rattle.reference_listing.specs.Listings.{Iiop, Row, OfIiop}
use Rattle.call_client.specs.Forms.{IsTarget, Naming}
use Rattle.call_client.specs.Lines.{Line, all_missed, made, missed}

-- which lists of what connections told that were handed back may be those so far
abbrev pub Telling : Type 1
Telling = List Ends → Type 0

-- what a call asks for, with its body, and how many reads may give octets
pub record Asking : Type 0 where
  pub request : Request
  pub body : Option Given
  pub reads : ℕ

abbrev pub asking : Request → Option Given → ℕ → Asking
asking request body reads = record { request = request; body = body; reads = reads }

-- behind the lines so far and those that were missed a connection was made to the host and the port, the call was made
-- on it, and it was handed back
pub record IsTalk (Told Told' : Telling) (ask : Asking) (host : List ℕ) (port : ℕ) (lines : List Line)
    (result : Result (Option ReplyBody) CallFault) (lines' : List Line) : Type 0 where
  pub from : Ends
  pub to : Ends
  pub lines_are : lines' ≡ lines ++ made host port from ∷ []
  pub gone : (all : List Ends) → Told all → Told' (all ++ to ∷ [])
  pub called : IsCalled ask.request ask.body ask.reads from result to

-- these were dialled in vain
pub record IsUnreached (Told Told' : Telling) (vain : List Line) (lines lines' : List Line) : Type 0 where
  pub lines_are : lines' ≡ lines ++ vain
  pub gone : (all : List Ends) → Told all → Told' all

-- A fault before the call: no connection can be made, and these were dialled in vain; or memory was wanted for one, and
-- some were. Each other fault is one of the call.
abbrev pub IsBefore : Telling → Telling → CallFault → List Line → List Line → List Line → List Line → Type 0
IsBefore Told Told' NotReached all some lines lines' = IsUnreached Told Told' all lines lines'
IsBefore Told Told' (NotARequest NoMemory) all some lines lines' = IsUnreached Told Told' some lines lines'
IsBefore Told Told' fault all some lines lines' = ⊥

-- By what is told of the lines and of the connections that were handed back, before and after.
abbrev pub IsCalledAt : Telling → Telling → Asking → List ℕ → ℕ → List Line → Result (Option ReplyBody) CallFault
    → List Line → Type 0
IsCalledAt Told Told' ask host port lines (Ok answer) lines' = IsTalk Told Told' ask host port lines (Ok answer) lines'
IsCalledAt Told Told' ask host port lines (Err fault) lines' =
    IsBefore Told Told' fault (missed host port ∷ []) [] lines lines'
    ⊎ IsTalk Told Told' ask host port lines (Err fault) lines'

-- ---- by a reference

-- the same request with another target, of which this holds
pub record IsTo (Target : Tree → Type 0) (request other : Request) : Type 0 where
  pub order_is : other.order ≡ request.order
  pub id_is : other.id ≡ request.id
  pub flags_is : other.flags ≡ request.flags
  pub target_is : Target (target_tree other.target)
  pub operation_is : other.operation.now ≡ request.operation.now

-- the call was made at the host and the port of a profile, with a target of which this holds
pub record IsTalkTo (Told Told' : Telling) (ask : Asking) (Target : Tree → Type 0) (iiop : Iiop) (lines : List Line)
    (result : Result (Option ReplyBody) CallFault) (lines' : List Line) : Type 0 where
  pub request : Request
  pub to_object : IsTo Target ask.request request
  pub talk : IsTalk Told Told' (asking request ask.body ask.reads) iiop.body.host iiop.body.port lines result lines'

-- no target is so, and it wasn't dialled
pub record IsUnnamed (Told Told' : Telling) (Target : Tree → Type 0) (vain : List Line) (fault : CallFault)
    (lines lines' : List Line) : Type 0 where
  pub fault_is : fault ≡ NeedsAddressingMode
  pub none : (target : Tree) → Target target → ⊥
  pub unreached : IsUnreached Told Told' vain lines lines'

abbrev pub IsCalledTo : Telling → Telling → Asking → (Tree → Type 0) → Iiop → List Line
    → Result (Option ReplyBody) CallFault → List Line → Type 0
IsCalledTo Told Told' ask Target iiop lines (Ok answer) lines' =
    IsTalkTo Told Told' ask Target iiop lines (Ok answer) lines'
IsCalledTo Told Told' ask Target iiop lines (Err fault) lines' =
    IsBefore Told Told' fault (missed iiop.body.host iiop.body.port ∷ []) [] lines lines'
    ⊎ IsUnnamed Told Told' Target [] fault lines lines'
    ⊎ IsTalkTo Told Told' ask Target iiop lines (Err fault) lines'

-- no connection could be made, and the next profile is tried
abbrev pub misses : CallFault → Bool
misses NotReached = true
misses fault = false

-- it was so by the first profile of IIOP whose host and port could be reached, whose object the target names
pub record IsTalkBy (Told Told' : Telling) (ask : Asking) (naming : Naming) (rows : List Row) (lines : List Line)
    (result : Result (Option ReplyBody) CallFault) (lines' : List Line) : Type 0 where
  pub before : List Row
  pub iiop : Iiop
  pub behind : List Row
  pub rows_are : rows ≡ before ++ OfIiop iiop ∷ behind
  pub talk : IsTalkTo Told Told' ask (IsTarget naming (length before) iiop) iiop (lines ++ all_missed before) result
      lines'

-- those before a profile were dialled in vain, and no target names the object of this one
pub record IsUnnamedBy (Told Told' : Telling) (naming : Naming) (rows : List Row) (fault : CallFault)
    (lines lines' : List Line) : Type 0 where
  pub before : List Row
  pub iiop : Iiop
  pub behind : List Row
  pub rows_are : rows ≡ before ++ OfIiop iiop ∷ behind
  pub unnamed : IsUnnamed Told Told' (IsTarget naming (length before) iiop) (all_missed before) fault lines lines'

-- no call was made
pub record IsGivenUp (Told Told' : Telling) (rows : List Row) (fault : CallFault) (lines lines' : List Line)
    : Type 0 where
  pub some : List Line
  pub before : IsBefore Told Told' fault (all_missed rows) some lines lines'

abbrev pub IsCalledBy : Telling → Telling → Asking → Naming → List Row → List Line → Result (Option ReplyBody) CallFault
    → List Line → Type 0
IsCalledBy Told Told' ask naming rows lines (Ok answer) lines' =
    IsTalkBy Told Told' ask naming rows lines (Ok answer) lines'
IsCalledBy Told Told' ask naming rows lines (Err fault) lines' =
    IsGivenUp Told Told' rows fault lines lines'
    ⊎ IsUnnamedBy Told Told' naming rows fault lines lines'
    ⊎ IsTalkBy Told Told' ask naming rows lines (Err fault) lines'
