-- The values of the headers that are written, and their tapes.
use Rattle.std.proofs.Common.{◌≡◌, ℕ, ◌^◌, ◌<◌, pos, List, [], ◌∷◌, ◌++◌, ap, ◌∙◌, append-nil, append_assoc, arith, Bool, true, false, Option}
use Rattle.type_graph.specs.declared.width.Order.{Order}
use Rattle.type_graph.specs.declared.width.Width.TheVariants.{One, Four}
use Rattle.type_graph.specs.declared.width.Order.TheVariants.{Big}
use Rattle.type_graph.specs.Words.{word}
use Rattle.type_graph.specs.Value.{Tree, NoTree, node_at, Fits, IsText, IsCount, tape_of}
use Rattle.giop_types.specs.TapeParts.{counted}
use Rattle.giop_types.specs.GiopNodes.{giop_nodes}
use Rattle.giop_types.specs.Fields.{octet_trees}
use Rattle.giop_messages.specs.declared.fault.GiopFault.{GiopFault}
use Rattle.giop_messages.specs.declared.fault.GiopFault.TheVariants as faults
use Rattle.giop_messages.specs.Faults.{IsMemoryOr}
use Rattle.giop_messages.specs.Written.{Given}
use Rattle.giop.specs.Refusal.{IsNotWritten}
use Rattle.giop.specs.inner.Pushed.{FitsAsTarget, PushesTarget}
use Rattle.giop_messages.specs.Headers.{number_of, reply_tree, here_tree, here_number, request_tree}
use Rattle.giop_messages.specs.declared.message.ReplyStatus.{ReplyStatus}
use Rattle.giop_messages.specs.declared.message.ReplyStatus.TheVariants.{NoException, UserException, SystemException, LocationForward, LocationForwardPerm, NeedsAddressingMode}

no_count : IsCount 0 0
no_count = record { in_bound = tt; short = omega arith }

-- ---- replies

pub status_below : (status : ReplyStatus) → number_of status < 6
status_below NoException = omega arith
status_below UserException = omega arith
status_below SystemException = omega arith
status_below LocationForward = omega arith
status_below LocationForwardPerm = omega arith
status_below NeedsAddressingMode = omega arith

pub reply_fits : (id : ℕ) (status : ReplyStatus) → id < 2 ^ 32
    → Fits giop_nodes (node_at giop_nodes 19) (reply_tree id (number_of status) NoTree) 64
reply_fits id status small = (small, (status_below status, ((omega arith, no_count, tt), tt)))

-- ---- replies to locate requests

pub here_below : (here : Bool) → here_number here < 2 ^ 32
here_below true = omega arith
here_below false = omega arith

pub here_fits : (id : ℕ) (here : Bool) → id < 2 ^ 32
    → Fits giop_nodes (node_at giop_nodes 21) (here_tree id (here_number here)) 64
here_fits id here small = (small, (here_below here, tt))

-- ---- requests

abbrev new_request : ℕ → ℕ → Tree → List ℕ → Tree
new_request id flags target operation =
    request_tree id flags (octet_trees (0 ∷ 0 ∷ 0 ∷ [])) target operation NoTree

pub request_fits : (id flags : ℕ) (target : Tree) (operation : List ℕ) → id < 2 ^ 32 → flags < 256
    → FitsAsTarget target → IsText 0 operation
    → Fits giop_nodes (node_at giop_nodes 17) (new_request id flags target operation) 64
request_fits id flags target operation small octet fits text = (
  small,
  (
    octet,
    ((omega arith, (omega arith, (omega arith, tt))), (fits, (text, ((omega arith, no_count, tt), tt)))),
  ),
)

-- no header with these fields
pub header_refused : (fault : GiopFault) (order : Order) (id flags : ℕ) (target : Tree) (operation : List ℕ)
    (body : Option Given) → IsMemoryOr faults.BadHead fault (FitsAsTarget target → IsText 0 operation → ⊥)
    → IsNotWritten fault order 0 17 (new_request id flags target operation) body
header_refused faults.NoMemory order id flags target operation body h = tt
header_refused faults.BadHead order id flags target operation body h =
    λ header is. h.1 is.fits.1.1.1.0 is.fits.1.1.1.1.0
header_refused faults.BadBody order id flags target operation body h = absurd (cc (h.0))
header_refused faults.NotGiop order id flags target operation body h = absurd (cc (h.0))
header_refused faults.Version order id flags target operation body h = absurd (cc (h.0))
header_refused faults.TooLong order id flags target operation body h = absurd (cc (h.0))
header_refused faults.BadFragment order id flags target operation body h = absurd (cc (h.0))

three_pieces : (i f z t o e : List ℕ)
    → ([] ++ (i ++ (f ++ z))) ++ t ++ (o ++ e) ≡ i ++ (f ++ (z ++ (t ++ (o ++ ((e ++ []) ++ [])))))
three_pieces i f z t o e = simp (append-nil, append_assoc)

pub request_tape : (id flags : ℕ) (target : Tree) (operation none one two three : List ℕ) → none ≡ []
    → one ≡ none ++ (word Big Four (pos id) ++ (word Big One (pos flags) ++ (0 ∷ 0 ∷ 0 ∷ [])))
    → PushesTarget target one two → three ≡ two ++ (counted operation ++ word Big Four (pos 0))
    → three ≡ tape_of giop_nodes (node_at giop_nodes 17) (new_request id flags target operation)
request_tape id flags target operation none one two three e f g h =
    let i = word Big Four (pos id) in
    let fl = word Big One (pos flags) in
    let z : List ℕ = 0 ∷ 0 ∷ 0 ∷ [] in
    let t = tape_of giop_nodes (node_at giop_nodes 16) target in
    let end_ = word Big Four (pos 0) in
    let first : one ≡ [] ++ (i ++ (fl ++ z)) = f ∙ ap (λ l. l ++ (i ++ (fl ++ z))) e in
    let second : two ≡ ([] ++ (i ++ (fl ++ z))) ++ t = g.tape_is ∙ ap (λ l. l ++ t) first in
    h ∙ ap (λ l. l ++ (counted operation ++ end_)) second ∙ three_pieces i fl z t (counted operation) end_
