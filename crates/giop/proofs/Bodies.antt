-- Bodies, and the gap before them.
use Rattle.std.proofs.Common.{◌≡◌, ℕ, zero, suc, ◌+◌, ◌<◌, List, [], ◌∷◌, ◌++◌, take, replicate, Option, Some, Result, Ok, Err, IfOk, refl, ap, ◌∙◌, append_assoc, subst, arith}
use Rattle.std.specs.Borrow.{Bor}
use Rattle.type_graph.specs.declared.width.Order.{Order}
use Rattle.type_graph.specs.declared.node.Node.{Node}
use Rattle.type_graph.specs.Words.{writing, pad}
use Rattle.type_graph.specs.Encoding.{Means}
use Rattle.position_checker.specs.declared.accepted.Accepted.{Accepted}
use Rattle.giop_messages.specs.declared.fault.GiopFault.{GiopFault}
use Rattle.giop_messages.specs.Faults.{IsMemoryOr}
use Rattle.giop_messages.specs.Messages.{body_after}
use Rattle.giop_messages.specs.Written.{Given, IsBody}
use Rattle.giop.specs.Made.{given, given_by}
use Rattle.giop.proofs.Refusals.{memory_or}

pub no_body : (order : Order) (graph : List Node) (node stop : ℕ) (tape : List ℕ)
    → ((octets : List ℕ) → Means graph (writing order) 64 node (body_after stop) tape octets → ⊥)
    → (octets : List ℕ) → IsBody order (Some (given graph node tape)) stop octets → ⊥
no_body order graph node stop tape none octets is = none is.body is.is

-- no octets are those of the body at its place
pub refused_body : (wanted fault : GiopFault) (order : Order) (body : Option (Bor Accepted × ℕ × Bor (List ℕ)))
    (graph : List Node) (node stop gap : ℕ) (tape : List ℕ) → given_by body ≡ Some (given graph node tape)
    → gap ≡ pad stop 8
    → IsMemoryOr wanted fault ((octets : List ℕ) → Means graph (writing order) 64 node (stop + gap) tape octets → ⊥)
    → IsMemoryOr wanted fault ((octets : List ℕ) → IsBody order (given_by body) stop octets → ⊥)
refused_body wanted fault order body graph node stop gap tape e g h =
    memory_or wanted fault ((octets : List ℕ) → Means graph (writing order) 64 node (stop + gap) tape octets → ⊥)
    ((octets : List ℕ) → IsBody order (given_by body) stop octets → ⊥)
    (λ none octets is. no_body order graph node stop tape
    (subst (λ (n : ℕ). (octets : List ℕ) → Means graph (writing order) 64 node (stop + n) tape octets → ⊥) g none)
    octets (subst (λ (b : Option Given). IsBody order b stop octets) e is)) h

-- ---- octets put together

zeros_taken : (gap : ℕ) → gap < 8 → take {A = ℕ} gap (0 ∷ 0 ∷ 0 ∷ 0 ∷ 0 ∷ 0 ∷ 0 ∷ 0 ∷ []) ≡ replicate gap 0
zeros_taken zero h = refl
zeros_taken (suc zero) h = refl
zeros_taken (suc (suc zero)) h = refl
zeros_taken (suc (suc (suc zero))) h = refl
zeros_taken (suc (suc (suc (suc zero)))) h = refl
zeros_taken (suc (suc (suc (suc (suc zero))))) h = refl
zeros_taken (suc (suc (suc (suc (suc (suc zero)))))) h = refl
zeros_taken (suc (suc (suc (suc (suc (suc (suc zero))))))) h = refl
zeros_taken (suc (suc (suc (suc (suc (suc (suc (suc n)))))))) h = absurd (omega (arith, h))

pub parts_joined : (none one two three head header : List ℕ) (gap : ℕ) → gap < 8 → none ≡ []
    → one ≡ none ++ head → two ≡ one ++ header
    → three ≡ two ++ take {A = ℕ} gap (0 ∷ 0 ∷ 0 ∷ 0 ∷ 0 ∷ 0 ∷ 0 ∷ 0 ∷ [])
    → three ≡ head ++ (header ++ replicate gap 0)
parts_joined none one two three head header gap short e f g h =
    let zeros : three ≡ two ++ replicate gap 0 = h ∙ ap (λ l. two ++ l) (zeros_taken gap short) in
    let first : one ≡ head = f ∙ ap (λ l. l ++ head) e in
    zeros ∙ ap (λ l. l ++ replicate gap 0) (g ∙ ap (λ l. l ++ header) first) ∙ simp append_assoc

-- a body behind them
pub all_joined : (front head header body all : List ℕ) (gap : ℕ) → front ≡ head ++ (header ++ replicate gap 0)
    → all ≡ front ++ body → all ≡ head ++ (header ++ (replicate gap 0 ++ body))
all_joined front head header body all gap e f = f ∙ ap (λ (l : List ℕ). l ++ body) e ∙ simp append_assoc

pub if_ok : {A E : Type 0} (r : Result A E) (P Q : A → Type 0) → ((a : A) → P a → Q a) → IfOk r P → IfOk r Q
if_ok (Ok a) P Q h p = h a p
if_ok (Err e) P Q h p = tt
