-- A list of nodes has one fault at most, and has none where all paths are short.
use Rattle.std.proofs.Common.{◌≡◌, ℕ, ◌<◌, EachIndex, inl, inr, sym, ap, ◌∙◌}
use Rattle.std.proofs.Math.Nat.{le_antisymm}
use Rattle.std.proofs.lemmas.Bool.{cases_lt}
use Rattle.idl_tree.specs.declared.names.At.{At}
use Rattle.type_graph.specs.GraphRules.{IsShallow}
use Rattle.type_paths.specs.declared.fault.PathFault.{PathFault}
use Rattle.type_paths.specs.declared.fault.PathFault.TheVariants.{SelfHeld, LongPath}
use Rattle.type_paths.specs.Sites.{Types, line_of, own_at}
use Rattle.type_paths.specs.Paths.{ClosesCircle, IsClosedAt, IsTooDeep, IsFaultOf}
use Rattle.type_paths.proofs.PathLaws.{round_not_shallow}

pub fault_deep : (types : Types) (fault : PathFault) → IsFaultOf types fault
    → EachIndex types.nodes (IsShallow 64 types.nodes) → ⊥
fault_deep types (SelfHeld at) h all =
    let round = h.closes.round in round_not_shallow types at.token round 64 (all round.node round.within)
fault_deep types (LongPath at) h all = h.deep (all h.node h.within)

-- numbers neither of which is below the other are the same
neither_below : (n m : ℕ) → (n < m → ⊥) → (m < n → ⊥) → n ≡ m
neither_below n m one other = elim (cases_lt n m) as (λ v. n ≡ m) [
  | inl lt ↦ absurd (one lt)
  | inr le ↦ elim (cases_lt m n) as (λ v. n ≡ m) [ inl lt ↦ absurd (other lt) | inr ge ↦ le_antisymm ge le ]
]

token_one : (types : Types) (one other : ℕ) → ClosesCircle types one → ClosesCircle types other → one ≡ other
token_one types one other h k = neither_below one other (λ lt. k.first one lt h.round) (λ lt. h.first other lt k.round)

abbrev site : ℕ → ℕ → At
site token line = record { token = token; line = line }

circle_one : (types : Types) (one other : At) → IsClosedAt types one → IsClosedAt types other → one ≡ other
circle_one types one other h k =
    let token : one.token ≡ other.token = token_one types one.token other.token h.closes k.closes in
    let line : one.line ≡ other.line = h.line ∙ ap (line_of types) token ∙ sym k.line in
    ap (λ (n : ℕ). site n one.line) token ∙ ap (site other.token) line

deep_one : (types : Types) (one other : At) → IsTooDeep types one → IsTooDeep types other → one ≡ other
deep_one types one other h k =
    let same = neither_below h.node k.node (λ lt. h.deep (k.first h.node lt)) (λ lt. k.deep (h.first k.node lt)) in
    h.stands ∙ ap (own_at types) same ∙ sym k.stands

pub fault_one : (types : Types) (one other : PathFault) → IsFaultOf types one → IsFaultOf types other → one ≡ other
fault_one types (SelfHeld one) (SelfHeld other) h k = ap SelfHeld (circle_one types one other h k)
fault_one types (SelfHeld one) (LongPath other) h k = absurd (k.never one.token h.closes.round)
fault_one types (LongPath one) (SelfHeld other) h k = absurd (h.never other.token k.closes.round)
fault_one types (LongPath one) (LongPath other) h k = ap LongPath (deep_one types one other h k)
