-- Paths without end and circles are one.
use Rattle.std.proofs.Common.{◌≡◌, ◌↔◌, ◌⊎◌, ℕ, zero, suc, ◌+◌, ◌<◌, ◌≤◌, Bool, true, false, List, [], ◌∷◌, Some, slice_get, length, get_or, set, replicate, refl, sym, ap, subst, ◌∙◌, inl, inr, length-set, get_or-set_other, arith}
use Rattle.std.proofs.Math.ListN.{length-replicate}
use Rattle.std.proofs.lemmas.Bool.{cases_eq, cases_lt}
use Rattle.type_graph.specs.Value.{node_at}
use Rattle.type_graph.specs.GraphRules.{held_by}
use Rattle.type_paths.specs.Sites.{Types, token_at}
use Rattle.type_paths.specs.Paths.{ClosesCircle, HoldsBy, HoldsOne, HasPath, LeadsTo, GoesRoundBy, HoldsItself}
use Rattle.type_paths.specs.Levels.{IsIn}
use Rattle.type_paths.proofs.PathLaws.{endless, first_step, holds_within, path_by}
use Rattle.type_paths.proofs.TableLaws.{count_in, count_limited}

-- a step more
leads_on : (Holds : ℕ → ℕ → Type 0) (steps node other part : ℕ) → LeadsTo Holds steps node other → Holds other part
    → LeadsTo Holds (suc steps) node part
unfolding LeadsTo
leads_on Holds zero node other part leads holds =
    record { part = part; holds = subst (λ (n : ℕ). Holds n part) (sym leads) holds; meant = refl }
leads_on Holds (suc steps) node other part leads holds =
    record {
      part = leads.part;
      holds = leads.holds;
      meant =
          leads_on Holds steps leads.part other part leads.meant holds;
    }

-- ---- from a circle

-- each node from which one leads to the circle holds another such
circle_holds : (Holds : ℕ → ℕ → Type 0) (length steps node other : ℕ) → LeadsTo Holds (suc length) other other
    → LeadsTo Holds steps node other
    → HoldsOne Holds (λ part. (n : ℕ) × LeadsTo Holds n part other) node
unfolding LeadsTo
circle_holds Holds length zero node other back leads =
    record {
      part = back.part;
      holds = subst (λ (n : ℕ). Holds n back.part) (sym leads) back.holds;
      meant =
          (length, back.meant);
    }
circle_holds Holds length (suc steps) node other back leads =
    record { part = leads.part; holds = leads.holds; meant = (steps, leads.meant) }

here : (Holds : ℕ → ℕ → Type 0) (node : ℕ) → LeadsTo Holds 0 node node
unfolding LeadsTo
here Holds node = refl

holder_within : (types : Types) (token : ℕ) (Meant : ℕ → Type 0) (node : ℕ) → HoldsOne (HoldsBy types token) Meant node
    → node < length types.nodes
holder_within types token Meant node h = elim (cases_lt node (length types.nodes)) [
  | inl lt ↦ lt
  | inr le ↦ absurd (holds_within types token Meant node le h)
]

round_of_circle : (types : Types) (token : ℕ) → HoldsItself types token → GoesRoundBy types token
round_of_circle types token h =
    let Holds = HoldsBy types token in
    let Meant : ℕ → Type 0 = λ node. (n : ℕ) × LeadsTo Holds n node h.node in
    let paths = endless Holds Meant (λ node meant. circle_holds Holds h.steps meant.0 node h.node h.back meant.1) in
    record {
      node = h.node;
      within = holder_within types token (HasPath Holds 0) h.node
          (first_step Holds 0 h.node (paths 1 h.node (0, here Holds h.node)));
      endless = λ steps. paths steps h.node (0, here Holds h.node);
    }

-- ---- to a circle

two_cases : (b : Bool) → (b ≡ true) ⊎ (b ≡ false)
two_cases true = inl refl
two_cases false = inr refl

count_set : (table : List Bool) (i : ℕ) → i < length table → get_or table i false ≡ false
    → count_in (set table i true) ≡ suc (count_in table)
count_set [] i lt out = absurd (omega arith)
count_set (true ∷ table) zero lt out = absurd cc
count_set (false ∷ table) zero lt out = refl
count_set (true ∷ table) (suc i) lt out = ap suc (count_set table i (omega arith) out)
count_set (false ∷ table) (suc i) lt out = count_set table i (omega arith) out

none_in : (n node : ℕ) → IsIn (replicate n false) false node → ⊥
none_in zero node h = absurd cc
none_in (suc n) zero h = absurd cc
none_in (suc n) (suc node) h = none_in n node h

-- each node in a table leads to this one
abbrev Lead : (ℕ → ℕ → Type 0) → List Bool → ℕ → Type 0
Lead Holds table node = (other : ℕ) → IsIn table false other → (steps : ℕ) × LeadsTo Holds steps other node

lead_on : (Holds : ℕ → ℕ → Type 0) (table : List Bool) (node part : ℕ) → Lead Holds table node → Holds node part
    → Lead Holds (set table part true) part
lead_on Holds table node part lead holds other is_in = elim (cases_eq other part) [
  | inl e ↦ (0, subst (λ (n : ℕ). LeadsTo Holds 0 n part) (sym e) (here Holds part))
  | inr ne ↦
      let was = lead other (sym (get_or-set_other table part other true false ne) ∙ is_in) in
      (suc was.0, leads_on Holds was.0 other node part was.1 holds)
]

-- a walk of more steps than there are nodes that it hasn't passed comes back to one that it has
walk : (types : Types) (token fuel node : ℕ) (table : List Bool) → length table ≡ length types.nodes
    → length types.nodes < fuel + count_in table
    → Lead (HoldsBy types token) table node → HasPath (HoldsBy types token) (suc fuel) node → HoldsItself types token
walk types token zero node table long many lead path = let most = count_limited table in absurd (omega arith)
walk types token (suc fuel) node table long many lead path =
    let Holds = HoldsBy types token in
    let step = first_step Holds (suc fuel) node path in
    elim (two_cases (get_or table step.part false)) [
      | inl is_in ↦
          let back = lead step.part is_in in
          record {
            node = step.part;
            steps = back.0;
            back =
                leads_on Holds back.0 step.part node step.part back.1 step.holds;
          }
      | inr out ↦
          let within = holder_within types token (HasPath Holds fuel) step.part
          (first_step Holds fuel step.part step.meant) in
          let more = count_set table step.part (omega arith) out in
          walk types token fuel step.part (set table step.part true) (length-set table step.part true ∙ long)
          (omega arith) (lead_on Holds table node step.part lead step.holds) step.meant
    ]

circle_of_round : (types : Types) (token : ℕ) → GoesRoundBy types token → HoldsItself types token
circle_of_round types token h =
    let n = length types.nodes in
    walk types token (suc n) h.node (replicate n false) (length-replicate n false) (omega arith)
    (λ other is_in. absurd (none_in n other is_in)) (h.endless (suc (suc n)))

pub round_is_circle : (types : Types) (token : ℕ) → GoesRoundBy types token ↔ HoldsItself types token
round_is_circle types token = (circle_of_round types token, round_of_circle types token)

-- ---- where it closes

-- a member that stands at most at a token, and not at it, stands at most at the one before
stands_before : (n token : ℕ) → n ≤ suc token → (n ≡ suc token → ⊥) → n ≤ token
stands_before n token most other = elim (cases_lt n (suc token)) as (λ v. n ≤ token) [
  | inl lt ↦ omega arith
  | inr le ↦ absurd (other (omega arith))
]

pub closing_held : (types : Types) (token : ℕ) → ClosesCircle types token
    → ((node place part : ℕ) → slice_get (held_by (node_at types.nodes node)) place ≡ Some part
    → token_at types node place ≡ token → ⊥) → ⊥
closing_held types zero h none =
    let step = first_step (HoldsBy types 0) 0 h.round.node (h.round.endless 1) in
    let early = step.holds.early in
    none h.round.node step.holds.place step.part step.holds.there (omega arith)
closing_held types (suc token) h none =
    h.first token (omega arith) (record {
      node = h.round.node;
      within = h.round.within;
      endless = λ steps. path_by (HoldsBy types (suc token)) (HoldsBy types token) steps h.round.node
          (λ holder part holds. record {
            place = holds.place;
            there = holds.there;
            early = stands_before (token_at types holder holds.place) token holds.early
                (none holder holds.place part holds.there);
          }) (h.round.endless steps);
    })
