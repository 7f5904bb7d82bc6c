-- Tables of the nodes from which paths lead: how they shrink, and that one which doesn't is the last.
use Rattle.std.proofs.Common.{◌≡◌, ◌↔◌, ℕ, zero, suc, ◌+◌, ◌-◌, ◌<◌, ◌≤◌, Bool, true, false, IsTrue, List, [], ◌∷◌, ◌++◌, length, get_or, Option, Some, None, is_some, IfSome, IfNone, refl, sym, ap, subst, ◌∙◌, add-one, inl, inr, below_more, arith}
use Rattle.std.proofs.Math.Seq.{get_or-append_seam}
use Rattle.std.proofs.Math.ListN.{get_or-append}
use Rattle.std.proofs.lemmas.Bool.{cases_lt}
use Rattle.std.proofs.lemmas.List.{get_or_past}
use Rattle.type_paths.specs.Sites.{Types}
use Rattle.type_paths.specs.Paths.{HoldsBy, HasPath, IsEndless, GoesRoundBy}
use Rattle.type_paths.specs.Levels.{IsIn, IsLevel, IsLevelAbove}
use Rattle.type_paths.proofs.PathLaws.{one_of_more, path_front, path_shorter, path_endless}

-- ---- how many are in a table

abbrev pub count_in : List Bool → ℕ
count_in [] = 0
count_in (true ∷ table) = suc (count_in table)
count_in (false ∷ table) = count_in table

-- each of one is in the other
abbrev pub IsWithin : List Bool → List Bool → Type 0
IsWithin next table = (node : ℕ) → IsIn next false node → IsIn table false node

pub count_limited : (table : List Bool) → count_in table ≤ length table
count_limited [] = omega arith
count_limited (true ∷ table) = let more = count_limited table in omega arith
count_limited (false ∷ table) = let more = count_limited table in omega arith

-- none
pub count_none : (table : List Bool) (node : ℕ) → count_in table ≡ 0 → IsIn table false node → ⊥
count_none [] node none h = absurd cc
count_none (true ∷ table) node none h = absurd (omega arith)
count_none (false ∷ table) zero none h = absurd cc
count_none (false ∷ table) (suc node) none h = count_none table node none h

-- no more than in a table that has each of them
pub count_within : (next table : List Bool) → length next ≡ length table → IsWithin next table
    → count_in next ≤ count_in table
count_within [] table long within = omega arith
count_within (b ∷ next) [] long within = absurd (omega arith)
count_within (true ∷ next) (true ∷ table) long within = let more =
    count_within next table (omega arith) (λ node h. within (suc node) h) in omega arith
count_within (true ∷ next) (false ∷ table) long within = let bad : false ≡ true = within 0 refl in absurd cc
count_within (false ∷ next) (true ∷ table) long within = let more =
    count_within next table (omega arith) (λ node h. within (suc node) h) in omega arith
count_within (false ∷ next) (false ∷ table) long within = let more =
    count_within next table (omega arith) (λ node h. within (suc node) h) in omega arith

-- where there are as many, the tables are the same
pub count_same : (next table : List Bool) → length next ≡ length table → IsWithin next table
    → count_in table ≤ count_in next → next ≡ table
count_same [] [] long within many = refl
count_same [] (b ∷ table) long within many = absurd (omega arith)
count_same (b ∷ next) [] long within many = absurd (omega arith)
count_same (true ∷ next) (true ∷ table) long within many =
    ap (λ (t : List Bool). true ∷ t) (count_same next table (omega arith) (λ node h. within (suc node) h) (omega arith))
count_same (true ∷ next) (false ∷ table) long within many = let bad : false ≡ true = within 0 refl in absurd cc
count_same (false ∷ next) (true ∷ table) long within many = let more =
    count_within next table (omega arith) (λ node h. within (suc node) h) in absurd (omega arith)
count_same (false ∷ next) (false ∷ table) long within many =
    ap (λ (t : List Bool). false ∷ t)
    (count_same next table (omega arith) (λ node h. within (suc node) h) (omega arith))

-- ---- what a table tells

-- one more number
pub told_more : (P : ℕ → Type 0) (next : List Bool) (i : ℕ) (b : Bool) → length next ≡ i
    → ((node : ℕ) → node < i → IsIn next false node ↔ P node) → (IsTrue b ↔ P i)
    → (node : ℕ) → node < i + 1 → IsIn (next ++ b ∷ []) false node ↔ P node
told_more P next i b long told here =
    let last : get_or (next ++ b ∷ []) i false ≡ b =
    subst (λ (k : ℕ). get_or (next ++ b ∷ []) k false ≡ b) long (get_or-append_seam next b [] false) in
    below_more (λ node. IsIn (next ++ b ∷ []) false node ↔ P node) i
    (λ node lt. subst (λ (t : Bool). (t ≡ true) ↔ P node) (sym (get_or-append next (b ∷ []) false node (omega arith)))
    (told node lt))
    (subst (λ (t : Bool). (t ≡ true) ↔ P i) (sym last) here)

pub in_within : (table : List Bool) (node : ℕ) → IsIn table false node → node < length table
in_within table node h = elim (cases_lt node (length table)) [
  | inl lt ↦ lt
  | inr le ↦ let past = get_or_past table node false le in let bad : true ≡ false = sym h ∙ past in absurd cc
]

-- all numbers, where nothing holds of those past the end
pub told_all : (P : ℕ → Type 0) (next : List Bool) (n : ℕ) → length next ≡ n
    → ((node : ℕ) → node < n → IsIn next false node ↔ P node) → ((node : ℕ) → n ≤ node → P node → ⊥)
    → (node : ℕ) → IsIn next false node ↔ P node
told_all P next n long told none node = elim (cases_lt node n) as (λ v. IsIn next false node ↔ P node) [
  | inl lt ↦ told node lt
  | inr le ↦ ((λ h. let lt = in_within next node h in absurd (omega arith)), (λ h. absurd (none node le h)))
]

-- ---- steps

-- what holds of any number is in a table of none, past whose end all are
pub level_first : (types : Types) (token : ℕ) (next : List Bool) → IsLevelAbove types token [] true next
    → IsLevel types token 1 next
unfolding HasPath
level_first types token next level = record {
  long = level.long;
  same = λ node. (
    λ h. one_of_more (HoldsBy types token) (IsIn [] true) (HasPath (HoldsBy types token) 0) node (λ part is_in. tt)
        ((level.above node).0 h),
    λ h. (level.above node).1
        (one_of_more (HoldsBy types token) (HasPath (HoldsBy types token) 0) (IsIn [] true) node (λ part path. refl) h),
  );
}

level_suc : (types : Types) (token steps : ℕ) (table next : List Bool) → IsLevel types token steps table
    → IsLevelAbove types token table false next → IsLevel types token (suc steps) next
unfolding HasPath
level_suc types token steps table next level above = record {
  long = above.long;
  same = λ node. (
    λ h. one_of_more (HoldsBy types token) (IsIn table false) (HasPath (HoldsBy types token) steps) node
        (λ part. (level.same part).0) ((above.above node).0 h),
    λ h. (above.above node).1
        (one_of_more (HoldsBy types token) (HasPath (HoldsBy types token) steps) (IsIn table false) node
        (λ part. (level.same part).1) h),
  );
}

-- one step more
pub level_more : (types : Types) (token steps : ℕ) (table next : List Bool) → IsLevel types token steps table
    → IsLevelAbove types token table false next → IsLevel types token (steps + 1) next
level_more types token steps table next level above = rw add-one (level_suc types token steps table next level above)

level_within : (types : Types) (token steps : ℕ) (table next : List Bool) → IsLevel types token steps table
    → IsLevelAbove types token table false next → IsWithin next table
level_within types token steps table next level above = λ node h.
    (level.same node).1 (path_front (HoldsBy types token) steps node
    (((level_suc types token steps table next level above).same node).0 h))

-- a step that changes something loses a node
pub level_loses : (types : Types) (token steps : ℕ) (table next : List Bool) → IsLevel types token steps table
    → IsLevelAbove types token table false next → (next ≡ table → ⊥) → count_in next < count_in table
level_loses types token steps table next level above other =
    let long : length next ≡ length table = above.long ∙ sym level.long in
    let within = level_within types token steps table next level above in
    let most = count_within next table long within in
    elim (cases_lt (count_in next) (count_in table)) [
      | inl lt ↦ lt
      | inr le ↦ absurd (other (count_same next table long within le))
    ]

-- a table that is its own next one has paths of any length
pub level_endless : (types : Types) (token steps : ℕ) (table : List Bool) → IsLevel types token steps table
    → IsLevelAbove types token table false table → (node : ℕ) → IsIn table false node
    → IsEndless (HoldsBy types token) node
level_endless types token steps table level above node h = λ more.
    path_endless (HoldsBy types token) steps
    (λ holder path. one_of_more (HoldsBy types token) (IsIn table false) (HasPath (HoldsBy types token) steps) holder
    (λ part. (level.same part).0) ((above.above holder).0 ((level.same holder).1 path)))
    more node ((level.same node).0 h)

-- and is that of every later step
pub level_stays : (types : Types) (token steps more : ℕ) (table : List Bool) → IsLevel types token steps table
    → IsLevelAbove types token table false table → IsLevel types token (steps + more) table
level_stays types token steps more table level above = record {
  long = level.long;
  same = λ node. (
    λ h. level_endless types token steps table level above node h (steps + more),
    λ h. (level.same node).1 (path_shorter (HoldsBy types token) steps more node h),
  );
}

-- the step that changes nothing tells of each later one
pub level_ends : (types : Types) (token steps all : ℕ) (table next : List Bool) → next ≡ table → steps ≤ all
    → IsLevel types token steps table → IsLevelAbove types token table false next → IsLevel types token all next
level_ends types token steps all table next same le level above =
    let again = subst (IsLevelAbove types token table false) same above in
    let e : steps + (all - steps) ≡ all = omega arith in
    subst (IsLevel types token all) (sym same)
    (subst (λ (n : ℕ). IsLevel types token n table) e
    (level_stays types token steps (all - steps) table level again))

pub level_ends_endless : (types : Types) (token steps : ℕ) (table next : List Bool) → next ≡ table
    → IsLevel types token steps table → IsLevelAbove types token table false next → (node : ℕ) → IsIn next false node
    → IsEndless (HoldsBy types token) node
level_ends_endless types token steps table next same level above node h =
    level_endless types token steps table level (subst (IsLevelAbove types token table false) same above) node
    (subst (λ (t : List Bool). IsIn t false node) same h)

-- a node is left after more steps than there are nodes, or none is
pub round_told : (types : Types) (token steps : ℕ) (table : List Bool) (found : Option ℕ)
    → IsLevel types token steps table → ((node : ℕ) → IsIn table false node → IsEndless (HoldsBy types token) node)
    → IfNone found ((node : ℕ) → IsIn table false node → ⊥) → IfSome found (IsIn table false) → IsTrue (is_some found)
    ↔ GoesRoundBy types token
round_told types token steps table None level endless none some =
    ((λ h. absurd cc), (λ round. absurd (none round.node ((level.same round.node).1 (round.endless steps)))))
round_told types token steps table (Some node) level endless none some =
    let within = in_within table node some in (
      λ h. record { node = node; within = omega (arith, within, level.long); endless = endless node some },
      λ round. refl,
    )
