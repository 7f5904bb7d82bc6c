-- What a name finds stays, where nothing is declared or named as a base before it.
use Rattle.std.proofs.Common.{◌≡◌, ◌∙◌, ℕ, zero, suc, ◌<◌, ◌≤◌, Bool, true, false, cond, nat_eq, List, [], ◌∷◌, map, length, slice_get, Option, Some, None, refl, sym, ap, arith}
use Rattle.std.specs.Prelude.{nat_lt}
use Rattle.std.specs.Option.{option_map}
use Rattle.idl_tree.specs.declared.names.ScopedName.{ScopedName}
use Rattle.idl_tree.specs.Starts.{is_rooted, name_first, name_rest, name_start}
use Rattle.name_table.specs.declared.search.Found.{Found}
use Rattle.name_table.specs.declared.search.Found.TheVariants.{Nothing, One, Several}
use Rattle.name_table.specs.declared.search.Sight.{Sight}
use Rattle.name_table.specs.declared.search.Sight.TheVariants.{Unseen, OtherCase, Unclear, Seen}
use Rattle.name_table.specs.Entry.{AreNested, Entry, around, bases_of, is_named, named, scope_in}
use Rattle.name_table.specs.Search.{base_at, before, both, declared_before, from_base, inherited, inside, is_spelled, or_else, outwards, own, sees, sight, sought_in, within, within_first, word}
use Rattle.name_table.proofs.Stability.{agree, position_low}
use Rattle.scoped_names.proofs.Later.{Later, bare}

-- ---- what is found is an entry

abbrev IsIn : ℕ → Found → Type 0
IsIn n Nothing = Unit {0}
IsIn n (One e) = e < n
IsIn n (Several a b) = (a < n) × (b < n)

both_in : (n : ℕ) (a b : Found) → IsIn n a → IsIn n b → IsIn n (both a b)
both_in n Nothing b h k = k
both_in n (One e) Nothing h k = h
both_in n (One e) (One f) h k = by (nat_eq e f)
  where
    by : (t : Bool) → IsIn n (cond t (One e) (Several e f))
    by true = h
    by false = (h, k)
both_in n (One e) (Several a b) h k = (h, by (nat_eq e a))
  where
    by : (t : Bool) → cond t b a < n
    by true = k.1
    by false = k.0
both_in n (Several a b) c h k = h

or_else_in : (n : ℕ) (a b : Found) → IsIn n a → IsIn n b → IsIn n (or_else a b)
or_else_in n Nothing b h k = k
or_else_in n (One e) b h k = h
or_else_in n (Several a b) c h k = h

module _ (es : List Entry) where
  own_in : (m scope : ℕ) (w : List ℕ) → IsIn (length es) (own es m scope w)
  own_in m scope w = by (named es scope w) refl
    where
      at : (k : ℕ) (o : Option Entry) → k < length es → IsIn (length es) (before m k o)
      at k None lt = tt
      at k (Some e) lt = test (nat_lt e.token m)
        where
          test : (t : Bool) → IsIn (length es) (cond t (One k) Nothing)
          test true = lt
          test false = tt

      by : (o : Option ℕ) → named es scope w ≡ o → IsIn (length es) (declared_before es m o)
      by None is = tt
      by (Some k) is = at k (slice_get es k) (position_low (is_named scope w) es k is)

  inherited_in : (m scope : ℕ) (w : List ℕ) → IsIn (length es) (inherited es m scope w)
  inherited_in zero scope w = tt
  inherited_in (suc m) scope w =
      both_in (length es) (inherited es m scope w)
      (from_base (λ s. or_else (own es m s w) (inherited es m s w)) (base_at (bases_of es scope) m))
      (inherited_in m scope w) (by (base_at (bases_of es scope) m) (λ s. inherited_in m s w))
    where
      by : (b : Option ℕ) → ((s : ℕ) → IsIn (length es) (inherited es m s w))
          → IsIn (length es) (from_base (λ s. or_else (own es m s w) (inherited es m s w)) b)
      by None rest = tt
      by (Some b) rest = or_else_in (length es) (own es m (suc b) w) (inherited es m (suc b) w) (own_in m (suc b) w)
          (rest (suc b))

  within_in : (m scope : ℕ) (w : List ℕ) → IsIn (length es) (within es m scope w)
  within_in m scope w = or_else_in (length es) (own es m scope w) (inherited es m scope w) (own_in m scope w)
      (inherited_in m scope w)

  first_in : (m : ℕ) (scopes w : List ℕ) → IsIn (length es) (within_first es m scopes w)
  first_in m [] w = tt
  first_in m (s ∷ ss) w = or_else_in (length es) (within es m s w) (within_first es m ss w) (within_in m s w)
      (first_in m ss w)

-- so is what is seen
abbrev pub IsSeenIn : ℕ → Sight → Type 0
IsSeenIn n Unseen = Unit {0}
IsSeenIn n (OtherCase e) = e < n
IsSeenIn n (Unclear a b) = (a < n) × (b < n)
IsSeenIn n (Seen e) = e < n

module _ (es : List Entry) where
  sight_in : (w : List ℕ) (x : Found) → IsIn (length es) x → IsSeenIn (length es) (sight es w x)
  sight_in w Nothing h = tt
  sight_in w (One e) h = by (is_spelled w (slice_get es e))
    where
      by : (t : Bool) → IsSeenIn (length es) (cond t (Seen e) (OtherCase e))
      by true = h
      by false = h
  sight_in w (Several a b) h = h

  inside_in : (m : ℕ) (seen : Sight) (ws : List (List ℕ)) → IsSeenIn (length es) seen
      → IsSeenIn (length es) (inside es m seen ws)
  inside_in m seen [] h = h
  inside_in m Unseen (w ∷ ws) h = tt
  inside_in m (OtherCase e) (w ∷ ws) h = h
  inside_in m (Unclear a b) (w ∷ ws) h = h
  inside_in m (Seen e) (w ∷ ws) h =
      inside_in m (sight es w (within es m (suc e) w)) ws
      (sight_in w (within es m (suc e) w) (within_in es m (suc e) w))

  pub sees_in : (scope : ℕ) (name : ScopedName) → IsSeenIn (length es) (sees es scope name)
  sees_in scope name =
      let n = (name_start name).number in
      let w = word (name_first name) in
      let first = within_first es n (sought_in es scope (is_rooted name)) w in
      inside_in n (sight es w first) (map word (name_rest name))
      (sight_in w first (first_in es n (sought_in es scope (is_rooted name)) w))

-- ---- what stays

-- a scope of the entries, where each stands in the scope of an earlier one
pub record IsScope (es : List Entry) (scope : ℕ) : Type 0 where
  pub nested : AreNested es
  pub low : scope ≤ length es

through : {A : Type 0} (f : Option Entry → A) → ((e : Entry) → f (Some (bare e)) ≡ f (Some e)) → (o : Option Entry)
    → f (option_map bare o) ≡ f o
through f same None = refl
through f same (Some e) = same e

-- what doesn't ask for the bases of an entry
pub stays : {n : ℕ} {es fs : List Entry} {A : Type 0} (f : Option Entry → A)
    → ((e : Entry) → f (Some (bare e)) ≡ f (Some e)) → Later n es fs → (k : ℕ) → k < length es
    → f (slice_get fs k) ≡ f (slice_get es k)
stays {es = es} {fs = fs} f same l k lt =
    sym (through f same (slice_get fs k)) ∙ ap f (l.kept k lt) ∙ through f same (slice_get es k)

module _ (n : ℕ) (es fs : List Entry) (l : Later n es fs) where
  within_stays : (scope : ℕ) (w : List ℕ) → within fs n scope w ≡ within es n scope w
  within_stays scope w =
      ap (λ x. or_else x (inherited fs n scope w)) (l.owned n scope w (omega arith))
      ∙ ap (or_else (own es n scope w))
      (agree es fs n l.bases (λ m s v lt. l.owned m s v (omega arith)) n scope w (omega arith))

  first_stays : (scopes w : List ℕ) → within_first fs n scopes w ≡ within_first es n scopes w
  first_stays [] w = refl
  first_stays (s ∷ ss) w =
      ap (λ x. or_else x (within_first fs n ss w)) (within_stays s w)
      ∙ ap (or_else (within es n s w)) (first_stays ss w)

  outwards_stay : AreNested es → (k scope : ℕ) → scope ≤ length es → outwards fs k scope ≡ outwards es k scope
  outwards_stay nested zero scope low = refl
  outwards_stay nested (suc k) zero low = refl
  outwards_stay nested (suc k) (suc e) low =
      let lt : e < length es = omega arith in
      let next : around es (suc e) ≤ length es = by (slice_get es e) refl lt in
      ap (λ s. suc e ∷ outwards fs k s) (stays scope_in (λ x. refl) l e lt)
      ∙ ap (λ ss. suc e ∷ ss) (outwards_stay nested k (around es (suc e)) next)
    where
      by : (o : Option Entry) → slice_get es e ≡ o → e < length es → scope_in o ≤ length es
      by None is lt = omega arith
      by (Some x) is lt = let le = nested e x is in omega arith

  sought_stays : (scope : ℕ) → IsScope es scope → (rooted : Bool)
      → sought_in fs scope rooted ≡ sought_in es scope rooted
  sought_stays scope is true = refl
  sought_stays scope is false = outwards_stay is.nested scope scope is.low

  sight_stays : (w : List ℕ) (x : Found) → IsIn (length es) x → sight fs w x ≡ sight es w x
  sight_stays w Nothing h = refl
  sight_stays w (One e) h = ap (λ t. cond t (Seen e) (OtherCase e)) (stays (is_spelled w) (λ x. refl) l e h)
  sight_stays w (Several a b) h = refl

  inside_stays : (seen : Sight) (ws : List (List ℕ)) → inside fs n seen ws ≡ inside es n seen ws
  inside_stays seen [] = refl
  inside_stays Unseen (w ∷ ws) = refl
  inside_stays (OtherCase e) (w ∷ ws) = refl
  inside_stays (Unclear a b) (w ∷ ws) = refl
  inside_stays (Seen e) (w ∷ ws) =
      ap (λ x. inside fs n (sight fs w x) ws) (within_stays (suc e) w)
      ∙ ap (λ x. inside fs n x ws) (sight_stays w (within es n (suc e) w) (within_in es n (suc e) w))
      ∙ inside_stays (sight es w (within es n (suc e) w)) ws

-- a name of the token n sees what it saw
pub sees_stays : (es fs : List Entry) (scope : ℕ) (name : ScopedName) → Later (name_start name).number es fs
    → IsScope es scope → sees fs scope name ≡ sees es scope name
sees_stays es fs scope name l is =
    let n = (name_start name).number in
    let w = word (name_first name) in
    let ws = map word (name_rest name) in
    let old = sought_in es scope (is_rooted name) in
    ap (λ ss. inside fs n (sight fs w (within_first fs n ss w)) ws) (sought_stays n es fs l scope is (is_rooted name))
    ∙ ap (λ x. inside fs n (sight fs w x) ws) (first_stays n es fs l old w)
    ∙ ap (λ x. inside fs n x ws) (sight_stays n es fs l w (within_first es n old w) (first_in es n old w))
    ∙ inside_stays n es fs l (sight es w (within_first es n old w)) ws
