-- The routes of the nodes that have names.
use Rattle.std.proofs.Common.{◌≡◌, ◌<◌, ◌+◌, ◌≢◌, ℕ, true, false, List, length, map, take, take_all, get_or, set, Option, Some, None, is_some, IfSome, All, Contains, refl, sym, ap, subst, ◌∙◌, inl, inr, arith, slice_get, option_map, IsSome}
use Rattle.std.specs.Bool.{OnFalse}
use Rattle.std.proofs.lemmas.Bool.{cases_eq, cases_lt}
use Rattle.std.proofs.lemmas.List.{get_or-set_same, get_or-set_other, length-set, length-map}
use Rattle.std.proofs.Math.ListN.{get_or-eq_default}
use Rattle.std.proofs.lemmas.List.Elements.{All-more, All-weaker, All-contains, Contains-get_or}
use Rattle.std.proofs.lemmas.Option.{slice_get-get_or, slice_get-map, slice_get_within, get_or_from_slice_get}
use Rattle.marshal_program.specs.Served.{served_by}
use Rattle.type_model.specs.Names.{IsNamed}
use Rattle.table_file.specs.declared.table.Which.{Which}
use Rattle.table_file.specs.declared.table.Which.TheVariants.{First}
use Rattle.table_file.specs.Table.{TableParts, IsTable, program_at}
use Rattle.routine_checker.specs.declared.fault.CheckFault.{CheckFault}
use Rattle.position_checker.specs.Acceptance.{IsLone, Uses}
use Rattle.routine_checker.specs.Refusal.{wants_memory}
use Rattle.position_checker.proofs.Lone.{lone_serves}
use Rattle.position_checker.specs.declared.routes.Route.{Route}
use Rattle.position_checker.specs.inner.Routes.{IsRoute, AreRoutes}
use Rattle.type_graph.proofs.Refusals.{only_if_weaker}

abbrev pub nodes_of : TableParts → List ℕ
nodes_of table = map (λ name. name.1) table.model.names

abbrev HasRoute : List (Option Route) → ℕ → Type 0
HasRoute routes node = is_some (get_or routes node None) ≡ true

-- the routes of the names before a place
pub record RoutesUpTo (table : TableParts) (place : ℕ) (routes : List (Option Route)) : Type 0 where
  pub long : length routes ≡ length table.model.graph
  pub complete : All (HasRoute routes) (take place (nodes_of table))
  pub right : (node : ℕ) → IfSome (get_or routes node None) (IsRoute table node)

route_stays : (routes : List (Option Route)) (node other : ℕ) (route : Route) → node < length routes
    → HasRoute routes other → HasRoute (set routes node (Some route)) other
route_stays routes node other route within has =
    elim (cases_eq other node) [
      | inl same ↦ ap (λ k. is_some (get_or (set routes node (Some route)) k None)) same
          ∙ ap is_some (get_or-set_same routes node (Some route) None within)
      | inr differs ↦ ap is_some (get_or-set_other routes node other (Some route) None differs) ∙ has
    ]

route_right : (table : TableParts) (routes : List (Option Route)) (node other : ℕ) (route : Route)
    → node < length routes → IsRoute table node route
    → ((n : ℕ) → IfSome (get_or routes n None) (IsRoute table n))
    → IfSome (get_or (set routes node (Some route)) other None) (IsRoute table other)
route_right table routes node other route within is right =
    elim (cases_eq other node) [
      | inl same ↦ subst (λ k. IfSome (get_or (set routes node (Some route)) k None) (IsRoute table k)) (sym same)
          (subst (λ (o : Option Route). IfSome o (IsRoute table node))
          (sym (get_or-set_same routes node (Some route) None within)) is)
      | inr differs ↦ subst (λ (o : Option Route). IfSome o (IsRoute table other))
          (sym (get_or-set_other routes node other (Some route) None differs)) (right other)
    ]

pub routes_more : (table : TableParts) (place node : ℕ) (routes : List (Option Route)) (route : Route)
    → place < length (nodes_of table)
    → node ≡ get_or (nodes_of table) place node → node < length table.model.graph → IsRoute table node route
    → RoutesUpTo table place routes → RoutesUpTo table (place + 1) (set routes node (Some route))
routes_more table place node routes route here is within good m =
    let in_routes : node < length routes = omega (arith, m.long) in
    let P : ℕ → Type 0 = HasRoute (set routes node (Some route)) in
    record {
      long = length-set routes node (Some route) ∙ m.long;
      complete =
          let before : All P (take place (nodes_of table)) =
          All-weaker (HasRoute routes) P (λ other. route_stays routes node other route in_routes)
          (take place (nodes_of table)) m.complete in
          let now : P (get_or (nodes_of table) place node) =
          subst P is (ap is_some (get_or-set_same routes node (Some route) None in_routes)) in
          All-more P (nodes_of table) place node here before now;
      right = λ other. route_right table routes node other route in_routes good m.right;
    }

pub routes_done : (table : TableParts) (place : ℕ) (routes : List (Option Route)) → place ≡ length (nodes_of table)
    → RoutesUpTo table place routes → AreRoutes table routes
routes_done table place routes end m =
    let all : All (HasRoute routes) (nodes_of table) =
    subst (All (HasRoute routes)) (ap (λ n. take n (nodes_of table)) end ∙ take_all _ (nodes_of table) (omega arith))
    m.complete in
    record {
      there = λ node named. All-contains (HasRoute routes) (nodes_of table) node all named;
      right = m.right;
    }

-- a route is within the list
pub has_route_within : (routes : List (Option Route)) (node : ℕ) → HasRoute routes node → node < length routes
has_route_within routes node has =
    elim (cases_lt node (length routes)) [
      | inl within ↦ within
      | inr past ↦ let bad : false ≡ true = ap is_some (sym (get_or-eq_default routes None past)) ∙ has in absurd cc
    ]

pub same_node : {r : Option ℕ} (a b : ℕ) → r ≡ Some a → r ≡ Some b → a ≡ b
same_node a b here there = let both : Some a ≡ Some b = sym here ∙ there in cc

-- a name that is there isn't missing
pub not_missing : (names : List (List ℕ × ℕ)) (name : List ℕ) (node : ℕ) → Contains names (name, node)
    → All (λ pair. pair.0 ≢ name) names → ⊥
not_missing names name node there missing = All-contains (λ pair. pair.0 ≢ name) names (name, node) missing there refl

-- ---- what a name uses

node_at : (names : List (List ℕ × ℕ)) (place : ℕ) (name : List ℕ) (node : ℕ) → slice_get names place ≡ Some (name, node)
    → get_or (map (λ (pair : List ℕ × ℕ). pair.1) names) place node ≡ node
node_at names place name node named =
    let nodes = map (λ (pair : List ℕ × ℕ). pair.1) names in
    get_or_from_slice_get nodes place node node (slice_get-map (λ (pair : List ℕ × ℕ). pair.1) names place
    ∙ ap (option_map (λ (pair : List ℕ × ℕ). pair.1)) named)

place_within : (names : List (List ℕ × ℕ)) (place : ℕ) (name : List ℕ) (node : ℕ)
    → slice_get names place ≡ Some (name, node)
    → place < length (map (λ (pair : List ℕ × ℕ). pair.1) names)
place_within names place name node named =
    let within = slice_get_within names place (name, node) named in
    omega (arith, within, length-map names (λ (pair : List ℕ × ℕ). pair.1))

-- the node of a name is one with a name
named_at : (names : List (List ℕ × ℕ)) (place : ℕ) (name : List ℕ) (node : ℕ)
    → slice_get names place ≡ Some (name, node) → IsNamed names node
named_at names place name node named =
    let nodes = map (λ (pair : List ℕ × ℕ). pair.1) names in
    subst (Contains nodes) (node_at names place name node named)
    (Contains-get_or nodes place node (place_within names place name node named))

pub has_name : (names : List (List ℕ × ℕ)) (name : List ℕ) (result : Option ℕ)
    → ((node : ℕ) → result ≡ Some node → Contains names (name, node)) → IfSome result (IsNamed names)
has_name names name None found = tt
has_name names name (Some node) found =
    let there = found node refl in
    named_at names there.0 name node (slice_get-get_or names there.0 (name, node) there.1
    ∙ ap (λ (pair : List ℕ × ℕ). Some pair) there.2)

module _ (table : TableParts) (rules : IsTable table) where
  -- the node at a place is in the graph
  node_within : (place : ℕ) (name : List ℕ) (node : ℕ) → slice_get table.model.names place ≡ Some (name, node)
      → node < length table.model.graph
  node_within place name node named =
      let within = slice_get_within table.model.names place (name, node) named in
      let is : get_or table.model.names place (name, node) ≡ (name, node) =
      get_or_from_slice_get table.model.names place (name, node) (name, node) named in
      subst (λ (pair : List ℕ × ℕ). pair.1 < length table.model.graph) is
      (rules.model.names.within place (name, node) within)

  pub found_route : (place : ℕ) (name : List ℕ) (node : ℕ) (route : Route)
      → slice_get table.model.names place ≡ Some (name, node)
      → slice_get table.uses place ≡ Some route.program → served_by (program_at table route.program) node
      ≡ Some route.routine → IsRoute table node route
  found_route place name node route named used served = record {
    serves = record {
      used = record { place = place; name = name; named = named; used = used };
      first_is = served;
    };
    alone = λ other there.
        let same : slice_get table.uses there.place ≡ slice_get table.uses place =
        rules.uses.alike there.place place (there.name, node) (name, node) there.named named refl in
        let both : Some other ≡ Some route.program = sym there.used ∙ same ∙ used in cc;
  }

  pub routes_next : (place : ℕ) (name : List ℕ) (node : ℕ) (routes : List (Option Route)) (route : Route)
      → slice_get table.model.names place ≡ Some (name, node)
      → slice_get table.uses place ≡ Some route.program → served_by (program_at table route.program) node
      ≡ Some route.routine
      → RoutesUpTo table place routes → RoutesUpTo table (place + 1) (set routes node (Some route))
  routes_next place name node routes route named used served m =
      routes_more table place node routes route (place_within table.model.names place name node named)
      (sym (node_at table.model.names place name node named)) (node_within place name node named)
      (found_route place name node route named used served) m

  -- a name whose node isn't served is in no lone table
  pub lone_refused : (place : ℕ) (name : List ℕ) (node : ℕ) (fault : CheckFault)
      → slice_get table.model.names place ≡ Some (name, node)
      → OnFalse (wants_memory fault) ((program : Which) → slice_get table.uses place ≡ Some program
      → IsSome (served_by (program_at table program) node) → ⊥) → OnFalse (wants_memory fault) (IsLone table → ⊥)
  lone_refused place name node fault named refused =
      let within : place < length table.uses =
      omega (arith, slice_get_within table.model.names place (name, node) named, rules.uses.each) in
      let is : (lone : IsLone table) → slice_get table.uses place ≡ Some First = λ lone.
      slice_get-get_or table.uses place First within ∙ ap (λ (u : Which). Some u) (lone.uses place First within) in
      only_if_weaker (wants_memory fault) _ _
      (λ unserved lone. unserved First (is lone)
      (lone_serves table lone First node refl (node_within place name node named))) refused

  -- each node of a name is served
  pub all_served : (routes : List (Option Route)) → AreRoutes table routes → (node : ℕ) (program : Which)
      → Uses table node program → IsSome (served_by (program_at table program) node)
  all_served routes are node program used =
      let named = named_at table.model.names used.place used.name node used.named in
      by_route (get_or routes node None) (are.there node named) (are.right node)
    where
      by_route : (o : Option Route) → is_some o ≡ true → IfSome o (IsRoute table node)
          → IsSome (served_by (program_at table program) node)
      by_route None has right = absurd cc
      by_route (Some route) has right =
          subst (λ (u : Which). IsSome (served_by (program_at table u) node)) (sym (right.alone program used))
          (ap is_some right.serves.first_is)
