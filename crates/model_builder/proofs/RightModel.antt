-- What a file is lowered to under its own names keeps the rules of models.
use Rattle.std.proofs.Common.{◌≡◌, ◌<◌, ◌≤◌, ◌+◌, ◌^◌, ◌⊎◌, inl, inr, ℕ, zero, suc, List, [], ◌∷◌, ◌++◌, All, length, map, slice_get, Option, Some, None, Err, IfSome, refl, sym, subst, arith}
use Rattle.std.specs.Prelude.{EachIndex, IsSomeAnd}
use Rattle.std.specs.List.{AllByRecursion, flat_map, range_with_len}
use Rattle.std.proofs.lemmas.List.{length-map}
use Rattle.std.proofs.lemmas.List.Elements.{All-from_recursion, All-map, All-weaker, recursion_from_All}
use Rattle.std.proofs.lemmas.Option.{get_or_from_slice_get, slice_get_within}
use Rattle.type_graph.specs.declared.node.Node.{Node}
use Rattle.type_graph.specs.declared.node.Node.TheVariants.{Frame}
use Rattle.type_graph.specs.GraphRules.{IsGraph, IsNoFrame, IsShallow}
use Rattle.type_model.specs.ModelRules.{AreDeclared, IsException, IsFrame, IsIdFirst, IsInterface, IsOperation}
use Rattle.type_model.specs.Names.{AreNames, IsNamed}
use Rattle.name_table.specs.Entry.{Entry}
use Rattle.idl_tree.specs.declared.spec.Spec.{Spec}
use Rattle.scoped_names.specs.FileNames.{AreNames as AreNamesOf, FileNames}
use Rattle.lowered_types.specs.declared.place.Place.{Place}
use Rattle.lowered_types.specs.declared.place.Place.TheVariants.{Typed, Raised, Called, Got, GotAndSet}
use Rattle.lowered_types.specs.Lowered.{Lowered, place_in, place_of}
use Rattle.lowered_operations.specs.declared.signature.Offered.{Offered}
use Rattle.lowered_operations.specs.declared.signature.Role.{Role}
use Rattle.lowered_operations.specs.declared.signature.Role.TheVariants.{Operation, Getting, Setting}
use Rattle.lowered_operations.specs.declared.signature.Signature.{Signature}
use Rattle.lowered_types.specs.Sound.{BeginsWithText, IsFrame as IsLoweredFrame, IsOfTypes, IsPlaceAmong}
use Rattle.lowered_types.specs.declared.fault.BuildFault.{BuildFault}
use Rattle.lowered_types.specs.declared.fault.BuildFault.TheVariants.{NoMemory, OtherNames}
use Rattle.lowered_operations.specs.Definitions.{defined_by}
use Rattle.lowered_operations.specs.Operations.{Defined}
use Rattle.lowered_operations.specs.Sound.{HasFrames as HasCallFrames, IsSoundException, IsSoundFile, IsSoundOffer, IsSoundSignature}
use Rattle.lowered_operations.proofs.FileKeep.{only_types}
use Rattle.lowered_operations.proofs.FileLaws.{sound_lowered}
use Rattle.model_builder.specs.Naming.{names_at, names_of, names_of_place}
use Rattle.model_builder.specs.Signatures.{exception_of, interfaces_from, operation_of}
use Rattle.model_builder.specs.inner.Own.{IsOwn, IsLowered}
use Rattle.model_builder.specs.inner.Theirs.{AreTheirs, HasFrames, IsOffered, IsSignature}
use Rattle.model_builder.proofs.EntryWords.{AreProper, entries_proper}
use Rattle.model_builder.proofs.NamedFile.{all_apart, file_named}
use Rattle.model_builder.proofs.DistinctNames.{names_distinct}

-- ---- names that are there

-- some pair has the number
abbrev HasNumber : List (List ℕ × ℕ) → ℕ → Type 0
HasNumber [] n = ⊥
HasNumber (p ∷ ps) n = (p.1 ≡ n) ⊎ HasNumber ps n

number_left : (ps qs : List (List ℕ × ℕ)) (n : ℕ) → HasNumber ps n → HasNumber (ps ++ qs) n
number_left (p ∷ ps) qs n (inl is) = inl is
number_left (p ∷ ps) qs n (inr h) = inr (number_left ps qs n h)
number_left [] qs n h = absurd h

number_right : (ps qs : List (List ℕ × ℕ)) (n : ℕ) → HasNumber qs n → HasNumber (ps ++ qs) n
number_right [] qs n h = h
number_right (p ∷ ps) qs n h = inr (number_right ps qs n h)

named_of : (ps : List (List ℕ × ℕ)) (n : ℕ) → HasNumber ps n → IsNamed ps n
named_of [] n h = absurd h
named_of (p ∷ ps) n (inl is) = (0, omega arith, is)
named_of (p ∷ ps) n (inr h) = let (k, lt, is) = named_of ps n h in (suc k, omega (arith, lt), is)

-- the names of an entry are among those of all
among : (es : List Entry) (w : Lowered) (k n j number : ℕ) → j < n → HasNumber (names_at es w (k + j)) number
    → HasNumber (flat_map (names_at es w) (range_with_len k n)) number
among es w k zero j number lt h = absurd (omega (arith, lt))
among es w k (suc n) zero number lt h =
    let same : k + 0 ≡ k = omega arith in
    number_left (names_at es w k) (flat_map (names_at es w) (range_with_len (k + 1) n)) number
    (subst (λ x. HasNumber (names_at es w x) number) same h)
among es w k (suc n) (suc j) number lt h =
    let same : k + suc j ≡ k + 1 + j = omega arith in
    number_right (names_at es w k) (flat_map (names_at es w) (range_with_len (k + 1) n)) number
    (among es w (k + 1) n j number (omega (arith, lt)) (subst (λ x. HasNumber (names_at es w x) number) same h))

named_at : (es : List Entry) (w : Lowered) (e number : ℕ) → e < length es → HasNumber (names_at es w e) number
    → IsNamed (names_of es w) number
named_at es w e number lt h =
    let same : e ≡ 0 + e = omega arith in
    named_of (names_of es w) number
    (among es w 0 (length es) e number lt (subst (λ x. HasNumber (names_at es w x) number) same h))

-- ---- places

-- the numbers of a place are those of nodes
abbrev IsPlaceOf : List Node → Place → Type 0
IsPlaceOf graph (Typed n) = n < length graph
IsPlaceOf graph (Raised frame place) = frame < length graph
IsPlaceOf graph (Called request) = request + 1 < length graph
IsPlaceOf graph (Got request) = request + 1 < length graph
IsPlaceOf graph (GotAndSet request) = request + 3 < length graph

node_low : (graph : List Node) (P : Node → Type 0) (n : ℕ) → IsSomeAnd (slice_get graph n) P → n < length graph
node_low graph P n h = by (slice_get graph n) refl h
  where
    by : (o : Option Node) → slice_get graph n ≡ o → IsSomeAnd o P → n < length graph
    by None is h = absurd h
    by (Some x) is h = slice_get_within graph n x is

place_low : (w : Lowered) (p : Place) → IsPlaceAmong w.nodes (length w.exceptions) p → IsPlaceOf w.nodes p
place_low w (Typed n) h = node_low w.nodes IsNoFrame n h
place_low w (Raised frame place) h = node_low w.nodes (BeginsWithText w.nodes) frame h.0
place_low w (Called request) h = node_low w.nodes IsLoweredFrame (request + 1) h.1
place_low w (Got request) h = node_low w.nodes IsLoweredFrame (request + 1) h.1
place_low w (GotAndSet request) h = node_low w.nodes IsLoweredFrame (request + 3) h.3

-- ---- frames

frame_of : (o : Option Node) → IsSomeAnd o IsLoweredFrame → IsSomeAnd o IsFrame
frame_of None h = h
frame_of (Some (Frame members)) h = tt
frame_of (Some node) h = absurd h

id_of : (graph : List Node) (o : Option Node) → IsSomeAnd o (BeginsWithText graph) → IsSomeAnd o (IsIdFirst graph)
id_of graph None h = h
id_of graph (Some (Frame members)) h = h
id_of graph (Some node) h = absurd h

id_frame : (graph : List Node) (o : Option Node) → IsSomeAnd o (BeginsWithText graph) → IsSomeAnd o IsFrame
id_frame graph None h = h
id_frame graph (Some (Frame members)) h = tt
id_frame graph (Some node) h = absurd h

-- ---- the graph and the names

graph_of : (entries : ℕ) (d : Defined) → IsSoundFile entries d → EachIndex d.types.nodes (IsShallow 64 d.types.nodes)
    → IsGraph d.types.nodes
graph_of entries d r shallow =
    let t = r.types_sound in
    record { limited = t.limited; nodes = t.nodes; members = t.members; shallow = shallow }

place_within : (es : List Entry) (graph : List Node) (e : ℕ) (o : Option Place) → IfSome o (IsPlaceOf graph)
    → AllByRecursion (λ n. n.1 < length graph) (names_of_place es e o)
place_within es graph e None h = tt
place_within es graph e (Some (Typed n)) h = (h, tt)
place_within es graph e (Some (Raised frame place)) h = (h, tt)
place_within es graph e (Some (Called request)) h = (omega (arith, h), (h, tt))
place_within es graph e (Some (Got request)) h = (omega (arith, h), (h, tt))
place_within es graph e (Some (GotAndSet request)) h =
    (omega (arith, h), (omega (arith, h), (omega (arith, h), (omega (arith, h), tt))))

place_right : (entries : ℕ) (d : Defined) → IsSoundFile entries d → (e : ℕ)
    → IfSome (place_of d.types e) (IsPlaceOf d.types.nodes)
place_right entries d r e = by (slice_get d.types.places e) refl
  where
    by : (o : Option (Option Place)) → slice_get d.types.places e ≡ o → IfSome (place_in o) (IsPlaceOf d.types.nodes)
    by None h = tt
    by (Some None) h = tt
    by (Some (Some p)) h =
        place_low d.types p (subst (λ o. IfSome o (IsPlaceAmong d.types.nodes (length d.types.exceptions)))
        (get_or_from_slice_get d.types.places e (Some p) (Some p) h)
        (r.places e (Some p) (slice_get_within d.types.places e (Some p) h)))

names_within : (es : List Entry) (entries : ℕ) (d : Defined) → IsSoundFile entries d → (k n : ℕ)
    → AllByRecursion (λ n. n.1 < length d.types.nodes) (flat_map (names_at es d.types) (range_with_len k n))
names_within es entries d r k zero = tt
names_within es entries d r k (suc n) =
    both (names_at es d.types k) (flat_map (names_at es d.types) (range_with_len (k + 1) n))
    (place_within es d.types.nodes k (place_of d.types k) (place_right entries d r k))
    (names_within es entries d r (k + 1) n)
  where
    both : (xs ys : List (List ℕ × ℕ)) → AllByRecursion (λ n. n.1 < length d.types.nodes) xs
        → AllByRecursion (λ n. n.1 < length d.types.nodes) ys
        → AllByRecursion (λ n. n.1 < length d.types.nodes) (xs ++ ys)
    both [] ys h k = k
    both (x ∷ xs) ys h k = (h.0, both xs ys h.1 k)

are_names : (es : List Entry) → AreProper es → (entries : ℕ) (d : Defined) → IsSoundFile entries d
    → AreNames (length d.types.nodes) (names_of es d.types)
are_names es proper entries d r = record {
  distinct = names_distinct es proper d.types;
  within = All-from_recursion (λ n. n.1 < length d.types.nodes) (names_of es d.types)
      (names_within es entries d r 0 (length es));
}

-- ---- operations

has_at : (es : List Entry) (w : Lowered) (e number : ℕ) (p : Place) → place_of w e ≡ Some p
    → HasNumber (names_of_place es e (Some p)) number → HasNumber (names_at es w e) number
has_at es w e number p is h = subst (λ o. HasNumber (names_of_place es e o) number) (sym is) h

call_named : (es : List Entry) (w : Lowered) (role : Role) (request e : ℕ) → HasCallFrames role request (place_of w e)
    → HasNumber (names_at es w e) request × HasNumber (names_at es w e) (request + 1)
call_named es w Operation request e is = (
  has_at es w e request (Called request) is (inl refl),
  has_at es w e (request + 1) (Called request) is (inr (inl refl)),
)
call_named es w Getting request e (inl is) =
    (has_at es w e request (Got request) is (inl refl), has_at es w e (request + 1) (Got request) is (inr (inl refl)))
call_named es w Getting request e (inr is) = (
  has_at es w e request (GotAndSet request) is (inl refl),
  has_at es w e (request + 1) (GotAndSet request) is (inr (inl refl)),
)
call_named es w Setting request e (first, is, same) =
    let next : first + 2 + 1 ≡ request + 1 = omega (arith, same) in (
      has_at es w e request (GotAndSet first) is (inr (inr (inl (sym same)))),
      has_at es w e (request + 1) (GotAndSet first) is (inr (inr (inr (inl next)))),
    )

is_operation : (es : List Entry) (d : Defined) (count : ℕ) → count ≡ length d.types.exceptions → (s : Signature)
    → IsSoundSignature (length es) d.types s
    → IsOperation d.types.nodes (names_of es d.types) count (operation_of es s)
is_operation es d count same s h =
    let named = call_named es d.types s.role s.request s.entry h.named in
    let graph = d.types.nodes in
    record {
      request = record {
        frame = frame_of (slice_get graph s.request) h.request;
        named =
            named_at es d.types s.entry s.request h.entry named.0;
      };
      reply = record {
        frame = frame_of (slice_get graph (s.request + 1)) h.reply;
        named =
            named_at es d.types s.entry (s.request + 1) h.entry named.1;
      };
      raises = subst (λ n. All (λ r. r < n) s.raises) (sym same) h.raises;
    }

is_exception : (names : FileNames) (d : Defined) (x : ℕ × ℕ) → IsSoundException (length names.entries) d.types x
    → IsException d.types.nodes (names_of names.entries d.types) (exception_of names x)
is_exception names d x h =
    let graph = d.types.nodes in
    let (place, has) = h.named in
    record {
      frame = record {
        frame = id_frame graph (slice_get graph x.1) h.frame;
        named = named_at names.entries d.types x.0 x.1 h.entry
            (has_at names.entries d.types x.0 x.1 (Raised x.1 place) has (inl refl));
      };
      id = record { first = id_of graph (slice_get graph x.1) h.frame };
    }

are_interfaces : (names : FileNames) (d : Defined) (count e : ℕ) → count ≡ length d.operations
    → (os : List (Option Offered))
    → AllByRecursion (λ o. IfSome o (IsSoundOffer (length names.entries) (length d.operations))) os
    → AllByRecursion (IsInterface count) (interfaces_from names e os)
are_interfaces names d count e same [] h = tt
are_interfaces names d count e same (None ∷ os) h = are_interfaces names d count (suc e) same os h.1
are_interfaces names d count e same (Some o ∷ os) (first, rest) = (
  subst (λ n. All (λ k. k < n) o.operations) (sym same) first.operations_there,
  are_interfaces names d count (suc e) same os rest,
)

declared_right : (names : FileNames) (d : Defined) → IsSoundFile (length names.entries) d
    → AreDeclared d.types.nodes (names_of names.entries d.types) (interfaces_from names 0 d.interfaces)
    (map (operation_of names.entries) d.operations) (map (exception_of names) d.types.exceptions)
declared_right names d r =
    let es = names.entries in
    let graph = d.types.nodes in
    let list = names_of es d.types in
    let count = length (map (operation_of es) d.operations) in
    let raised = length (map (exception_of names) d.types.exceptions) in
    let as_many : count ≡ length d.operations = length-map d.operations (operation_of es) in
    let so_many : raised ≡ length d.types.exceptions = length-map d.types.exceptions (exception_of names) in
    record {
      each_interface = All-from_recursion (IsInterface count) (interfaces_from names 0 d.interfaces)
          (are_interfaces names d count 0 as_many d.interfaces
          (recursion_from_All (λ o. IfSome o (IsSoundOffer (length es) (length d.operations))) d.interfaces
          r.offers));
      each_operation = All-map (IsOperation graph list raised) (operation_of es) d.operations
          (All-weaker (IsSoundSignature (length es) d.types) (λ s. IsOperation graph list raised (operation_of es s))
          (is_operation es d raised so_many) d.operations r.signatures);
      each_exception = All-map (IsException graph list) (exception_of names) d.types.exceptions
          (All-weaker (IsSoundException (length es) d.types) (λ x. IsException graph list (exception_of names x))
          (is_exception names d) d.types.exceptions r.exceptions);
    }

-- ---- numbers of 32 bits

frames_small : (graph : List Node) → length graph ≤ 4096 → (p : Place) → IsPlaceOf graph p → HasFrames p
frames_small graph le (Typed n) h = tt
frames_small graph le (Raised frame place) h = tt
frames_small graph le (Called request) h = omega (arith, le, h)
frames_small graph le (Got request) h = omega (arith, le, h)
frames_small graph le (GotAndSet request) h = omega (arith, le, h)

may_small : (w : Lowered) → length w.nodes ≤ 4096 → (o : Option Place)
    → IfSome o (IsPlaceAmong w.nodes (length w.exceptions)) → IfSome o HasFrames
may_small w le None h = tt
may_small w le (Some p) h = frames_small w.nodes le p (place_low w p h)

their_signature : (entries : ℕ) (d : Defined) → IsSoundFile entries d → (s : Signature)
    → IsSoundSignature entries d.types s → IsSignature entries s
their_signature entries d r s h =
    let low = node_low d.types.nodes IsLoweredFrame (s.request + 1) h.reply in
    let t = r.types_sound in
    let limited : length d.types.nodes ≤ 4096 = t.limited in
    let few = r.exceptions_few in
    record {
      entry = h.entry;
      frames = omega (arith, low, limited);
      raises = All-weaker (λ n. n < length d.types.exceptions) (λ n. n < 2 ^ 32)
          (λ n lt. omega (arith, lt, few, limited)) s.raises h.raises;
    }

may_offer : (entries : ℕ) (d : Defined) → IsSoundFile entries d → (o : Option Offered)
    → IfSome o (IsSoundOffer entries (length d.operations)) → IfSome o (IsOffered entries)
may_offer entries d r None h = tt
may_offer entries d r (Some o) h =
    let t = r.types_sound in
    let limited : length d.types.nodes ≤ 4096 = t.limited in
    let few = r.operations_few in
    record {
      operations = All-weaker (λ n. n < length d.operations) (λ n. n < 2 ^ 32) (λ n lt. omega (arith, lt, few, limited))
          o.operations h.operations_there;
      bases = h.bases;
    }

theirs : (entries : ℕ) (d : Defined) → IsSoundFile entries d → AreTheirs entries d
theirs entries d r =
    let t = r.types_sound in
    let long = r.interfaces_long in
    record {
      places = All-weaker (λ o. IfSome o (IsPlaceAmong d.types.nodes (length d.types.exceptions)))
          (λ o. IfSome o HasFrames) (may_small d.types t.limited) d.types.places r.places;
      exceptions = All-weaker (IsSoundException entries d.types) (λ x. x.0 < entries) (λ x h. h.entry)
          d.types.exceptions r.exceptions;
      operations = All-weaker (IsSoundSignature entries d.types) (IsSignature entries) (their_signature entries d r)
          d.operations r.signatures;
      interfaces = omega (arith, long);
      offered = All-weaker (λ o. IfSome o (IsSoundOffer entries (length d.operations)))
          (λ o. IfSome o (IsOffered entries)) (may_offer entries d r) d.interfaces r.offers;
    }

-- ---- the model

pub own_of : (spec : Spec) (names : FileNames) (d : Defined) → IsLowered spec.definitions.items names d → IsOwn names d
own_of spec names d h =
    let r = sound_lowered spec names h.own d h.told in
    record {
      theirs = theirs (length names.entries) d r;
      graph = graph_of (length names.entries) d r;
      model = λ graph. record {
        graph = graph;
        names =
            are_names names.entries (entries_proper spec names h.own) (length names.entries) d r;
        declared =
            declared_right names d r;
      };
      apart = all_apart d.types.nodes d.types.names (file_named spec names h.own d h.told);
    }

-- no fault of names is left
pub of_types : (spec : Spec) (names : FileNames) (fault : BuildFault) → AreNamesOf spec.definitions.items names
    → (fault ≡ NoMemory) ⊎ (defined_by names.entries spec.definitions.items ≡ Err fault) → fault ≡ OtherNames → ⊥
of_types spec names fault own (inl memory) is = absurd cc
of_types spec names fault own (inr told) is = subst IsOfTypes is (only_types spec names own fault told)
