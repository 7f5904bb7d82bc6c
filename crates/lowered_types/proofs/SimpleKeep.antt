-- Types that declare nothing, arrays and enumerations: what is kept stays so.
use Rattle.std.proofs.Common.{◌≡◌, ◌∙◌, ℕ, ◌<◌, ◌≤◌, List, [], ◌∷◌, length, map, Option, Some, None, Ok, refl, arith}
use Rattle.std.specs.Prelude.{slice_get}
use Rattle.std.specs.List.{AllByRecursion}
use Rattle.idl_tree.specs.declared.names.At.{At}
use Rattle.idl_tree.specs.declared.const_expr.Bound.{Bound}
use Rattle.idl_tree.specs.declared.const_expr.ConstExpr.{ConstExpr}
use Rattle.idl_tree.specs.declared.types.Integer.{Integer}
use Rattle.idl_tree.specs.declared.types.Integer.TheVariants.{Signed, Unsigned}
use Rattle.idl_tree.specs.declared.types.IntegerSize.TheVariants.{Short, Long, LongLong}
use Rattle.idl_tree.specs.declared.types.ConstType.{ConstType}
use Rattle.idl_tree.specs.declared.types.ConstType.TheVariants as ConstTypes
use Rattle.idl_tree.specs.declared.types.ParamType.{ParamType}
use Rattle.idl_tree.specs.declared.types.ParamType.TheVariants as ParamTypes
use Rattle.idl_tree.specs.declared.types.SimpleType.{SimpleType, Plain, Sequence'}
use Rattle.idl_tree.specs.declared.types.Declarator.{Declarator}
use Rattle.idl_tree.specs.declared.types.EnumType.{EnumType}
use Rattle.idl_tree.specs.declared.types.TypeSpec.{Simple}
use Rattle.idl_tree.specs.Lists.{parts}
use Rattle.idl_tree.specs.Starts.{expr_start, leaf_at}
use Rattle.type_graph.specs.BasicNodes.{basic_nodes}
use Rattle.type_graph.specs.declared.fault.GraphLimit.{GraphLimit}
use Rattle.type_graph.specs.declared.fault.GraphLimit.TheVariants.{Bound as BoundLimit, Enumerators, Size}
use Rattle.type_graph.specs.declared.node.Node.{Node}
use Rattle.type_graph.specs.declared.node.Node.TheVariants.{Text, Seq, Array, Enum}
use Rattle.type_graph.specs.GraphRules.{IsNoFrame, IsPart}
use Rattle.idl_tree.specs.declared.kinds.EntryKind.TheVariants as Kinds
use Rattle.name_table.specs.Entry.{Entry}
use Rattle.name_table.specs.Search.{word}
use Rattle.scoped_names.specs.Introductions.{Introduction, Stands}
use Rattle.name_steps.specs.Steps.{DeclaresEnumerator, bound_steps, const_type_steps, enum_steps, param_type_steps, simple_type_steps, size_step}
use Rattle.scoped_names.specs.Tests.{size_read}
use Rattle.name_steps.proofs.Asks.{type_asks}
use Rattle.scoped_names.proofs.Parts.{closed}
use Rattle.lowered_types.specs.declared.place.Place.TheVariants.{Typed}
use Rattle.lowered_types.specs.Faults.{at_most, max_bound, max_enumerators, max_size, of_names}
use Rattle.lowered_types.specs.SimpleTypes.{array_type, arrays, bound_of, bound_or_none, const_type, declarator_at, entry_of, enum_type, integer_number, param_type, simple_type, size_of, sizes_read, type_found}
use Rattle.lowered_types.specs.Lowered.{Lowered, Numbered, added, added_at, already, named_type, one_site, placed}
use Rattle.lowered_types.proofs.Fine.{Fine, and_then, at_most_fine, given, weaker}
use Rattle.lowered_types.proofs.Keeping.{Keeps, Later, later_none, later_on}
use Rattle.lowered_types.proofs.Naming.{Entered, IsSilent, each_silent, entered, entry_is, finds_type, silent_append, silent_keeps, size_known, type_named}
use Rattle.lowered_types.proofs.Settled.{AllSettled, behind, both}
use Rattle.lowered_types.proofs.Spots.{is_some_and}
use Rattle.lowered_types.proofs.Lowering.{Adds, added_fine, with_placed}

-- ---- types that have their numbers

pub still_fine : (es : List Entry) (g : List Introduction) (begun : ℕ → Type 0) (w : Lowered) (n : ℕ)
    → Keeps es g begun w → IsPart w.nodes n → Adds es g begun w (already w n)
still_fine es g begun w n i part =
    record { keeps = i; later = later_none w; part = part; places = refl; exceptions = refl }

pub adds_on : (es : List Entry) (g : List Introduction) (begun : ℕ → Type 0) (w : Lowered) (n m : Numbered)
    → Adds es g begun w n → Adds es g begun n.lowered m → Adds es g begun w m
adds_on es g begun w n m a b = record {
  keeps = b.keeps;
  later = later_on w n.lowered m.lowered a.later b.later;
  part = b.part;
  places = b.places ∙ a.places;
  exceptions = b.exceptions ∙ a.exceptions;
}

pub basic_part : (es : List Entry) (g : List Introduction) (begun : ℕ → Type 0) (w : Lowered) (n : ℕ) (node : Node)
    → Keeps es g begun w → slice_get basic_nodes n ≡ Some node
    → IsNoFrame node → IsPart w.nodes n
basic_part es g begun w n node i is plain = is_some_and (slice_get w.nodes n) IsNoFrame node (i.basic n node is) plain

pub integer_part : (es : List Entry) (g : List Introduction) (begun : ℕ → Type 0) (w : Lowered) (t : Integer)
    → Keeps es g begun w → IsPart w.nodes (integer_number t)
integer_part es g begun w (Signed Short) i = basic_part es g begun w 3 _ i refl tt
integer_part es g begun w (Unsigned Short) i = basic_part es g begun w 4 _ i refl tt
integer_part es g begun w (Signed Long) i = basic_part es g begun w 5 _ i refl tt
integer_part es g begun w (Unsigned Long) i = basic_part es g begun w 6 _ i refl tt
integer_part es g begun w (Signed LongLong) i = basic_part es g begun w 7 _ i refl tt
integer_part es g begun w (Unsigned LongLong) i = basic_part es g begun w 8 _ i refl tt

-- ---- bounds and sizes

at_most_of : (most : ℕ) (which : GraphLimit) (at : At) (n : ℕ) → Fine (λ k. k ≤ most) (at_most most which at n)
at_most_of most which at n =
    weaker (λ k. (k ≡ n) × (n ≤ most)) (λ k. k ≤ most) (at_most most which at n)
    (λ k h. let is = h.0 in let le = h.1 in omega (arith, is, le)) (at_most_fine most which at n)

bound_fine : (es : List Entry) (g : List Introduction) (scope : ℕ) (b : Bound)
    → AllSettled es g scope (bound_steps (Some b)) → Fine (λ n. n ≤ max_bound) (bound_of es scope b)
bound_fine es g scope b h =
    let (n, is, above) = size_known es g scope b.expr.value h.0 in
    given (λ n. n ≤ max_bound) (of_names (size_read es scope b.expr.value)) n
    (λ n. at_most max_bound BoundLimit (leaf_at (expr_start b.expr.value)) n) is
    (at_most_of max_bound BoundLimit (leaf_at (expr_start b.expr.value)) n)

bound_or_none_fine : (es : List Entry) (g : List Introduction) (scope : ℕ) (b : Option Bound)
    → AllSettled es g scope (bound_steps b)
    → Fine (λ n. n ≤ max_bound) (bound_or_none es scope b)
bound_or_none_fine es g scope None h = omega arith
bound_or_none_fine es g scope (Some b) h = bound_fine es g scope b h

abbrev IsSizeOf : ℕ → Type 0
IsSizeOf n = (0 < n) × (n ≤ max_size)

size_fine : (es : List Entry) (g : List Introduction) (scope : ℕ) (size : ConstExpr)
    → AllSettled es g scope (size_step size ∷ []) → Fine IsSizeOf (size_of es scope size)
size_fine es g scope size h =
    let (n, is, above) = size_known es g scope size.expr h.0 in
    given IsSizeOf (of_names (size_read es scope size.expr)) n
    (λ n. at_most max_size Size (leaf_at (expr_start size.expr)) n) is
    (weaker (λ k. (k ≡ n) × (n ≤ max_size)) IsSizeOf (at_most max_size Size (leaf_at (expr_start size.expr)) n)
    (λ k h. let same = h.0 in let le = h.1 in (omega (arith, same, above), omega (arith, same, le)))
    (at_most_fine max_size Size (leaf_at (expr_start size.expr)) n))

sizes_fine : (es : List Entry) (g : List Introduction) (scope : ℕ) (sizes : List ConstExpr)
    → AllSettled es g scope (map size_step sizes)
    → Fine (AllByRecursion IsSizeOf) (sizes_read es scope sizes)
sizes_fine es g scope [] h = tt
sizes_fine es g scope (size ∷ sizes) (h, hs) =
    and_then IsSizeOf (AllByRecursion IsSizeOf) (size_of es scope size) _ (size_fine es g scope size (h, tt)) (λ n is.
    and_then (AllByRecursion IsSizeOf) (AllByRecursion IsSizeOf) (sizes_read es scope sizes) (λ ns. Ok (n ∷ ns))
    (sizes_fine es g scope sizes hs) (λ ns are. (is, are)))

-- ---- types that declare nothing

pub const_keeps : (es : List Entry) (g : List Introduction) (begun : ℕ → Type 0) (w : Lowered) (scope : ℕ)
    (t : ConstType) → Keeps es g begun w
    → AllSettled es g scope (const_type_steps t) → Fine (Adds es g begun w) (const_type es w scope t)
const_keeps es g begun w scope (ConstTypes.Integer t) i h =
    still_fine es g begun w (integer_number t) i (integer_part es g begun w t i)
const_keeps es g begun w scope ConstTypes.Octet i h =
    still_fine es g begun w 0 i (basic_part es g begun w 0 _ i refl tt)
const_keeps es g begun w scope ConstTypes.Char i h = still_fine es g begun w 1 i (basic_part es g begun w 1 _ i refl tt)
const_keeps es g begun w scope ConstTypes.Boolean i h =
    still_fine es g begun w 2 i (basic_part es g begun w 2 _ i refl tt)
const_keeps es g begun w scope (ConstTypes.String None) i h =
    still_fine es g begun w 9 i (basic_part es g begun w 9 _ i refl tt)
const_keeps es g begun w scope (ConstTypes.String (Some bound)) i h =
    let at = leaf_at (expr_start bound.expr.value) in
    and_then (λ most. most ≤ max_bound) (Adds es g begun w) (bound_of es scope bound)
    (λ most. added_at w (Text most) at) (bound_fine es g scope bound h)
    (λ most le. added_fine es g begun w (Text most) [] (one_site at) i le (λ is. cc) tt refl)
const_keeps es g begun w scope (ConstTypes.Name name) i h =
    let (n, found, part) = finds_type es g begun w scope name i h.0 in
    given (Adds es g begun w) (type_found es w scope name) n (λ n. Ok (already w n)) found
    (still_fine es g begun w n i part)

pub param_keeps : (es : List Entry) (g : List Introduction) (begun : ℕ → Type 0) (w : Lowered) (scope : ℕ)
    (t : ParamType) → Keeps es g begun w
    → AllSettled es g scope (param_type_steps t) → Fine (Adds es g begun w) (param_type es w scope t)
param_keeps es g begun w scope (ParamTypes.Plain t) i h = const_keeps es g begun w scope t i h
param_keeps es g begun w scope ParamTypes.Object i h =
    still_fine es g begun w 13 i (basic_part es g begun w 13 _ i refl tt)

pub simple_keeps : (es : List Entry) (g : List Introduction) (begun : ℕ → Type 0) (w : Lowered) (scope : ℕ) (at : At)
    (t : SimpleType) → Keeps es g begun w
    → AllSettled es g scope (simple_type_steps t) → Fine (Adds es g begun w) (simple_type es w scope at t)
simple_keeps es g begun w scope at (Plain t) i h = param_keeps es g begun w scope t i h
simple_keeps es g begun w scope at (Sequence' shape element bound) i h =
    let parts = both es g scope (simple_type_steps element) (bound_steps bound)
    (closed (type_asks {ls = []} (Simple element))) h in
    and_then (Adds es g begun w) (Adds es g begun w) (simple_type es w scope at element) _
    (simple_keeps es g begun w scope at element i parts.0) (λ e a.
    and_then (λ most. most ≤ max_bound) (Adds es g begun w) (bound_or_none es scope bound)
    (λ most. added_at e.lowered (Seq e.number most) at)
    (bound_or_none_fine es (behind es g scope (simple_type_steps element)) scope bound parts.1) (λ most le.
    weaker (Adds es g begun e.lowered) (Adds es g begun w) (added_at e.lowered (Seq e.number most) at)
    (λ n b. adds_on es g begun w e n a b)
    (added_fine es g begun e.lowered (Seq e.number most) [] (one_site at) a.keeps (a.part, le) (λ is. cc) tt refl)))

bound_silent : (b : Option Bound) → AllByRecursion IsSilent (bound_steps b)
bound_silent None = tt
bound_silent (Some b) = (tt, tt)

pub const_silent : (t : ConstType) → AllByRecursion IsSilent (const_type_steps t)
const_silent (ConstTypes.Integer i) = tt
const_silent ConstTypes.Octet = tt
const_silent ConstTypes.Char = tt
const_silent ConstTypes.Boolean = tt
const_silent (ConstTypes.String b) = bound_silent b
const_silent (ConstTypes.Name name) = (tt, tt)

pub param_silent : (t : ParamType) → AllByRecursion IsSilent (param_type_steps t)
param_silent (ParamTypes.Plain t) = const_silent t
param_silent ParamTypes.Object = tt

pub simple_silent : (t : SimpleType) → AllByRecursion IsSilent (simple_type_steps t)
simple_silent (Plain t) = param_silent t
simple_silent (Sequence' shape element bound) =
    silent_append (simple_type_steps element) (bound_steps bound) (simple_silent element) (bound_silent bound)

-- ---- arrays

arrays_keep : (es : List Entry) (g : List Introduction) (begun : ℕ → Type 0) (w : Lowered) (element : Numbered)
    (at : At) (ns : List ℕ) → Adds es g begun w element
    → AllByRecursion IsSizeOf ns → Fine (Adds es g begun w) (arrays element at ns)
arrays_keep es g begun w element at [] a h = a
arrays_keep es g begun w element at (n ∷ ns) a (h, hs) =
    and_then (Adds es g begun w) (Adds es g begun w) (arrays element at ns)
    (λ inner. added_at inner.lowered (Array inner.number n) at)
    (arrays_keep es g begun w element at ns a hs) (λ inner b.
    weaker (Adds es g begun inner.lowered) (Adds es g begun w) (added_at inner.lowered (Array inner.number n) at)
    (λ m c. adds_on es g begun w inner m b c)
    (added_fine es g begun inner.lowered (Array inner.number n) [] (one_site at) b.keeps (b.part, h.0, h.1) (λ is. cc)
    tt refl))

-- the type of a declarator, whose sizes are settled where other things are known
pub array_keeps : (es : List Entry) (g more : List Introduction) (begun : ℕ → Type 0) (w : Lowered) (scope : ℕ)
    (element : Numbered) (d : Declarator) → Adds es g begun w element
    → AllSettled es more scope (map size_step d.sizes.items) → Fine (Adds es g begun w) (array_type es scope element d)
array_keeps es g more begun w scope element d a h =
    and_then (AllByRecursion IsSizeOf) (Adds es g begun w) (sizes_read es scope d.sizes.items)
    (λ ns. arrays element (declarator_at d) ns)
    (sizes_fine es more scope d.sizes.items h) (λ ns are. arrays_keep es g begun w element (declarator_at d) ns a are)

-- ---- enumerations

-- what is lowered behind a type
pub record Wrote (es : List Entry) (g : List Introduction) (begun : ℕ → Type 0) (w : Lowered) (n : Numbered) : Type 0
  where
    pub keeps : Keeps es g begun n.lowered
    pub later : Later w n.lowered
    pub part : IsPart n.lowered.nodes n.number

named_keeps : (es : List Entry) (g : List Introduction) (begun : ℕ → Type 0) (w : Lowered) (scope : ℕ) (e : EnumType)
    (n : ℕ) (names : List (List ℕ)) (at : At) (d : Entered es g scope e.identifier Kinds.Enum)
    → Keeps es g begun w → (0 < n) × (n ≤ max_enumerators)
    → Fine (Wrote es (Stands scope e.identifier Kinds.Enum ∷ g) begun w) (named_type w d.entry (Enum n) names at)
named_keeps es g begun w scope e n names at d i right =
    let wrote = Wrote es (Stands scope e.identifier Kinds.Enum ∷ g) begun w in
    and_then (Adds es g begun w) wrote (added w (Enum n) names (one_site at)) _
    (added_fine es g begun w (Enum n) names (one_site at) i right (λ is. cc) tt refl) (λ a adds.
    let (is, goes) = type_named es g begun a.lowered scope e.identifier Kinds.Enum a.number d adds.keeps refl adds.part
    in
    given wrote (placed a.lowered d.entry (Typed a.number))
    (with_placed a.lowered d.entry (Typed a.number) a.lowered.exceptions) (λ there. Ok (already there a.number)) is
    (record { keeps = goes.keeps; later = later_on w a.lowered _ adds.later goes.later; part = adds.part }))

pub enum_keeps : (es : List Entry) (g : List Introduction) (begun : ℕ → Type 0) (w : Lowered) (scope : ℕ) (e : EnumType)
    → Keeps es g begun w
    → AllSettled es g scope (enum_steps e)
    → Fine (Wrote es (behind es g scope (enum_steps e)) begun w) (enum_type es w scope e)
enum_keeps es g begun w scope e i (h, hs) =
    let wrote = Wrote es (behind es g scope (enum_steps e)) begun w in
    let d = entered es g scope e.identifier Kinds.Enum h.holds.entries.0 h.new in
    let count = length (parts e.enumerators.value) in
    let names = map word (parts e.enumerators.value) in
    let named = Stands scope e.identifier Kinds.Enum ∷ g in
    given wrote (entry_of es scope e.identifier) d.entry _ (entry_is es scope e.identifier d.entry d.is)
    (and_then (λ k. (k ≡ count) × (count ≤ max_enumerators)) wrote
    (at_most max_enumerators Enumerators (leaf_at e.identifier) count)
    (λ n. named_type w d.entry (Enum n) names (leaf_at e.identifier))
    (at_most_fine max_enumerators Enumerators (leaf_at e.identifier) count) (λ n le.
    let same = le.0 in
    let fits = le.1 in
    weaker (Wrote es named begun w) wrote (named_type w d.entry (Enum n) names (leaf_at e.identifier)) (λ m a.
    record {
      keeps = silent_keeps es named begun m.lowered scope (map DeclaresEnumerator (parts e.enumerators.value))
          (each_silent DeclaresEnumerator (λ l. tt) (parts e.enumerators.value)) hs a.keeps;
      later = a.later;
      part = a.part;
    })
    (named_keeps es g begun w scope e n names (leaf_at e.identifier) d i
    (omega (arith, same), omega (arith, same, fits)))))
