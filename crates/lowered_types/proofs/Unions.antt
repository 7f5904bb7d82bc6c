-- A union whose arms are right keeps the rules of nodes.
use Rattle.std.proofs.Common.{◌≡◌, ◌∙◌, ℕ, zero, suc, ◌/◌, ◌<◌, Bool, true, false, List, [], ◌∷◌, length, All, map, Option, Some, None, Result, Ok, Err, refl, sym, ap, subst, arith, ℤ, pos, negsuc, ◌+ℤ◌, ◌<ℤ◌, ◌≤ℤ◌, int_lt}
use Rattle.std.specs.Prelude.{if◌then◌else◌, int_le, nat_le, neg_ℤ, slice_get, IfSome}
use Rattle.std.specs.List.{AllByRecursion}
use Rattle.std.proofs.lemmas.Bool.{and_parts, leb-false, lt-ltb}
use Rattle.std.proofs.lemmas.Int.{ints}
use Rattle.std.proofs.lemmas.List.{length-map}
use Rattle.std.proofs.lemmas.List.Elements.{All-from_recursion, All-map, All-weaker}
use Rattle.std.proofs.lemmas.Option.{get_or_from_slice_get}
use Rattle.type_graph.specs.declared.node.Node.{Node}
use Rattle.type_graph.specs.declared.node.Node.TheVariants.{Integer, Octet, Char, Boolean, Enum, Text, Seq, Array, Struct, Union, Frame}
use Rattle.type_graph.specs.declared.values.Values.{Values}
use Rattle.type_graph.specs.declared.width.Width.{Width}
use Rattle.type_graph.specs.declared.width.Width.TheVariants.{One, Two, Four, Eight}
use Rattle.type_graph.specs.GraphRules.{HasOther, IsNode, IsPart, IsSwitch}
use Rattle.type_graph.specs.Labels.{AreRising, AreWithin}
use Rattle.type_graph.specs.Value.{IsBelow, IsNumber, node_at}
use Rattle.type_graph.specs.Words.{words_of}
use Rattle.type_graph.proofs.LabelLaws.{other_where_fewer}
use Rattle.lowered_types.specs.declared.arms.Arm.{Arm}
use Rattle.lowered_types.specs.declared.arms.DefaultArm.{DefaultArm}
use Rattle.lowered_types.specs.declared.fault.BuildFault.{BuildFault}
use Rattle.lowered_types.specs.declared.fault.BuildFault.TheVariants.{Types}
use Rattle.lowered_types.specs.declared.fault.TypeFault.TheVariants.{DefaultNeedless}
use Rattle.lowered_types.specs.declared.labels.Switch.{Switch}
use Rattle.lowered_types.specs.Labels.{Arms, is_value, signed_values, values_below, values_of}
use Rattle.lowered_types.specs.Types.{default_number, default_test, numbered_arm}
use Rattle.lowered_types.proofs.RisingArms.{AreArms, Rise}
use Rattle.lowered_types.proofs.Fine.{Fine}
use Rattle.lowered_types.proofs.Growing.{Grows, stays}
use Rattle.lowered_types.proofs.Spots.{is_some_and}

-- the values of the discriminator are those of its node
abbrev pub IsSwitchIn : List Node → Switch → Type 0
IsSwitchIn graph s = values_of (slice_get graph s.number) ≡ Some s.values

has_values : (o : Option Node) (values : Values) → values_of o ≡ Some values
    → (node : Node) × (o ≡ Some node) × IsSwitch node × (values_of (Some node) ≡ Some values)
has_values None values is = absurd cc
has_values (Some (Integer width true)) values is = (Integer width true, refl, tt, is)
has_values (Some (Integer width false)) values is = (Integer width false, refl, tt, is)
has_values (Some Octet) values is = absurd cc
has_values (Some Char) values is = (Char, refl, tt, is)
has_values (Some Boolean) values is = (Boolean, refl, tt, is)
has_values (Some (Enum n)) values is = (Enum n, refl, tt, is)
has_values (Some (Text bound)) values is = absurd cc
has_values (Some (Seq elem bound)) values is = absurd cc
has_values (Some (Array elem n)) values is = absurd cc
has_values (Some (Struct members)) values is = absurd cc
has_values (Some (Union switch arms default)) values is = absurd cc
has_values (Some (Frame members)) values is = absurd cc

pub switch_stays : (graph later : List Node) → Grows graph later → (s : Switch) → IsSwitchIn graph s
    → IsSwitchIn later s
switch_stays graph later grows s is =
    let (node, there, switches, values) = has_values (slice_get graph s.number) s.values is in
    ap values_of (stays graph later grows s.number node there (λ same. subst IsSwitch same switches)) ∙ values

-- ---- the values of a node lie between bounds

within_signed : (w : Width) (n : ℤ) → neg_ℤ (pos (words_of w / 2)) ≤ℤ n → n <ℤ pos (words_of w / 2)
    → IsNumber (Integer w true) n
within_signed One (pos n) low high = omega (arith, ints, high)
within_signed One (negsuc n) low high = omega (arith, ints, low)
within_signed Two (pos n) low high = omega (arith, ints, high)
within_signed Two (negsuc n) low high = omega (arith, ints, low)
within_signed Four (pos n) low high = omega (arith, ints, high)
within_signed Four (negsuc n) low high = omega (arith, ints, low)
within_signed Eight (pos n) low high = omega (arith, ints, high)
within_signed Eight (negsuc n) low high = omega (arith, ints, low)

signed_wide : (w : Width) → pos (words_of w / 2) ≡ neg_ℤ (pos (words_of w / 2)) +ℤ pos (words_of w)
signed_wide One = refl
signed_wide Two = refl
signed_wide Four = refl
signed_wide Eight = refl

within_below : (limit : ℕ) (n : ℤ) → pos 0 ≤ℤ n → n <ℤ pos limit → IsBelow limit n
within_below limit (pos n) low high = omega (arith, ints, high)
within_below limit (negsuc n) low high = absurd (omega (arith, ints, low))

-- so many numbers from the least up to the end, each a value of the node
record AreBetween (node : Node) (values : Values) : Type 0 where
  wide : values.end ≡ values.least +ℤ pos values.count
  each : (n : ℤ) → values.least ≤ℤ n → n <ℤ values.end → IsNumber node n

between : (node : Node) (values : Values) → values_of (Some node) ≡ Some values → AreBetween node values
between (Integer w true) values is =
    let same : signed_values (words_of w) ≡ values = cc in
    subst (AreBetween (Integer w true)) same
    (record { wide = signed_wide w; each = λ n low high. within_signed w n low high })
between (Integer w false) values is =
    let same : values_below (words_of w) ≡ values = cc in
    subst (AreBetween (Integer w false)) same
    (record { wide = omega (arith, ints); each = λ n low high. within_below (words_of w) n low high })
between Octet values is = absurd cc
between Char values is =
    let same : values_below 256 ≡ values = cc in
    subst (AreBetween Char) same (record { wide = refl; each = λ n low high. within_below 256 n low high })
between Boolean values is =
    let same : values_below 2 ≡ values = cc in
    subst (AreBetween Boolean) same (record { wide = refl; each = λ n low high. within_below 2 n low high })
between (Enum k) values is =
    let same : values_below k ≡ values = cc in
    subst (AreBetween (Enum k)) same
    (record { wide = omega (arith, ints); each = λ n low high. within_below k n low high })
between (Text bound) values is = absurd cc
between (Seq elem bound) values is = absurd cc
between (Array elem n) values is = absurd cc
between (Struct members) values is = absurd cc
between (Union switch arms default) values is = absurd cc
between (Frame members) values is = absurd cc

-- ---- arms as the node has them

less_than : (a b : ℤ) → int_lt a b ≡ true → a <ℤ b
less_than a b h = grind (arith, ints)

at_most_that : (a b : ℤ) → int_le a b ≡ true → a ≤ℤ b
at_most_that a b h = grind (arith, ints)

rising : (arms : List Arm) → Rise arms → AreRising (map numbered_arm arms)
rising [] h place lt = absurd (omega (arith, lt))
rising (arm ∷ []) h place lt = absurd (omega (arith, lt))
rising (arm ∷ next ∷ arms) (first, rest) zero lt = less_than arm.label next.label first.0
rising (arm ∷ next ∷ arms) (first, rest) (suc place) lt = rising (next ∷ arms) rest place (omega (arith, lt))

abbrev IsArmOf : List Node → Values → Arm → Type 0
IsArmOf graph values arm = IsPart graph arm.number × (is_value values arm.label ≡ true)

within : (graph : List Node) (values : Values) (arms : List Arm) → AllByRecursion (IsArmOf graph values) arms
    → AreWithin values.least values.end (map numbered_arm arms)
within graph values arms h =
    All-map (λ (arm : ℤ × ℕ). (values.least ≤ℤ arm.0) × (arm.0 <ℤ values.end)) numbered_arm arms
    (All-from_recursion (λ (arm : Arm). (values.least ≤ℤ arm.label) × (arm.label <ℤ values.end)) arms (all arms h))
  where
    all : (arms : List Arm) → AllByRecursion (IsArmOf graph values) arms
        → AllByRecursion (λ (arm : Arm). (values.least ≤ℤ arm.label) × (arm.label <ℤ values.end)) arms
    all [] hs = tt
    all (arm ∷ arms) (h, hs) =
        let bounds = and_parts (int_le values.least arm.label) (int_lt arm.label values.end) h.1 in
        ((at_most_that values.least arm.label bounds.0, less_than arm.label values.end bounds.1), all arms hs)

parts_in : (graph : List Node) (values : Values) (arms : List Arm) → AllByRecursion (IsArmOf graph values) arms
    → All (λ arm. IsPart graph arm.1) (map numbered_arm arms)
parts_in graph values arms h =
    All-map (λ (arm : ℤ × ℕ). IsPart graph arm.1) numbered_arm arms
    (All-from_recursion (λ (arm : Arm). IsPart graph arm.number) arms (all arms h))
  where
    all : (arms : List Arm) → AllByRecursion (IsArmOf graph values) arms
        → AllByRecursion (λ (arm : Arm). IsPart graph arm.number) arms
    all [] hs = tt
    all (arm ∷ arms) (h, hs) = (h.0, all arms hs)

-- a default stands only where the labels aren't all of the values
abbrev pub IsNeeded : Switch → ℕ → Option DefaultArm → Type 0
IsNeeded s count None = Unit {0}
IsNeeded s count (Some d) = count < s.values.count

pub default_fine : (s : Switch) (count : ℕ) (default : Option DefaultArm)
    → Fine (λ u. IsNeeded s count default) (default_test s count default)
default_fine s count None = tt
default_fine s count (Some d) = by (nat_le s.values.count count) refl
  where
    by : (b : Bool) → nat_le s.values.count count ≡ b
        → (let r : Result (Unit {0}) BuildFault = if b then Err (Types (DefaultNeedless d.keyword)) else Ok tt in
        Fine (λ u. count < s.values.count) r)
    by true all = tt
    by false fewer = let lt = leb-false s.values.count count fewer in omega (arith, lt)

pub union_right : (graph : List Node) (s : Switch) (a : Arms) → IsSwitchIn graph s → AreArms graph s a
    → IsNeeded s (length a.arms) a.default
    → IsNode graph (Union s.number (map numbered_arm a.arms) (default_number a.default))
union_right graph s a switch h needed =
    let (node, there, switches, values) = has_values (slice_get graph s.number) s.values switch in
    let bounds = between node s.values values in
    let same : node_at graph s.number ≡ node = get_or_from_slice_get graph s.number node Octet there in
    let arms = map numbered_arm a.arms in
    let between = within graph s.values a.arms h.each in
    let long = length-map a.arms numbered_arm in
    let fits = h.limited in
    record {
      switches = is_some_and (slice_get graph s.number) IsSwitch node there switches;
      limited = omega (arith, long, fits);
      rising = rising a.arms h.rise;
      labels = subst (λ k. All (λ arm. IsNumber k arm.0) (map numbered_arm a.arms)) (sym same)
          (All-weaker (λ (arm : ℤ × ℕ). (s.values.least ≤ℤ arm.0) × (arm.0 <ℤ s.values.end))
          (λ (arm : ℤ × ℕ). IsNumber node arm.0) (λ arm is. bounds.each arm.0 is.0 is.1) arms between);
      parts = parts_in graph s.values a.arms h.each;
      default_part = default_there a.default h.default;
      needed = subst (λ k. IfSome (default_number a.default) (λ member. HasOther k (map numbered_arm a.arms)))
          (sym same) (other node bounds a.default needed);
    }
  where
    default_there : (o : Option DefaultArm) → IfSome o (λ d. IsPart graph d.number)
        → IfSome (default_number o) (IsPart graph)
    default_there None h = tt
    default_there (Some d) h = h

    other : (node : Node) → AreBetween node s.values → (o : Option DefaultArm) → IsNeeded s (length a.arms) o
        → IfSome (default_number o) (λ member. HasOther node (map numbered_arm a.arms))
    other node bounds None h = tt
    other node bounds (Some d) fewer =
        let long = length-map a.arms numbered_arm in
        let less : length (map numbered_arm a.arms) < s.values.count = omega (arith, long, fewer) in
        let found = (other_where_fewer s.values.least s.values.end s.values.count (map numbered_arm a.arms) bounds.wide
        (within graph s.values a.arms h.each) (rising a.arms h.rise)).0
        (lt-ltb (length (map numbered_arm a.arms)) s.values.count less) in
        record {
          other = found.other;
          is_value = bounds.each found.other found.from found.below;
          no_label =
              found.no_label;
        }
