-- What is spelled at the front of octets is one node alone.
use Rattle.std.proofs.Common.{◌≡◌, ℕ, ℤ, ◌<◌, Bool, List, Option, refl, arith}
use Rattle.type_graph.specs.declared.width.Width.{Width}
use Rattle.type_graph.specs.declared.node.Node.{Node}
use Rattle.type_graph.specs.declared.node.Node.TheVariants.{Integer, Octet, Char, Boolean, Enum, Text, Seq, Array, Struct, Union, Frame}
use Rattle.table_file.specs.Octets.{spelled_word, spelled_flag, spelled_maybe, spelled_list, spelled_pair}
use Rattle.table_file.specs.Spelling.{spelled_width, spelled_arm, tagged_node, spelled_node}
use Rattle.table_file.specs.inner.Codes.{IsCode, pair_code, word_code, flag_code, width_code}
use Rattle.table_file.specs.inner.MaybeCode.{maybe_code}
use Rattle.table_file.specs.inner.ListCodes.{list_code}
use Rattle.table_file.specs.inner.LabelCode.{arm_code}
use Rattle.table_file.specs.inner.Variants.{IsKind, one_kind, nothing, one_nothing, tagged_code}

whole_only : (a : Node) → (tagged_node a).0 ≡ 0 → (x : Width × Bool) × (a ≡ Integer x.0 x.1)
whole_only (Integer width signed) e = ((width, signed), refl)
whole_only a e = absurd (omega arith)

pub is_whole : IsKind tagged_node 0 (spelled_pair spelled_width spelled_flag) (λ (x : Width × Bool). Integer x.0 x.1)
is_whole = record { says = λ x. refl; only = whole_only }

octet_only : (a : Node) → (tagged_node a).0 ≡ 1 → (x : Unit {0}) × (a ≡ Octet)
octet_only Octet e = (tt, refl)
octet_only a e = absurd (omega arith)

pub is_octet : IsKind tagged_node 1 nothing (λ (x : Unit {0}). Octet)
is_octet = record { says = λ x. refl; only = octet_only }

char_only : (a : Node) → (tagged_node a).0 ≡ 2 → (x : Unit {0}) × (a ≡ Char)
char_only Char e = (tt, refl)
char_only a e = absurd (omega arith)

pub is_char : IsKind tagged_node 2 nothing (λ (x : Unit {0}). Char)
is_char = record { says = λ x. refl; only = char_only }

boolean_only : (a : Node) → (tagged_node a).0 ≡ 3 → (x : Unit {0}) × (a ≡ Boolean)
boolean_only Boolean e = (tt, refl)
boolean_only a e = absurd (omega arith)

pub is_boolean : IsKind tagged_node 3 nothing (λ (x : Unit {0}). Boolean)
is_boolean = record { says = λ x. refl; only = boolean_only }

enum_only : (a : Node) → (tagged_node a).0 ≡ 4 → (x : ℕ) × (a ≡ Enum x)
enum_only (Enum n) e = (n, refl)
enum_only a e = absurd (omega arith)

pub is_enum : IsKind tagged_node 4 spelled_word (λ (x : ℕ). Enum x)
is_enum = record { says = λ x. refl; only = enum_only }

text_only : (a : Node) → (tagged_node a).0 ≡ 5 → (x : ℕ) × (a ≡ Text x)
text_only (Text bound) e = (bound, refl)
text_only a e = absurd (omega arith)

pub is_text : IsKind tagged_node 5 spelled_word (λ (x : ℕ). Text x)
is_text = record { says = λ x. refl; only = text_only }

seq_only : (a : Node) → (tagged_node a).0 ≡ 6 → (x : ℕ × ℕ) × (a ≡ Seq x.0 x.1)
seq_only (Seq elem bound) e = ((elem, bound), refl)
seq_only a e = absurd (omega arith)

pub is_seq : IsKind tagged_node 6 (spelled_pair spelled_word spelled_word) (λ (x : ℕ × ℕ). Seq x.0 x.1)
is_seq = record { says = λ x. refl; only = seq_only }

array_only : (a : Node) → (tagged_node a).0 ≡ 7 → (x : ℕ × ℕ) × (a ≡ Array x.0 x.1)
array_only (Array elem n) e = ((elem, n), refl)
array_only a e = absurd (omega arith)

pub is_array : IsKind tagged_node 7 (spelled_pair spelled_word spelled_word) (λ (x : ℕ × ℕ). Array x.0 x.1)
is_array = record { says = λ x. refl; only = array_only }

struct_only : (a : Node) → (tagged_node a).0 ≡ 8 → (x : List ℕ) × (a ≡ Struct x)
struct_only (Struct members) e = (members, refl)
struct_only a e = absurd (omega arith)

pub is_struct : IsKind tagged_node 8 (spelled_list spelled_word) (λ (x : List ℕ). Struct x)
is_struct = record { says = λ x. refl; only = struct_only }

union_only : (a : Node) → (tagged_node a).0 ≡ 9 → (x : ℕ × (List (ℤ × ℕ) × Option ℕ)) × (a ≡ Union x.0 x.1.0 x.1.1)
union_only (Union switch arms default) e = ((switch, (arms, default)), refl)
union_only a e = absurd (omega arith)

pub is_union : IsKind tagged_node 9 (spelled_pair spelled_word (spelled_pair (spelled_list spelled_arm) spelled_maybe))
    (λ (x : ℕ × (List (ℤ × ℕ) × Option ℕ)). Union x.0 x.1.0 x.1.1)
is_union = record { says = λ x. refl; only = union_only }

frame_only : (a : Node) → (tagged_node a).0 ≡ 10 → (x : List ℕ) × (a ≡ Frame x)
frame_only (Frame members) e = (members, refl)
frame_only a e = absurd (omega arith)

pub is_frame : IsKind tagged_node 10 (spelled_list spelled_word) (λ (x : List ℕ). Frame x)
is_frame = record { says = λ x. refl; only = frame_only }

-- there are no more
pub node_few : (a : Node) → (tagged_node a).0 < 11
node_few a = grind arith

pub node_code : IsCode spelled_node
node_code = tagged_code tagged_node (elim [
  | Integer width signed ↦
      one_kind is_whole
      (pair_code spelled_width spelled_flag width_code flag_code).one (width, signed)
  | Octet ↦ one_kind is_octet one_nothing tt
  | Char ↦ one_kind is_char one_nothing tt
  | Boolean ↦ one_kind is_boolean one_nothing tt
  | Enum n ↦ one_kind is_enum word_code.one n
  | Text bound ↦ one_kind is_text word_code.one bound
  | Seq elem bound ↦ one_kind is_seq (pair_code spelled_word spelled_word word_code word_code).one (elem, bound)
  | Array elem n ↦ one_kind is_array (pair_code spelled_word spelled_word word_code word_code).one (elem, n)
  | Struct members ↦ one_kind is_struct (list_code spelled_word word_code).one members
  | Union switch arms default ↦
      one_kind is_union
      (pair_code spelled_word (spelled_pair (spelled_list spelled_arm) spelled_maybe)
      word_code (pair_code (spelled_list spelled_arm) spelled_maybe (list_code spelled_arm arm_code) maybe_code)).one
      (switch, (arms, default))
  | Frame members ↦ one_kind is_frame (list_code spelled_word word_code).one members
])
