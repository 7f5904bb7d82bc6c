-- What is spelled at the front of octets is one discriminator alone.
use Rattle.std.proofs.Common.{◌≡◌, ℕ, ◌<◌, Bool, refl, arith}
use Rattle.type_graph.specs.declared.width.Width.{Width}
use Rattle.marshal_program.specs.declared.instr.Disc.{Disc}
use Rattle.marshal_program.specs.declared.instr.Disc.TheVariants.{Char, Boolean, Word, Enum}
use Rattle.table_file.specs.Octets.{spelled_word, spelled_flag, spelled_pair}
use Rattle.table_file.specs.Spelling.{spelled_width, tagged_disc, spelled_disc}
use Rattle.table_file.specs.inner.Codes.{IsCode, pair_code, word_code, flag_code, width_code}
use Rattle.table_file.specs.inner.Variants.{IsKind, one_kind, nothing, one_nothing, tagged_code}

char_only : (a : Disc) → (tagged_disc a).0 ≡ 0 → (x : Unit {0}) × (a ≡ Char)
char_only Char e = (tt, refl)
char_only a e = absurd (omega arith)

pub is_char : IsKind tagged_disc 0 nothing (λ (x : Unit {0}). Char)
is_char = record { says = λ x. refl; only = char_only }

boolean_only : (a : Disc) → (tagged_disc a).0 ≡ 1 → (x : Unit {0}) × (a ≡ Boolean)
boolean_only Boolean e = (tt, refl)
boolean_only a e = absurd (omega arith)

pub is_boolean : IsKind tagged_disc 1 nothing (λ (x : Unit {0}). Boolean)
is_boolean = record { says = λ x. refl; only = boolean_only }

word_only : (a : Disc) → (tagged_disc a).0 ≡ 2 → (x : Width × Bool) × (a ≡ Word x.0 x.1)
word_only (Word width signed) e = ((width, signed), refl)
word_only a e = absurd (omega arith)

pub is_word : IsKind tagged_disc 2 (spelled_pair spelled_width spelled_flag) (λ (x : Width × Bool). Word x.0 x.1)
is_word = record { says = λ x. refl; only = word_only }

enum_only : (a : Disc) → (tagged_disc a).0 ≡ 3 → (x : ℕ) × (a ≡ Enum x)
enum_only (Enum n) e = (n, refl)
enum_only a e = absurd (omega arith)

pub is_enum : IsKind tagged_disc 3 spelled_word (λ (x : ℕ). Enum x)
is_enum = record { says = λ x. refl; only = enum_only }

-- there are no more
pub disc_few : (a : Disc) → (tagged_disc a).0 < 4
disc_few a = grind arith

pub disc_code : IsCode spelled_disc
disc_code = tagged_code tagged_disc (elim [
  | Char ↦ one_kind is_char one_nothing tt
  | Boolean ↦ one_kind is_boolean one_nothing tt
  | Word width signed ↦ one_kind is_word (pair_code spelled_width spelled_flag width_code flag_code).one (width, signed)
  | Enum n ↦ one_kind is_enum word_code.one n
])
