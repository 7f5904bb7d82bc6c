-- What is spelled at the front of octets is one instruction alone.
use Rattle.std.proofs.Common.{◌≡◌, ℕ, ℤ, ◌<◌, List, Option, refl, arith}
use Rattle.type_graph.specs.declared.width.Width.{Width}
use Rattle.marshal_program.specs.declared.instr.Disc.{Disc}
use Rattle.marshal_program.specs.declared.instr.Instr.{Instr}
use Rattle.marshal_program.specs.declared.instr.Instr.TheVariants.{Align, Octets, Words, Bools, EnumWord, Text, SeqOctets}
use Rattle.marshal_program.specs.declared.instr.Instr.TheVariants.{SeqBools, SeqWords, SeqOf, Times, Call, Switch}
use Rattle.table_file.specs.Octets.{spelled_word, spelled_maybe, spelled_list, spelled_pair}
use Rattle.table_file.specs.Spelling.{spelled_width, spelled_arm, spelled_disc, tagged_instr, spelled_instr}
use Rattle.table_file.specs.inner.Codes.{IsCode, pair_code, word_code, width_code}
use Rattle.table_file.specs.inner.MaybeCode.{maybe_code}
use Rattle.table_file.specs.inner.ListCodes.{list_code}
use Rattle.table_file.specs.inner.LabelCode.{arm_code}
use Rattle.table_file.specs.inner.DiscCode.{disc_code}
use Rattle.table_file.specs.inner.Variants.{IsKind, one_kind, tagged_code}

align_only : (a : Instr) → (tagged_instr a).0 ≡ 0 → (x : Width) × (a ≡ Align x)
align_only (Align to) e = (to, refl)
align_only a e = absurd (omega arith)

pub is_align : IsKind tagged_instr 0 spelled_width (λ (x : Width). Align x)
is_align = record { says = λ x. refl; only = align_only }

octets_only : (a : Instr) → (tagged_instr a).0 ≡ 1 → (x : ℕ) × (a ≡ Octets x)
octets_only (Octets n) e = (n, refl)
octets_only a e = absurd (omega arith)

pub is_octets : IsKind tagged_instr 1 spelled_word (λ (x : ℕ). Octets x)
is_octets = record { says = λ x. refl; only = octets_only }

words_only : (a : Instr) → (tagged_instr a).0 ≡ 2 → (x : Width × ℕ) × (a ≡ Words x.0 x.1)
words_only (Words width n) e = ((width, n), refl)
words_only a e = absurd (omega arith)

pub is_words : IsKind tagged_instr 2 (spelled_pair spelled_width spelled_word) (λ (x : Width × ℕ). Words x.0 x.1)
is_words = record { says = λ x. refl; only = words_only }

bools_only : (a : Instr) → (tagged_instr a).0 ≡ 3 → (x : ℕ) × (a ≡ Bools x)
bools_only (Bools n) e = (n, refl)
bools_only a e = absurd (omega arith)

pub is_bools : IsKind tagged_instr 3 spelled_word (λ (x : ℕ). Bools x)
is_bools = record { says = λ x. refl; only = bools_only }

enum_word_only : (a : Instr) → (tagged_instr a).0 ≡ 4 → (x : ℕ) × (a ≡ EnumWord x)
enum_word_only (EnumWord limit) e = (limit, refl)
enum_word_only a e = absurd (omega arith)

pub is_enum_word : IsKind tagged_instr 4 spelled_word (λ (x : ℕ). EnumWord x)
is_enum_word = record { says = λ x. refl; only = enum_word_only }

text_only : (a : Instr) → (tagged_instr a).0 ≡ 5 → (x : ℕ) × (a ≡ Text x)
text_only (Text bound) e = (bound, refl)
text_only a e = absurd (omega arith)

pub is_text : IsKind tagged_instr 5 spelled_word (λ (x : ℕ). Text x)
is_text = record { says = λ x. refl; only = text_only }

seq_octets_only : (a : Instr) → (tagged_instr a).0 ≡ 6 → (x : ℕ) × (a ≡ SeqOctets x)
seq_octets_only (SeqOctets bound) e = (bound, refl)
seq_octets_only a e = absurd (omega arith)

pub is_seq_octets : IsKind tagged_instr 6 spelled_word (λ (x : ℕ). SeqOctets x)
is_seq_octets = record { says = λ x. refl; only = seq_octets_only }

seq_bools_only : (a : Instr) → (tagged_instr a).0 ≡ 7 → (x : ℕ) × (a ≡ SeqBools x)
seq_bools_only (SeqBools bound) e = (bound, refl)
seq_bools_only a e = absurd (omega arith)

pub is_seq_bools : IsKind tagged_instr 7 spelled_word (λ (x : ℕ). SeqBools x)
is_seq_bools = record { says = λ x. refl; only = seq_bools_only }

seq_words_only : (a : Instr) → (tagged_instr a).0 ≡ 8 → (x : Width × (Width × ℕ)) × (a ≡ SeqWords x.0 x.1.0 x.1.1)
seq_words_only (SeqWords width first bound) e = ((width, (first, bound)), refl)
seq_words_only a e = absurd (omega arith)

pub is_seq_words : IsKind tagged_instr 8 (spelled_pair spelled_width (spelled_pair spelled_width spelled_word))
    (λ (x : Width × (Width × ℕ)). SeqWords x.0 x.1.0 x.1.1)
is_seq_words = record { says = λ x. refl; only = seq_words_only }

seq_of_only : (a : Instr) → (tagged_instr a).0 ≡ 9 → (x : ℕ × (Width × ℕ)) × (a ≡ SeqOf x.0 x.1.0 x.1.1)
seq_of_only (SeqOf bound first routine) e = ((bound, (first, routine)), refl)
seq_of_only a e = absurd (omega arith)

pub is_seq_of : IsKind tagged_instr 9 (spelled_pair spelled_word (spelled_pair spelled_width spelled_word))
    (λ (x : ℕ × (Width × ℕ)). SeqOf x.0 x.1.0 x.1.1)
is_seq_of = record { says = λ x. refl; only = seq_of_only }

times_only : (a : Instr) → (tagged_instr a).0 ≡ 10 → (x : ℕ × ℕ) × (a ≡ Times x.0 x.1)
times_only (Times n routine) e = ((n, routine), refl)
times_only a e = absurd (omega arith)

pub is_times : IsKind tagged_instr 10 (spelled_pair spelled_word spelled_word) (λ (x : ℕ × ℕ). Times x.0 x.1)
is_times = record { says = λ x. refl; only = times_only }

call_only : (a : Instr) → (tagged_instr a).0 ≡ 11 → (x : ℕ) × (a ≡ Call x)
call_only (Call routine) e = (routine, refl)
call_only a e = absurd (omega arith)

pub is_call : IsKind tagged_instr 11 spelled_word (λ (x : ℕ). Call x)
is_call = record { says = λ x. refl; only = call_only }

switch_only : (a : Instr) → (tagged_instr a).0 ≡ 12
    → (x : Disc × (List (ℤ × ℕ) × Option ℕ)) × (a ≡ Switch x.0 x.1.0 x.1.1)
switch_only (Switch disc arms otherwise) e = ((disc, (arms, otherwise)), refl)
switch_only a e = absurd (omega arith)

pub is_switch : IsKind tagged_instr 12
    (spelled_pair spelled_disc (spelled_pair (spelled_list spelled_arm) spelled_maybe))
    (λ (x : Disc × (List (ℤ × ℕ) × Option ℕ)). Switch x.0 x.1.0 x.1.1)
is_switch = record { says = λ x. refl; only = switch_only }

-- there are no more
pub instr_few : (a : Instr) → (tagged_instr a).0 < 13
instr_few a = grind arith

pub instr_code : IsCode spelled_instr
instr_code = tagged_code tagged_instr (elim [
  | Align to ↦ one_kind is_align width_code.one to
  | Octets n ↦ one_kind is_octets word_code.one n
  | Words width n ↦ one_kind is_words (pair_code spelled_width spelled_word width_code word_code).one (width, n)
  | Bools n ↦ one_kind is_bools word_code.one n
  | EnumWord limit ↦ one_kind is_enum_word word_code.one limit
  | Text bound ↦ one_kind is_text word_code.one bound
  | SeqOctets bound ↦ one_kind is_seq_octets word_code.one bound
  | SeqBools bound ↦ one_kind is_seq_bools word_code.one bound
  | SeqWords width first bound ↦
      one_kind is_seq_words
      (pair_code spelled_width (spelled_pair spelled_width spelled_word)
      width_code (pair_code spelled_width spelled_word width_code word_code)).one (width, (first, bound))
  | SeqOf bound first routine ↦
      one_kind is_seq_of
      (pair_code spelled_word (spelled_pair spelled_width spelled_word)
      word_code (pair_code spelled_width spelled_word width_code word_code)).one (bound, (first, routine))
  | Times n routine ↦ one_kind is_times (pair_code spelled_word spelled_word word_code word_code).one (n, routine)
  | Call routine ↦ one_kind is_call word_code.one routine
  | Switch disc arms otherwise ↦
      one_kind is_switch
      (pair_code spelled_disc (spelled_pair (spelled_list spelled_arm) spelled_maybe)
      disc_code (pair_code (spelled_list spelled_arm) spelled_maybe (list_code spelled_arm arm_code) maybe_code)).one
      (disc, (arms, otherwise))
])
