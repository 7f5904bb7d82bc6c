-- What is spelled at the front of octets is one number, or none, alone.
use Rattle.std.proofs.Common.{◌≡◌, ℕ, ◌<◌, Option, Some, None, refl, arith}
use Rattle.table_file.specs.Octets.{spelled_word, tagged_maybe, spelled_maybe}
use Rattle.table_file.specs.inner.Codes.{IsCode, word_code}
use Rattle.table_file.specs.inner.Variants.{IsKind, one_kind, nothing, one_nothing, tagged_code}

none_only : (a : Option ℕ) → (tagged_maybe a).0 ≡ 0 → (x : Unit {0}) × (a ≡ None)
none_only None e = (tt, refl)
none_only a e = absurd (omega arith)

pub is_none : IsKind tagged_maybe 0 nothing (λ (x : Unit {0}). None)
is_none = record { says = λ x. refl; only = none_only }

some_only : (a : Option ℕ) → (tagged_maybe a).0 ≡ 1 → (x : ℕ) × (a ≡ Some x)
some_only (Some n) e = (n, refl)
some_only a e = absurd (omega arith)

pub is_some : IsKind tagged_maybe 1 spelled_word (λ (x : ℕ). Some x)
is_some = record { says = λ x. refl; only = some_only }

-- there are no more
pub maybe_few : (a : Option ℕ) → (tagged_maybe a).0 < 2
maybe_few a = grind arith

pub maybe_code : IsCode spelled_maybe
maybe_code = tagged_code tagged_maybe (elim [
  | None ↦ one_kind is_none one_nothing tt
  | Some n ↦ one_kind is_some word_code.one n
])
