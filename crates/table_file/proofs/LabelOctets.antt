-- The octets of labels.
use Rattle.std.proofs.Common.{◌≡◌, ℕ, ◌<◌, ◌+◌, ◌*◌, ◌-◌, ◌^◌, ℤ, pos, negsuc, List, ◌++◌, Some, ap, ap₂, ◌∙◌, arith}
use Rattle.std.proofs.lemmas.Bool.{lt-ltb}
use Rattle.std.specs.Bool.{then_some}
use Rattle.std.specs.Int.{w128, to_be_bytes, cast_unsigned, bytes_high_first}
use Rattle.type_graph.specs.declared.width.Order.TheVariants.{Big}
use Rattle.type_graph.specs.Words.{octets_of, plain_octets, twos_complement}
use Rattle.type_graph.specs.Value.{IsSignedIn}
use Rattle.table_file.specs.Octets.{spelled_label}
use Rattle.table_file.specs.inner.LabelCode.{halves}

-- a number that 16 octets say
pub label_is : (z : ℤ) → IsSignedIn 16 z → spelled_label z ≡ Some (octets_of Big 16 z)
label_is (pos n) h = ap (λ b. then_some b (octets_of Big 16 (pos n))) (lt-ltb n (2 ^ 127) h)
label_is (negsuc n) h = ap (λ b. then_some b (octets_of Big 16 (negsuc n))) (lt-ltb n (2 ^ 127) h)

-- as they are written
pub label_octets : (z : ℤ) → IsSignedIn 16 z → spelled_label z ≡ Some (to_be_bytes w128 (cast_unsigned w128 z))
label_octets (pos n) h = label_is (pos n) h
label_octets (negsuc n) h =
    let same : 2 ^ 128 - 1 - n ≡ cast_unsigned w128 (negsuc n) = omega arith in
    label_is (negsuc n) h ∙ ap (λ m. Some (bytes_high_first 16 m)) same

-- as they are read in two halves
pub label_halves : (z : ℤ) (high low : ℕ) (front back octets : List ℕ) → IsSignedIn 16 z
    → twos_complement 16 z ≡ high * 2 ^ 64 + low → high < 2 ^ 64 → low < 2 ^ 64
    → plain_octets Big 8 high ≡ front → plain_octets Big 8 low ≡ back → front ++ back ≡ octets
    → spelled_label z ≡ Some octets
label_halves z high low front back octets sized pattern h l f b all =
    label_is z sized ∙ ap (λ m. Some (bytes_high_first 16 m)) pattern
    ∙ ap Some (halves high low h l ∙ ap₂ (λ x y. x ++ y) f b ∙ all)
