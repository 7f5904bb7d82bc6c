-- Why none are made, from why a part of them isn't.
use Rattle.std.proofs.Common.{◌≡◌, ℕ, ◌+◌, ◌<◌, List, ◌++◌, length, length-append, replicate, Option, refl, ap, ◌∙◌, arith}
use Rattle.std.proofs.lemmas.List.{length-replicate}
use Rattle.type_graph.specs.declared.width.Order.{Order}
use Rattle.giop_messages.specs.Heads.{max_size}
use Rattle.giop_messages.specs.declared.fault.GiopFault.{GiopFault}
use Rattle.giop_messages.specs.declared.fault.GiopFault.TheVariants as faults
use Rattle.giop_messages.specs.Faults.{IsMemoryOr}
use Rattle.giop_messages.specs.Written.{Given, IsBody, head_octets}
use Rattle.giop.specs.Made.{IsHeader, IsLong, IsNotMade}
use Rattle.giop.proofs.MadeFacts.{length_made}

pub memory_or : (wanted fault : GiopFault) (P Q : Type 0) → (P → Q) → IsMemoryOr wanted fault P
    → IsMemoryOr wanted fault Q
memory_or wanted faults.NoMemory P Q f h = tt
memory_or wanted faults.NotGiop P Q f h = (h.0, f h.1)
memory_or wanted faults.Version P Q f h = (h.0, f h.1)
memory_or wanted faults.TooLong P Q f h = (h.0, f h.1)
memory_or wanted faults.BadHead P Q f h = (h.0, f h.1)
memory_or wanted faults.BadBody P Q f h = (h.0, f h.1)
memory_or wanted faults.BadFragment P Q f h = (h.0, f h.1)

pub without_body : (fault : GiopFault) (order : Order) (kind node : ℕ) (tape : List ℕ) (body : Option Given)
    (header : List ℕ) → IsHeader order node tape header
    → IsMemoryOr faults.BadBody fault ((behind : List ℕ) → IsBody order body (12 + length header) behind → ⊥)
    → IsNotMade fault order kind node tape body
without_body faults.NoMemory order kind node tape body header is h = tt
without_body faults.BadBody order kind node tape body header is h =
    record { header = header; header_is = is; none = h.1 }
without_body faults.BadHead order kind node tape body header is h = absurd (cc (h.0))
without_body faults.NotGiop order kind node tape body header is h = absurd (cc (h.0))
without_body faults.Version order kind node tape body header is h = absurd (cc (h.0))
without_body faults.TooLong order kind node tape body header is h = absurd (cc (h.0))
without_body faults.BadFragment order kind node tape body header is h = absurd (cc (h.0))

pub too_long : (order : Order) (kind node : ℕ) (tape : List ℕ) (body : Option Given) (header octets : List ℕ) (gap : ℕ)
    → IsHeader order node tape header → IsBody order body (12 + length header) (replicate gap 0 ++ octets)
    → max_size < length header + (gap + length octets) → IsLong order kind node tape body
too_long order kind node tape body header octets gap is behind long =
    let more = replicate gap 0 ++ octets in
    let size : length more ≡ gap + length octets =
    length-append (replicate gap 0) octets ∙ ap (λ n. n + length octets) (length-replicate gap 0) in
    let all = head_octets order kind (length header + length more) ++ (header ++ more) in
    record {
      octets = all;
      is = record { header = header; behind = more; octets_are = refl; header_is = is; body_is = behind };
      long = omega (
        arith,
        length_made order kind (length header + length more) all (header ++ more) refl,
        length-append header more,
        size,
        long,
      );
    }
