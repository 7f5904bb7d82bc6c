-- What is made of the tape of a value is what is written of the value.
use Rattle.std.proofs.Common.{◌≡◌, ℕ, ◌+◌, List, ◌++◌, length, length-append, Option, Result, Ok, Err, IfOk, IfErr, sym, ap, ◌∙◌, subst, arith}
use Rattle.type_graph.specs.declared.width.Order.{Order}
use Rattle.type_graph.specs.declared.width.Width.TheVariants.{Four}
use Rattle.type_graph.specs.Words.{writing}
use Rattle.type_graph.specs.Value.{Tree, node_at, Fits, tape_of}
use Rattle.type_graph.specs.Encoding.{Encodes}
use Rattle.type_graph.proofs.WordLaws.{length-plain_word}
use Rattle.type_graph.proofs.OneTape.{graph_fits_words, one_tape}
use Rattle.giop_types.specs.GiopNodes.{giop_nodes}
use Rattle.giop_types.specs.Fields.{Holds}
use Rattle.giop_types.proofs.GraphFacts.{giop_is_graph}
use Rattle.giop_messages.specs.declared.fault.GiopFault.{GiopFault}
use Rattle.giop_messages.specs.declared.fault.GiopFault.TheVariants as faults
use Rattle.giop_messages.specs.Written.{Given, IsWritten, head_octets}
use Rattle.giop.specs.Made.{IsHeader, IsMade, IsNotMade}
use Rattle.giop.specs.Refusal.{IsNotWritten}

-- a value and its tape
abbrev IsTapeOf : ℕ → Tree → List ℕ → Type 0
IsTapeOf node value tape = tape ≡ tape_of giop_nodes (node_at giop_nodes node) value

meant_holds : (order : Order) (node : ℕ) (value : Tree) (tape header : List ℕ)
    → Fits giop_nodes (node_at giop_nodes node) value 64 → IsTapeOf node value tape → IsHeader order node tape header
    → Holds (writing order) node 12 value header
meant_holds order node value tape header fits e m =
    let words = graph_fits_words giop_nodes giop_is_graph in
    let same = one_tape giop_nodes words (node_at giop_nodes node) value m.value 64 (words node) fits m.fits
    (sym e ∙ m.tape_is) in
    record {
      fits = fits;
      encodes = subst (λ (v : Tree). Encodes (writing order) giop_nodes (node_at giop_nodes node) v 12 header)
          (sym same) m.encodes;
    }

held_means : (order : Order) (node : ℕ) (value : Tree) (tape header : List ℕ) → IsTapeOf node value tape
    → Holds (writing order) node 12 value header → IsHeader order node tape header
held_means order node value tape header e h =
    record { value = value; fits = h.fits; tape_is = e; encodes = h.encodes }

made_written : (order : Order) (kind node : ℕ) (value : Tree) (tape : List ℕ) (body : Option Given) (octets : List ℕ)
    → Fits giop_nodes (node_at giop_nodes node) value 64 → IsTapeOf node value tape
    → IsMade order kind node tape body octets → IsWritten order kind node value body octets
made_written order kind node value tape body octets fits e m = record {
  header = m.header;
  behind = m.behind;
  octets_are = m.octets_are;
  header_is = meant_holds order node value tape m.header fits e m.header_is;
  body_is = m.body_is;
}

pub written : {X : Type 0} (items : X → List ℕ) (order : Order) (kind node : ℕ) (value : Tree) (tape : List ℕ)
    (body : Option Given) (r : Result X GiopFault) → Fits giop_nodes (node_at giop_nodes node) value 64
    → IsTapeOf node value tape → IfOk r (λ x. IsMade order kind node tape body (items x))
    → IfOk r (λ x. IsWritten order kind node value body (items x))
written items order kind node value tape body (Ok x) fits e m =
    made_written order kind node value tape body (items x) fits e m
written items order kind node value tape body (Err fault) fits e m = m

not_made : (fault : GiopFault) (order : Order) (kind node : ℕ) (value : Tree) (tape : List ℕ) (body : Option Given)
    → Fits giop_nodes (node_at giop_nodes node) value 64 → IsTapeOf node value tape
    → IsNotMade fault order kind node tape body → IsNotWritten fault order kind node value body
not_made faults.NoMemory order kind node value tape body fits e n = tt
not_made faults.TooLong order kind node value tape body fits e n =
    record { octets = n.octets; is = made_written order kind node value tape body n.octets fits e n.is; long = n.long }
not_made faults.BadHead order kind node value tape body fits e n =
    λ header h. n header (held_means order node value tape header e h)
not_made faults.BadBody order kind node value tape body fits e n =
    record {
      header = n.header;
      header_is = meant_holds order node value tape n.header fits e n.header_is;
      none =
          n.none;
    }
not_made faults.NotGiop order kind node value tape body fits e n = absurd n
not_made faults.Version order kind node value tape body fits e n = absurd n
not_made faults.BadFragment order kind node value tape body fits e n = absurd n

pub refused : {X : Type 0} (order : Order) (kind node : ℕ) (value : Tree) (tape : List ℕ) (body : Option Given)
    (r : Result X GiopFault) → Fits giop_nodes (node_at giop_nodes node) value 64 → IsTapeOf node value tape
    → IfErr r (λ fault. IsNotMade fault order kind node tape body)
    → IfErr r (λ fault. IsNotWritten fault order kind node value body)
refused order kind node value tape body (Ok x) fits e n = n
refused order kind node value tape body (Err fault) fits e n = not_made fault order kind node value tape body fits e n

-- ---- putting together

pub length-head_octets : (order : Order) (kind size : ℕ) → length (head_octets order kind size) ≡ 12
length-head_octets order kind size = omega (arith, length-plain_word order Four size)

pub length_made : (order : Order) (kind size : ℕ) (octets more : List ℕ) → octets ≡ head_octets order kind size ++ more
    → length octets ≡ 12 + length more
length_made order kind size octets more e =
    ap length e ∙ length-append (head_octets order kind size) more
    ∙ ap (λ n. n + length more) (length-head_octets order kind size)
