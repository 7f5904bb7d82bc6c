-- What is known of a value and of a fault, put together.
use Rattle.std.proofs.Common.{◌≡◌, sym, subst, ℕ, List, take, drop}
use Rattle.std.proofs.lemmas.List.{take-append-drop}
use Rattle.type_graph.specs.declared.node.Node.{Node}
use Rattle.type_graph.specs.declared.width.Order.{Order}
use Rattle.type_graph.specs.Words.{reading}
use Rattle.type_graph.specs.Encoding.{Means}
use Rattle.program_steps.specs.declared.fault.RunFault.TheVariants as runs
use Rattle.command_texts.specs.Bodies.{IsTextOfBody, Labels}
use Rattle.value_text.specs.Tapes.{IsTextOfTape}

-- the text is that of the value that the octets encode
pub text_is : (labels : Labels) (graph lent : List Node) (order : Order) (node place : ℕ)
    (tape slice octets text : List ℕ)
    (taken : ℕ) → lent ≡ graph → slice ≡ tape → Means graph (reading order) 64 node place tape (take taken octets)
    → IsTextOfTape labels lent node slice text → IsTextOfBody labels graph order node place octets text
text_is labels graph lent order node place tape slice octets text taken graph_is tape_is means told =
    let of : IsTextOfTape labels graph node tape text =
    subst (λ (t : List ℕ). IsTextOfTape labels graph node t text) tape_is
    (subst (λ (g : List Node). IsTextOfTape labels g node slice text) graph_is told) in
    record {
      value = of.value;
      front = take taken octets;
      rest = drop taken octets;
      octets_are = sym (take-append-drop taken octets);
      fits = of.fits;
      means = subst (λ (t : List ℕ). Means graph (reading order) 64 node place t (take taken octets)) (sym of.tape_is)
          means;
      text_is = of.text_is;
    }
