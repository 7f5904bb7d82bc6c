-- What is known of a value and its text, put together.
use Rattle.std.proofs.Common.{◌≡◌, ◌≤◌, sym, subst, ℕ, List, length, take}
use Rattle.type_graph.specs.declared.node.Node.{Node}
use Rattle.type_graph.specs.declared.width.Order.{Order}
use Rattle.type_graph.specs.Words.{reading}
use Rattle.type_graph.specs.Encoding.{Means}
use Rattle.table_file.specs.Table.{TableParts}
use Rattle.idlc_c.specs.Handle.{Labels}
use Rattle.idlc_c.specs.TextAnswers.{IsTextOfOctets}
use Rattle.value_text.specs.Tapes.{IsTextOfTape}

-- what is printed of a value with the tape that was read is the text of the octets
pub text_is : (names : Labels) (table : TableParts) (lent : List Node) (node : ℕ) (order : Order) (pos : ℕ)
    (tape slice octets text : List ℕ) (taken : ℕ) → lent ≡ table.model.graph → slice ≡ tape → taken ≤ length octets
    → Means table.model.graph (reading order) 64 node pos tape (take taken octets)
    → IsTextOfTape names lent node slice text
    → IsTextOfOctets names node order pos octets taken text table
text_is names table lent node order pos tape slice octets text taken graph_is tape_is within means told =
    let print : IsTextOfTape names table.model.graph node tape text =
    subst (λ (t : List ℕ). IsTextOfTape names table.model.graph node t text) tape_is
    (subst (λ (g : List Node). IsTextOfTape names g node slice text) graph_is told) in
    record {
      within = within;
      value = print.value;
      fits = print.fits;
      meant = subst (λ (t : List ℕ). Means table.model.graph (reading order) 64 node pos t (take taken octets))
          (sym print.tape_is) means;
      text_is = print.text_is;
    }
