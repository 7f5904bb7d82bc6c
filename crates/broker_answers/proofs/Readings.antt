-- What is read of the body of a request.
use Rattle.std.proofs.Common.{◌≡◌, ◌++◌, ◌∙◌, ℕ, pos, negsuc, List, [], take, drop, refl, sym, ap, subst, append-nil, Option, None, true}
use Rattle.std.proofs.lemmas.List.{take-append-drop}
use Rattle.type_graph.specs.declared.node.Node.{Node}
use Rattle.type_graph.specs.Words.{reading}
use Rattle.type_graph.specs.Value.{Tree, Number, Bytes, Items, Choice, NoTree, AndTree, node_at, Fits, tape_of}
use Rattle.type_graph.specs.Encoding.{Means}
use Rattle.type_model.specs.Names.{IsNamed}
use Rattle.giop_types.specs.TapeParts.{counted, IsCounted}
use Rattle.giop_types.proofs.PartLaws.{counted_front}
use Rattle.table_file.specs.Table.{TableParts}
use Rattle.giop_types.specs.GiopModel.{giop_table}
use Rattle.giop_types.specs.GiopNodes.{giop_nodes}
use Rattle.giop_types.specs.Named.{has_name}
use Rattle.giop_types.proofs.Named.{named}
use Rattle.giop_types.proofs.PartTrees.{text_shape, text_counted}
use Rattle.giop_messages.specs.Messages.{Asked}
use Rattle.broker_answers.specs.Findings.{IsRead, IsUnread, IsReading}

pub read_is : (graph : List Node) (asked : Asked) (node n : ℕ) (tape : List ℕ)
    → Means graph (reading asked.order) 64 node asked.body_at tape (take n asked.body) → IsRead graph asked node tape
read_is graph asked node n tape means = record {
  front = take n asked.body;
  rest = drop n asked.body;
  body_is = sym (take-append-drop n asked.body);
  means = means;
}

pub unread : (graph : List Node) (asked : Asked) (node : ℕ)
    → ((tape front rest : List ℕ) → asked.body ≡ front ++ rest
    → Means graph (reading asked.order) 64 node asked.body_at tape front → ⊥)
    → IsUnread graph asked node
unread graph asked node none = λ tape r. none tape r.front r.rest r.body_is r.means

-- ---- the argument of _is_a

pub id_named : (table : TableParts) → table ≡ giop_table → IsNamed table.model.names 26
id_named table e = subst (λ (t : TableParts). IsNamed t.model.names 26) (sym e) (named 26 refl)

-- a node that is named there is so in the table
pub giop_named : (table : TableParts) (node : ℕ) → table ≡ giop_table → has_name node ≡ true
    → IsNamed table.model.names node
giop_named table node e h = subst (λ (t : TableParts). IsNamed t.model.names node) (sym e) (named node h)

-- a text, counted
record OfId (tape : List ℕ) : Type 0 where
  pub text : List ℕ
  pub short : IsCounted text
  pub is : tape ≡ counted text

id_shape : (value : Tree) → Fits giop_nodes (node_at giop_nodes 26) value 64 → (tape : List ℕ)
    → tape ≡ tape_of giop_nodes (node_at giop_nodes 26) value → OfId tape
id_shape (Items (AndTree value NoTree)) f tape e =
    let t = text_shape value 64 f.0 in
    record {
      text = t.text;
      short = text_counted t.text t.fits;
      is = e ∙ append-nil (tape_of giop_nodes (node_at giop_nodes 9) value)
          ∙ ap (tape_of giop_nodes (node_at giop_nodes 9)) t.is;
    }
id_shape (Items NoTree) f tape e = absurd f
id_shape (Items (AndTree value (AndTree second more))) f tape e = absurd f.1
id_shape (Number (pos n)) f tape e = absurd f
id_shape (Number (negsuc n)) f tape e = absurd f
id_shape (Bytes text) f tape e = absurd f
id_shape (Choice label values) f tape e = absurd f

id_of : (asked : Asked) (tape : List ℕ) → IsRead giop_nodes asked 26 tape → OfId tape
id_of asked tape r = id_shape r.means.value r.means.fits tape r.means.tape_is

pub id_read : (asked : Asked) (tape id rest : List ℕ) → IsRead giop_nodes asked 26 tape → IsCounted id
    → tape ≡ counted id ++ rest → IsRead giop_nodes asked 26 (counted id)
id_read asked tape id rest r c e =
    let o = id_of asked tape r in
    let same = counted_front o.text id [] rest o.short c (append-nil (counted o.text) ∙ sym o.is ∙ e) in
    subst (λ (t : List ℕ). IsRead giop_nodes asked 26 t) (o.is ∙ ap counted same.0) r

pub id_is_there : (asked : Asked) (tape : List ℕ) → IsRead giop_nodes asked 26 tape
    → ((octets rest : List ℕ) → IsCounted octets → tape ≡ counted octets ++ rest → ⊥) → ⊥
id_is_there asked tape r none =
    let o = id_of asked tape r in
    none o.text [] o.short (o.is ∙ sym (append-nil (counted o.text)))

pub none_is_unread : (table : TableParts) → table ≡ giop_table → (asked : Asked) (read : Option (List ℕ))
    → IsReading table.model.graph asked 26 read → read ≡ None → IsUnread giop_nodes asked 26
none_is_unread table e asked read r none =
    subst (λ (o : Option (List ℕ)). IsReading giop_nodes asked 26 o) none
    (subst (λ (t : TableParts). IsReading t.model.graph asked 26 read) e r)
