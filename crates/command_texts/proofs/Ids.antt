-- Ids at the front of bodies.
use Rattle.std.proofs.Common.{◌≡◌, ◌++◌, ◌∙◌, ℕ, pos, negsuc, List, [], ◌∷◌, take, drop, refl, sym, ap, subst, append-nil, Some, true, false, All, Contains, cond, option_map}
use Rattle.std.proofs.lemmas.List.{take-append-drop}
use Rattle.type_graph.specs.declared.node.Node.{Node}
use Rattle.type_graph.specs.declared.width.Order.{Order}
use Rattle.type_graph.specs.Words.{reading}
use Rattle.type_graph.specs.Value.{Tree, Number, Bytes, Items, Choice, NoTree, AndTree, node_at, Fits, tape_of}
use Rattle.type_graph.specs.Encoding.{Means}
use Rattle.giop_types.specs.TapeParts.{counted, IsCounted}
use Rattle.giop_types.proofs.PartLaws.{counted_front}
use Rattle.giop_types.specs.GiopNodes.{giop_nodes}
use Rattle.giop_types.proofs.PartTrees.{text_shape, text_counted}
use Rattle.giop_messages.specs.Messages.{Answered}
use Rattle.command_texts.specs.Outcomes.{BeginsWithId}
use Rattle.command_texts.specs.inner.Ids.{IsIdTape}

pub id_tape_is : (answered : Answered) (n : ℕ) (tape : List ℕ)
    → Means giop_nodes (reading answered.order) 64 26 answered.body_at tape (take n answered.body)
    → IsIdTape answered tape
id_tape_is answered n tape means = record {
  front = take n answered.body;
  rest = drop n answered.body;
  octets_are = sym (take-append-drop n answered.body);
  means = means;
}

pub no_id : (order : Order) (place : ℕ) (octets : List ℕ)
    → ((tape front rest : List ℕ) → octets ≡ front ++ rest → Means giop_nodes (reading order) 64 26 place tape front
    → ⊥)
    → (id : List ℕ) → BeginsWithId order place octets id → ⊥
no_id order place octets none id b = none (counted id) b.front b.rest b.octets_are b.means

-- a text, counted
record OfId (tape : List ℕ) : Type 0 where
  pub text : List ℕ
  pub short : IsCounted text
  pub is : tape ≡ counted text

id_shape : (value : Tree) → Fits giop_nodes (node_at giop_nodes 26) value 64 → (tape : List ℕ)
    → tape ≡ tape_of giop_nodes (node_at giop_nodes 26) value → OfId tape
id_shape (Items (AndTree value NoTree)) f tape e =
    let t = text_shape value 64 f.0 in
    record {
      text = t.text;
      short = text_counted t.text t.fits;
      is = e ∙ append-nil (tape_of giop_nodes (node_at giop_nodes 9) value)
          ∙ ap (tape_of giop_nodes (node_at giop_nodes 9)) t.is;
    }
id_shape (Items NoTree) f tape e = absurd f
id_shape (Items (AndTree value (AndTree second more))) f tape e = absurd f.1
id_shape (Number (pos n)) f tape e = absurd f
id_shape (Number (negsuc n)) f tape e = absurd f
id_shape (Bytes text) f tape e = absurd f
id_shape (Choice label values) f tape e = absurd f

id_of : (answered : Answered) (tape : List ℕ) → IsIdTape answered tape → OfId tape
id_of answered tape r = id_shape r.means.value r.means.fits tape r.means.tape_is

pub id_read : (answered : Answered) (tape id rest : List ℕ) → IsIdTape answered tape → IsCounted id
    → tape ≡ counted id ++ rest → BeginsWithId answered.order answered.body_at answered.body id
id_read answered tape id rest r c e =
    let o = id_of answered tape r in
    let same = counted_front o.text id [] rest o.short c (append-nil (counted o.text) ∙ sym o.is ∙ e) in
    let tape_is : tape ≡ counted id = o.is ∙ ap counted same.0 in
    record {
      front = r.front;
      rest = r.rest;
      octets_are = r.octets_are;
      means = subst (λ (t : List ℕ). Means giop_nodes (reading answered.order) 64 26 answered.body_at t r.front) tape_is
          r.means;
    }

pub id_is_there : (answered : Answered) (tape : List ℕ) → IsIdTape answered tape
    → ((octets rest : List ℕ) → IsCounted octets → tape ≡ counted octets ++ rest → ⊥) → ⊥
id_is_there answered tape r none =
    let o = id_of answered tape r in
    none o.text [] o.short (o.is ∙ sym (append-nil (counted o.text)))
