-- What the tapes of headers are made of.
use Rattle.std.proofs.Common.{◌≡◌, ℕ, ◌^◌, ◌<◌, pos, List, [], ◌∷◌, ◌++◌, length, refl, sym, ap, ap₂, ◌∙◌, append-nil, append_assoc}
use Rattle.type_graph.specs.declared.width.Width.TheVariants.{One, Four}
use Rattle.type_graph.specs.declared.width.Order.TheVariants.{Big}
use Rattle.type_graph.specs.declared.node.Node.TheVariants as nodes
use Rattle.type_graph.specs.Words.{word}
use Rattle.type_graph.specs.Value.{Tree, Number, Bytes, Items, Choice, Trees, NoTree, AndTree, node_at, Fits, FitAll, tape_of}
use Rattle.giop_types.specs.GiopNodes.{giop_nodes}
use Rattle.giop_types.specs.Fields.{number_tree}
use Rattle.giop_types.proofs.PartTrees.{long_shape, octet_shape, struct_shape, text_shape, text_counted}
use Rattle.giop_messages.specs.Headers.{request_tree, reply_tree, cancel_tree, locate_tree}
use Rattle.giop_types.specs.TapeParts.{counted, IsCounted}
use Rattle.giop.specs.inner.Tapes.{Begins}
use Rattle.reference_texts.proofs.Shapes.{peel, none_left, enumerator, sequence}

-- three octets
record Three (value : Tree) : Type 0 where
  values : Trees
  is : value ≡ Items values
  long : length (tape_of giop_nodes (nodes.Array 0 3) value) ≡ 3

array : (value : Tree) (d : ℕ) → Fits giop_nodes (nodes.Array 0 3) value d
    → (values : Trees) × (value ≡ Items values) × FitAll giop_nodes (0 ∷ 0 ∷ 0 ∷ []) values d
array (Items values) d f = (values, refl, f)
array (Number n) d f = absurd f
array (Bytes text) d f = absurd f
array (Choice label values) d f = absurd f

three : (value : Tree) (d : ℕ) → Fits giop_nodes (nodes.Array 0 3) value d → Three value
three value d f =
    let m = array value d f in
    let a = peel 0 (0 ∷ 0 ∷ []) m.0 d m.2 in
    let b = peel 0 (0 ∷ []) a.more d a.rest in
    let c = peel 0 [] b.more d b.rest in
    let i = octet_shape a.value d a.fits in
    let j = octet_shape b.value d b.fits in
    let k = octet_shape c.value d c.fits in
    let values : m.0 ≡ AndTree (number_tree i.n) (AndTree (number_tree j.n) (AndTree (number_tree k.n) NoTree)) =
    a.is ∙ ap₂ AndTree i.is (b.is ∙ ap₂ AndTree j.is (c.is ∙ ap₂ AndTree k.is (none_left c.more d c.rest))) in
    record {
      values = m.0;
      is = m.1;
      long = ap (λ v. length (tape_of giop_nodes (nodes.Array 0 3) v)) (m.1 ∙ ap Items values);
    }

-- ---- a request

pub record RequestParts (value : Tree) (tape rest : List ℕ) : Type 0 where
  pub id : ℕ
  pub flags : ℕ
  pub reserved : Trees
  pub target : Tree
  pub text : List ℕ
  pub contexts : Trees
  pub three : List ℕ
  pub address : List ℕ
  pub behind : List ℕ
  pub is : value ≡ request_tree id flags reserved target text contexts
  pub id_small : id < 2 ^ 32
  pub flags_small : flags < 2 ^ 8
  pub long : length three ≡ 3
  pub tape_is : tape ≡ word Big Four (pos id) ++ (word Big One (pos flags) ++ (three ++ address))
  pub target_begins : Begins 16 target address (counted text ++ behind)
  pub text_short : IsCounted text

pub six : (a b c t k x rest : List ℕ) → (a ++ (b ++ (c ++ (t ++ (k ++ x))))) ++ rest
    ≡ a ++ (b ++ (c ++ (t ++ (k ++ (x ++ rest)))))
six a b c t k x rest = simp append_assoc

pub request_parts : (value : Tree) (tape rest : List ℕ) → Begins 17 value tape rest → RequestParts value tape rest
request_parts value tape rest begins =
    let m = struct_shape (6 ∷ 0 ∷ 14 ∷ 16 ∷ 9 ∷ 12 ∷ []) value 64 begins.fits in
    let a = peel 6 (0 ∷ 14 ∷ 16 ∷ 9 ∷ 12 ∷ []) m.values 64 m.fits in
    let b = peel 0 (14 ∷ 16 ∷ 9 ∷ 12 ∷ []) a.more 64 a.rest in
    let c = peel 14 (16 ∷ 9 ∷ 12 ∷ []) b.more 64 b.rest in
    let d = peel 16 (9 ∷ 12 ∷ []) c.more 64 c.rest in
    let e = peel 9 (12 ∷ []) d.more 64 d.rest in
    let f = peel 12 [] e.more 64 e.rest in
    let i = long_shape a.value 64 a.fits in
    let o = octet_shape b.value 64 b.fits in
    let r = three c.value 64 c.fits in
    let t = text_shape e.value 64 e.fits in
    let s = sequence 11 f.value 64 f.fits in
    let is : value ≡ request_tree i.n o.n r.values d.value t.text s.values =
    m.is ∙ ap Items (a.is ∙ ap₂ AndTree i.is
    (b.is ∙ ap₂ AndTree o.is (c.is ∙ ap₂ AndTree r.is (d.is ∙ ap (AndTree d.value)
    (e.is ∙ ap₂ AndTree t.is (f.is ∙ ap₂ AndTree s.is (none_left f.more 64 f.rest))))))) in
    let z = tape_of giop_nodes (nodes.Array 0 3) (Items r.values) in
    let y = tape_of giop_nodes (node_at giop_nodes 16) d.value in
    let x = tape_of giop_nodes (nodes.Seq 11 0) (Items s.values) ++ [] in
    let spelled : tape_of giop_nodes (node_at giop_nodes 17) value
    ≡ word Big Four (pos i.n) ++ (word Big One (pos o.n) ++ (z ++ (y ++ (counted t.text ++ x)))) =
    ap (tape_of giop_nodes (node_at giop_nodes 17)) is in
    record {
      id = i.n;
      flags = o.n;
      reserved = r.values;
      target = d.value;
      text = t.text;
      contexts = s.values;
      three = z;
      address = y ++ (counted t.text ++ (x ++ rest));
      behind = x ++ rest;
      is = is;
      id_small = i.below;
      flags_small = o.below;
      long = ap (λ v. length (tape_of giop_nodes (nodes.Array 0 3) v)) (sym r.is) ∙ r.long;
      tape_is = begins.tape_is ∙ ap (λ l. l ++ rest) spelled
          ∙ six (word Big Four (pos i.n)) (word Big One (pos o.n)) z y (counted t.text) x rest;
      target_begins = record { fits = d.fits; tape_is = refl };
      text_short = text_counted t.text t.fits;
    }

-- ---- a reply

pub record ReplyParts (value : Tree) (tape : List ℕ) : Type 0 where
  pub id : ℕ
  pub status : ℕ
  pub contexts : Trees
  pub behind : List ℕ
  pub is : value ≡ reply_tree id status contexts
  pub id_small : id < 2 ^ 32
  pub status_small : status < 6
  pub tape_is : tape ≡ word Big Four (pos id) ++ (word Big Four (pos status) ++ behind)

three_of : (a b x rest : List ℕ) → (a ++ (b ++ x)) ++ rest ≡ a ++ (b ++ (x ++ rest))
three_of a b x rest = simp append_assoc

pub reply_parts : (value : Tree) (tape rest : List ℕ) → Begins 19 value tape rest → ReplyParts value tape
reply_parts value tape rest begins =
    let m = struct_shape (6 ∷ 18 ∷ 12 ∷ []) value 64 begins.fits in
    let a = peel 6 (18 ∷ 12 ∷ []) m.values 64 m.fits in
    let b = peel 18 (12 ∷ []) a.more 64 a.rest in
    let c = peel 12 [] b.more 64 b.rest in
    let i = long_shape a.value 64 a.fits in
    let n = enumerator 6 b.value 64 b.fits in
    let s = sequence 11 c.value 64 c.fits in
    let is : value ≡ reply_tree i.n n.n s.values =
    m.is ∙ ap Items (a.is ∙ ap₂ AndTree i.is
    (b.is ∙ ap₂ AndTree n.is (c.is ∙ ap₂ AndTree s.is (none_left c.more 64 c.rest)))) in
    let x = tape_of giop_nodes (nodes.Seq 11 0) (Items s.values) ++ [] in
    let spelled : tape_of giop_nodes (node_at giop_nodes 19) value
    ≡ word Big Four (pos i.n) ++ (word Big Four (pos n.n) ++ x) =
    ap (tape_of giop_nodes (node_at giop_nodes 19)) is in
    record {
      id = i.n;
      status = n.n;
      contexts = s.values;
      behind = x ++ rest;
      is = is;
      id_small = i.below;
      status_small = n.below;
      tape_is = begins.tape_is ∙ ap (λ l. l ++ rest) spelled
          ∙ three_of (word Big Four (pos i.n)) (word Big Four (pos n.n)) x rest;
    }

-- ---- a cancel request

pub record CancelParts (value : Tree) (tape : List ℕ) : Type 0 where
  pub id : ℕ
  pub behind : List ℕ
  pub is : value ≡ cancel_tree id
  pub id_small : id < 2 ^ 32
  pub tape_is : tape ≡ word Big Four (pos id) ++ behind

pub cancel_parts : (value : Tree) (tape rest : List ℕ) → Begins 22 value tape rest → CancelParts value tape
cancel_parts value tape rest begins =
    let m = struct_shape (6 ∷ []) value 64 begins.fits in
    let a = peel 6 [] m.values 64 m.fits in
    let i = long_shape a.value 64 a.fits in
    let is : value ≡ cancel_tree i.n = m.is ∙ ap Items (a.is ∙ ap₂ AndTree i.is (none_left a.more 64 a.rest)) in
    let spelled : tape_of giop_nodes (node_at giop_nodes 22) value ≡ word Big Four (pos i.n) ++ [] =
    ap (tape_of giop_nodes (node_at giop_nodes 22)) is in
    record {
      id = i.n;
      behind = rest;
      is = is;
      id_small = i.below;
      tape_is = begins.tape_is ∙ ap (λ l. l ++ rest) (spelled ∙ append-nil (word Big Four (pos i.n)));
    }

-- ---- a locate request

pub record LocateParts (value : Tree) (tape rest : List ℕ) : Type 0 where
  pub id : ℕ
  pub target : Tree
  pub address : List ℕ
  pub is : value ≡ locate_tree id target
  pub id_small : id < 2 ^ 32
  pub tape_is : tape ≡ word Big Four (pos id) ++ address
  pub target_begins : Begins 16 target address rest

pub locate_parts : (value : Tree) (tape rest : List ℕ) → Begins 20 value tape rest → LocateParts value tape rest
locate_parts value tape rest begins =
    let m = struct_shape (6 ∷ 16 ∷ []) value 64 begins.fits in
    let a = peel 6 (16 ∷ []) m.values 64 m.fits in
    let b = peel 16 [] a.more 64 a.rest in
    let i = long_shape a.value 64 a.fits in
    let is : value ≡ locate_tree i.n b.value =
    m.is ∙ ap Items (a.is ∙ ap₂ AndTree i.is (b.is ∙ ap (AndTree b.value) (none_left b.more 64 b.rest))) in
    let y = tape_of giop_nodes (node_at giop_nodes 16) b.value in
    let spelled : tape_of giop_nodes (node_at giop_nodes 20) value ≡ word Big Four (pos i.n) ++ (y ++ []) =
    ap (tape_of giop_nodes (node_at giop_nodes 20)) is in
    record {
      id = i.n;
      target = b.value;
      address = y ++ rest;
      is = is;
      id_small = i.below;
      tape_is = begins.tape_is
          ∙ ap (λ l. l ++ rest) (spelled ∙ ap (λ l. word Big Four (pos i.n) ++ l) (append-nil y))
          ∙ append_assoc (word Big Four (pos i.n)) y rest;
      target_begins = record { fits = b.fits; tape_is = refl };
    }
