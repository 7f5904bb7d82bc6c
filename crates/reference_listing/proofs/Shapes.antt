-- The bodies of profiles and their tapes.
use Rattle.std.proofs.Common.{◌≡◌, ℕ, pos, Bool, true, false, List, [], ◌∷◌, ◌++◌, refl, sym, ap, ap₂, ◌∙◌}
use Rattle.type_graph.specs.declared.width.Width.TheVariants.{One, Two}
use Rattle.type_graph.specs.declared.width.Order.TheVariants.{Big}
use Rattle.type_graph.specs.Words.{word}
use Rattle.type_graph.specs.Value.{Tree, Items, AndTree, node_at, Fits, tape_of}
use Rattle.giop_types.specs.GiopNodes.{giop_nodes}
use Rattle.giop_types.specs.Fields.{octets_tree, tagged_list_tree}
use Rattle.giop_types.proofs.PartTrees.{octet_shape, short_shape, struct_shape, text_shape, text_counted}
use Rattle.giop_types.specs.TapeParts.{counted, tagged_list}
use Rattle.reference_texts.specs.Profiles.{Body, body_node, body_tree}
use Rattle.reference_texts.proofs.Shapes.{peel, none_left, counted_value, tag_list}
use Rattle.reference_listing.specs.inner.Bodies.{IsBodyTape, minor_of}

-- what fits as a body
pub record OfBody (later : Bool) (value : Tree) : Type 0 where
  pub body : Body
  pub is : value ≡ body_tree body (minor_of later)
  pub tape : IsBodyTape later (tape_of giop_nodes (node_at giop_nodes (body_node (minor_of later))) value) body

pub body_value : (later : Bool) (value : Tree)
    → Fits giop_nodes (node_at giop_nodes (body_node (minor_of later))) value 64
    → OfBody later value
body_value false value fits =
    let m = struct_shape (0 ∷ 0 ∷ 9 ∷ 4 ∷ 10 ∷ []) value 64 fits in
    let a = peel 0 (0 ∷ 9 ∷ 4 ∷ 10 ∷ []) m.values 64 m.fits in
    let b = peel 0 (9 ∷ 4 ∷ 10 ∷ []) a.more 64 a.rest in
    let c = peel 9 (4 ∷ 10 ∷ []) b.more 64 b.rest in
    let d = peel 4 (10 ∷ []) c.more 64 c.rest in
    let e = peel 10 [] d.more 64 d.rest in
    let i = octet_shape a.value 64 a.fits in
    let j = octet_shape b.value 64 b.fits in
    let t = text_shape c.value 64 c.fits in
    let p = short_shape d.value 64 d.fits in
    let k = counted_value e.value 64 e.fits in
    let body : Body = record { major = i.n; minor = j.n; host = t.text; port = p.n; key = k.list; components = [] } in
    let is : value ≡ body_tree body 0 =
    m.is ∙ ap Items (a.is ∙ ap₂ AndTree i.is (b.is ∙ ap₂ AndTree j.is (c.is ∙ ap₂ AndTree t.is (d.is ∙ ap₂ AndTree p.is
    (e.is ∙ ap₂ AndTree k.is (none_left e.more 64 e.rest)))))) in
    let keys : tape_of giop_nodes (node_at giop_nodes 10) (octets_tree k.list) ≡ counted k.list =
    ap (tape_of giop_nodes (node_at giop_nodes 10)) (sym k.is) ∙ k.tape in
    let spelled : tape_of giop_nodes (node_at giop_nodes 24) value
    ≡ word Big One (pos i.n)
    ++ (word Big One (pos j.n) ++ (counted t.text ++ (word Big Two (pos p.n) ++ (counted k.list ++ [])))) =
    ap (tape_of giop_nodes (node_at giop_nodes 24)) is
    ∙ ap (λ l. word Big One (pos i.n)
    ++ (word Big One (pos j.n) ++ (counted t.text ++ (word Big Two (pos p.n) ++ (l ++ []))))) keys in
    record {
      body = body;
      is = is;
      tape = record {
        major_small = i.below;
        minor_small = j.below;
        address = counted t.text ++ (word Big Two (pos p.n) ++ (counted k.list ++ []));
        rest = [];
        tape_is = spelled;
        address_is = record {
          host_short = text_counted t.text t.fits;
          port_small = p.below;
          key_short = k.short;
          front = refl;
        };
        components_are = refl;
      };
    }
body_value true value fits =
    let m = struct_shape (0 ∷ 0 ∷ 9 ∷ 4 ∷ 10 ∷ 12 ∷ []) value 64 fits in
    let a = peel 0 (0 ∷ 9 ∷ 4 ∷ 10 ∷ 12 ∷ []) m.values 64 m.fits in
    let b = peel 0 (9 ∷ 4 ∷ 10 ∷ 12 ∷ []) a.more 64 a.rest in
    let c = peel 9 (4 ∷ 10 ∷ 12 ∷ []) b.more 64 b.rest in
    let d = peel 4 (10 ∷ 12 ∷ []) c.more 64 c.rest in
    let e = peel 10 (12 ∷ []) d.more 64 d.rest in
    let f = peel 12 [] e.more 64 e.rest in
    let i = octet_shape a.value 64 a.fits in
    let j = octet_shape b.value 64 b.fits in
    let t = text_shape c.value 64 c.fits in
    let p = short_shape d.value 64 d.fits in
    let k = counted_value e.value 64 e.fits in
    let s = tag_list f.value 64 f.fits in
    let body : Body = record { major = i.n; minor = j.n; host = t.text; port = p.n; key = k.list; components = s.all }
    in
    let is : value ≡ body_tree body 1 =
    m.is ∙ ap Items (a.is ∙ ap₂ AndTree i.is (b.is ∙ ap₂ AndTree j.is (c.is ∙ ap₂ AndTree t.is (d.is ∙ ap₂ AndTree p.is
    (e.is ∙ ap₂ AndTree k.is (f.is ∙ ap₂ AndTree s.is (none_left f.more 64 f.rest))))))) in
    let keys : tape_of giop_nodes (node_at giop_nodes 10) (octets_tree k.list) ≡ counted k.list =
    ap (tape_of giop_nodes (node_at giop_nodes 10)) (sym k.is) ∙ k.tape in
    let lists : tape_of giop_nodes (node_at giop_nodes 12) (tagged_list_tree s.all) ≡ tagged_list s.all =
    ap (tape_of giop_nodes (node_at giop_nodes 12)) (sym s.is) ∙ s.tape in
    let spelled : tape_of giop_nodes (node_at giop_nodes 25) value
    ≡ word Big One (pos i.n) ++ (word Big One (pos j.n) ++ (counted t.text ++ (word Big Two (pos p.n) ++ (counted k.list
    ++ (tagged_list s.all ++ []))))) =
    ap (tape_of giop_nodes (node_at giop_nodes 25)) is
    ∙ ap₂ (λ (x y : List ℕ). word Big One (pos i.n)
    ++ (word Big One (pos j.n) ++ (counted t.text ++ (word Big Two (pos p.n)
    ++ (x ++ (y ++ [])))))) keys lists in
    record {
      body = body;
      is = is;
      tape = record {
        major_small = i.below;
        minor_small = j.below;
        address = counted t.text ++ (word Big Two (pos p.n) ++ (counted k.list ++ (tagged_list s.all ++ [])));
        rest = tagged_list s.all ++ [];
        tape_is = spelled;
        address_is = record {
          host_short = text_counted t.text t.fits;
          port_small = p.below;
          key_short = k.short;
          front = refl;
        };
        components_are = (s.are, ([], refl));
      };
    }
