-- References and their texts.
use Rattle.std.proofs.Common.{◌≡◌, ℕ, List, [], ◌∷◌, refl, sym, ap, ap₂, ◌∙◌, subst, arith}
use Rattle.type_graph.specs.declared.width.Order.TheVariants.{Big}
use Rattle.type_graph.specs.Words.{writing}
use Rattle.type_graph.specs.Value.{Tree, Number, Bytes, Choice, Items, Trees, NoTree, AndTree, node_at, Fits}
use Rattle.type_graph.specs.Encoding.{Encodes, Just, Joined}
use Rattle.giop_types.specs.GiopNodes.{giop_nodes}
use Rattle.giop_types.specs.Fields.{tagged_list_tree}
use Rattle.giop_types.proofs.PartTrees.{OfText, OfList, text_shape, tagged_list_shape}
use Rattle.reference_texts.specs.References.{Reference, reference_tree}
use Rattle.reference_texts.specs.Texts.{IsTextOf, Spells}
use Rattle.reference_texts.proofs.TextLaws.{spelled_once, text_read}
use Rattle.value_text.specs.Printed.{with_text, with_profiles, encapsulation, reference_text}
use Rattle.value_text.specs.Stringified.{Stringifies, FitsObject}
use Rattle.value_text.specs.inner.Room.{HasRoom}
use Rattle.value_text.proofs.Alike.{IsDeep, object_deep, object_deeper, room_deep, deep_room}
use Rattle.value_text.proofs.Encoded.{then, nothing, text, profiles}

-- a text spells one value
pub one_value : (words : List ℕ) (value other : Tree) → Stringifies words value → Stringifies words other
    → value ≡ other
one_value words value other a b =
    a.value_is ∙ ap reference_tree (spelled_once words a.reference b.reference a.spells b.spells) ∙ sym b.value_is

-- ---- what is printed

-- members that are a reference's
record Members (values : Trees) : Type 0 where
  reference : Reference
  is : Items values ≡ reference_tree reference
  text_is : IsTextOf reference (reference_text values)

members_text : (id profiles : Tree) (i : OfText id) (p : OfList profiles)
    → Fits giop_nodes (node_at giop_nodes 13) (Items (AndTree id (AndTree profiles NoTree))) 64
    → Members (AndTree id (AndTree profiles NoTree))
members_text id listed i p fits =
    let reference : Reference = record { type_id = i.text; profiles = p.all } in
    let whole : Items (AndTree id (AndTree listed NoTree)) ≡ reference_tree reference =
    ap₂ (λ a b. Items (AndTree a (AndTree b NoTree))) i.is p.is in
    let front : List ℕ = 0 ∷ [] in
    let mid = with_text front (Bytes i.text) in
    let new = with_profiles mid (tagged_list_tree p.all) in
    let Id = Encodes (writing Big) giop_nodes (node_at giop_nodes 9) (Bytes i.text) in
    let List_of = Encodes (writing Big) giop_nodes (node_at giop_nodes 12) (tagged_list_tree p.all) in
    let encoded = then Id (Joined List_of (Just [])) front mid new (text i.text front i.fits.short)
    (then List_of (Just []) mid new new (profiles p.all mid p.below p.fits.each p.fits.short) (nothing new)) in
    let printed : encapsulation (AndTree id (AndTree listed NoTree)) ≡ new =
    ap₂ (λ a b. encapsulation (AndTree a (AndTree b NoTree))) i.is p.is in
    record {
      reference = reference;
      is = whole;
      text_is = record {
        octets = encapsulation (AndTree id (AndTree listed NoTree));
        text_is = refl;
        written = record {
          body = encoded.added;
          octets_are = printed ∙ encoded.is;
          holds = record {
            fits = subst (λ v. Fits giop_nodes (node_at giop_nodes 13) v 64) whole fits;
            encodes = encoded.at;
          };
        };
      };
    }

members_of : (values : Trees) (depth : ℕ) → FitsObject (Items values) depth → FitsObject (Items values) 64
    → Members values
members_of (AndTree id (AndTree listed NoTree)) depth f g =
    members_text id listed (text_shape id depth f.0) (tagged_list_shape listed depth f.1.0) g
members_of (AndTree id (AndTree listed (AndTree more values))) depth f g = absurd f.1.1
members_of (AndTree id NoTree) depth f g = absurd f.1
members_of NoTree depth f g = absurd f

deep_64 : (value : Tree) → IsDeep value 64
deep_64 (Items NoTree) = omega arith
deep_64 (Items (AndTree one more)) = omega arith
deep_64 (Number n) = omega arith
deep_64 (Bytes octets) = omega arith
deep_64 (Choice label values) = omega arith

-- 64 is enough for two
at_64 : (values : Trees) (depth : ℕ) → FitsObject (Items values) depth → FitsObject (Items values) 64
at_64 (AndTree id (AndTree listed NoTree)) depth f =
    object_deeper (AndTree id (AndTree listed NoTree)) depth 64 (deep_64 listed) f
at_64 (AndTree id (AndTree listed (AndTree more values))) depth f = absurd f.1.1
at_64 (AndTree id NoTree) depth f = absurd f.1
at_64 NoTree depth f = absurd f

pub printed_text : (values : Trees) (depth : ℕ) → FitsObject (Items values) depth
    → (reference : Reference) × (Items values ≡ reference_tree reference) × IsTextOf reference (reference_text values)
printed_text values depth f =
    let m = members_of values depth f (at_64 values depth f) in
    (m.reference, m.is, m.text_is)

pub printed_spelled : (values : Trees) (depth : ℕ) → FitsObject (Items values) depth
    → Stringifies (reference_text values) (Items values)
printed_spelled values depth f =
    let m = printed_text values depth f in
    record { reference = m.0; value_is = m.1; spells = text_read m.0 (reference_text values) m.2 }

-- ---- what is read

-- it is one, where there is room
pub spelled_fits : (words : List ℕ) (value : Tree) (reference : Reference) (depth : ℕ)
    → value ≡ reference_tree reference
    → Spells words reference → HasRoom reference.profiles depth → FitsObject value depth
spelled_fits words value reference depth is s room =
    subst (λ v. FitsObject v depth) (sym is)
    (object_deeper (AndTree (Bytes reference.type_id) (AndTree (tagged_list_tree reference.profiles) NoTree)) 64 depth
    (room_deep reference.profiles depth room) s.encapsulated.holds.fits)

pub spelled_found : (words : List ℕ) (value : Tree) (reference : Reference) → value ≡ reference_tree reference
    → Spells words reference
    → Stringifies words value
spelled_found words value reference is s = record { reference = reference; value_is = is; spells = s }

-- there is none where there is no room
pub no_room : (words : List ℕ) (reference : Reference) (depth : ℕ) → Spells words reference
    → (HasRoom reference.profiles depth → ⊥)
    → (value : Tree) → Stringifies words value → FitsObject value depth → ⊥
no_room words reference depth s none value a fits =
    let same = a.value_is ∙ ap reference_tree (spelled_once words a.reference reference a.spells s) in
    none (deep_room reference.profiles depth
    (object_deep (AndTree (Bytes reference.type_id) (AndTree (tagged_list_tree reference.profiles) NoTree)) depth
    (subst (λ v. FitsObject v depth) same fits)))
