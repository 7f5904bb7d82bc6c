-- The tapes of references.
use Rattle.std.proofs.Common.{◌≡◌, ℕ, List, [], ◌∷◌, ◌++◌, sym, ap, ap₂, ◌∙◌, append-nil, append_assoc, subst}
use Rattle.type_graph.specs.Value.{Tree, Items, AndTree, node_at, Fits, tape_of}
use Rattle.giop_types.specs.GiopNodes.{giop_nodes}
use Rattle.giop_types.specs.Fields.{tagged_list_tree}
use Rattle.giop_types.proofs.PartTrees.{struct_shape, text_shape, text_counted, tagged_list_fits, tagged_list_tape}
use Rattle.giop_types.specs.TapeParts.{counted, tagged_list}
use Rattle.giop_types.proofs.PartLaws.{counted_front, tagged_list_front}
use Rattle.reference_texts.specs.Encapsulations.{Encapsulates, IsWritten, HasTape, IsOfTape}
use Rattle.reference_texts.specs.References.{Reference, reference_tree, reference_tape, IsReference, IsFront}
use Rattle.reference_texts.proofs.Shapes.{peel, none_left, tag_list}

-- what fits as a reference
record OfReference (value : Tree) : Type 0 where
  reference : Reference
  is : value ≡ reference_tree reference
  fits : IsReference reference
  tape : tape_of giop_nodes (node_at giop_nodes 13) value ≡ reference_tape reference

reference_value : (value : Tree) → Fits giop_nodes (node_at giop_nodes 13) value 64 → OfReference value
reference_value value f =
    let m = struct_shape (9 ∷ 12 ∷ []) value 64 f in
    let a = peel 9 (12 ∷ []) m.values 64 m.fits in
    let b = peel 12 [] a.more 64 a.rest in
    let t = text_shape a.value 64 a.fits in
    let l = tag_list b.value 64 b.fits in
    let reference : Reference = record { type_id = t.text; profiles = l.all } in
    let is : value ≡ reference_tree reference =
    m.is ∙ ap Items (a.is ∙ ap₂ AndTree t.is (b.is ∙ ap₂ AndTree l.is (none_left b.more 64 b.rest))) in
    let profiles : tape_of giop_nodes (node_at giop_nodes 12) (tagged_list_tree l.all) ≡ tagged_list l.all =
    ap (tape_of giop_nodes (node_at giop_nodes 12)) (sym l.is) ∙ l.tape in
    record {
      reference = reference;
      is = is;
      fits = record { type_id = text_counted t.text t.fits; profiles = l.are };
      tape = ap (tape_of giop_nodes (node_at giop_nodes 13)) is
          ∙ ap (λ k. counted t.text ++ k)
          (append-nil (tape_of giop_nodes (node_at giop_nodes 12) (tagged_list_tree l.all)) ∙ profiles);
    }

-- what a reference that fits says of it
pub fitting : (reference : Reference) → Fits giop_nodes (node_at giop_nodes 13) (reference_tree reference) 64
    → IsReference reference
fitting reference f = record {
  type_id = text_counted reference.type_id f.0;
  profiles = (tagged_list_fits reference.profiles 64 f.1.0).1;
}

tape_spelled : (reference : Reference) → Fits giop_nodes (node_at giop_nodes 13) (reference_tree reference) 64
    → tape_of giop_nodes (node_at giop_nodes 13) (reference_tree reference) ≡ reference_tape reference
tape_spelled reference f =
    ap (λ k. counted reference.type_id ++ k)
    (append-nil (tape_of giop_nodes (node_at giop_nodes 12) (tagged_list_tree reference.profiles))
    ∙ tagged_list_tape reference.profiles (tagged_list_fits reference.profiles 64 f.1.0).0)

-- one reference stands at the front of a tape
front_same : (a b : Reference) (r s : List ℕ) → IsReference a → IsReference b
    → reference_tape a ++ r ≡ reference_tape b ++ s → a ≡ b
front_same a b r s f g e =
    let behind = counted_front a.type_id b.type_id (tagged_list a.profiles ++ r) (tagged_list b.profiles ++ s) f.type_id
    g.type_id (sym (append_assoc (counted a.type_id) (tagged_list a.profiles) r) ∙ e
    ∙ append_assoc (counted b.type_id) (tagged_list b.profiles) s) in
    let profiles = tagged_list_front a.profiles b.profiles r s f.profiles g.profiles behind.1 in
    ap₂ (λ (i : List ℕ) (ps : List (ℕ × List ℕ)). record { type_id = i; profiles = ps }) behind.0 profiles.0

-- ---- read

pub reference_read : (octets tape lent rest : List ℕ) (reference : Reference) → lent ≡ tape → HasTape 13 octets tape
    → IsFront lent reference rest → Encapsulates 13 (reference_tree reference) octets
reference_read octets tape lent rest reference e h front =
    let v = reference_value h.value h.encapsulated.holds.fits in
    let tapes : reference_tape v.reference ++ [] ≡ reference_tape reference ++ rest =
    append-nil (reference_tape v.reference) ∙ sym v.tape ∙ sym h.tape_is ∙ sym e ∙ front.front in
    let same = front_same v.reference reference [] rest v.fits front.fits tapes in
    subst (λ (value : Tree). Encapsulates 13 value octets) (v.is ∙ ap reference_tree same) h.encapsulated

-- the tape begins with a reference
pub reference_there : (octets tape lent : List ℕ) → lent ≡ tape → HasTape 13 octets tape
    → ((reference : Reference) (rest : List ℕ) → IsFront lent reference rest → ⊥) → ⊥
reference_there octets tape lent e h none =
    let v = reference_value h.value h.encapsulated.holds.fits in
    none v.reference []
    (record { fits = v.fits; front = e ∙ h.tape_is ∙ v.tape ∙ sym (append-nil (reference_tape v.reference)) })

-- ---- written

pub reference_written : (reference : Reference) (tape octets : List ℕ) → IsReference reference
    → tape ≡ reference_tape reference → IsOfTape 13 tape octets → IsWritten 13 (reference_tree reference) octets
reference_written reference tape octets f e w =
    let v = reference_value w.value w.written.holds.fits in
    let tapes : reference_tape v.reference ++ [] ≡ reference_tape reference ++ [] =
    ap (λ l. l ++ []) (sym v.tape ∙ sym w.tape_is ∙ e) in
    let same = front_same v.reference reference [] [] v.fits f tapes in
    subst (λ (value : Tree). IsWritten 13 value octets) (v.is ∙ ap reference_tree same) w.written

pub reference_unwritten : (reference : Reference) (tape octets : List ℕ) → tape ≡ reference_tape reference
    → IsWritten 13 (reference_tree reference) octets → IsOfTape 13 tape octets
reference_unwritten reference tape octets e w =
    record { value = reference_tree reference; written = w; tape_is = e ∙ sym (tape_spelled reference w.holds.fits) }
