-- The targets that are put behind the tape of a header.
use Rattle.std.proofs.Common.{◌≡◌, ℕ, ◌-◌, ◌^◌, ◌<◌, ◌≤◌, pos, List, [], ◌∷◌, ◌++◌, replicate, sym, ap, ap₂, ◌∙◌, append-nil, append_assoc, arith, get_or, Result, Ok, Err, OnOk, IfErr}
use Rattle.std.specs.List.{AllByRecursion}
use Rattle.type_graph.specs.declared.width.Width.TheVariants.{Two, Four}
use Rattle.type_graph.specs.declared.width.Order.TheVariants.{Big}
use Rattle.type_graph.specs.Words.{AllBelow, word}
use Rattle.type_graph.specs.Value.{count, node_at, Fits, FitAll, IsText, tape_of}
use Rattle.giop_types.specs.TapeParts.{counted, IsCounted, tagged, IsTagged, tagged_list, AreTagged}
use Rattle.giop_types.specs.TapeRefusal.{RefusesWriting}
use Rattle.giop_types.specs.declared.tapes.fault.TapeFault.{TapeFault}
use Rattle.giop_types.specs.GiopNodes.{giop_nodes}
use Rattle.giop_types.specs.Fields.{number_tree, octet_trees, octets_tree, struct_tree, tagged_tree, tagged_trees, tagged_list_tree}
use Rattle.giop_types.proofs.PartTrees.{count_octets, octets_counted, octets_tape, tagged_fits, tagged_tape, count_tagged, tagged_list_tape}
use Rattle.reference_texts.specs.References.{AreBelow, Reference, IsReference, reference_tape, reference_tree}
use Rattle.reference_texts.proofs.ListLaws.{octets_below, writing_weaker}
use Rattle.reference_texts.proofs.ReferenceTapes.{fitting}
use Rattle.giop_messages.specs.Headers.{key_target, profile_target, reference_target}
use Rattle.giop.specs.inner.Pushed.{FitsAsTarget, PushesTarget}

-- ---- results

pub on_ok_both : {T E : Type 0} (r : Result T E) (P Q R : Type 0) → (P → Q → R) → OnOk r P → OnOk r Q → OnOk r R
on_ok_both (Ok x) P Q R f p q = f p q
on_ok_both (Err e) P Q R f p q = tt

pub refused_weaker : {T : Type 0} (r : Result T TapeFault) (P Q : Type 0) → (P → Q)
    → IfErr r (λ fault. RefusesWriting fault P) → IfErr r (λ fault. RefusesWriting fault Q)
refused_weaker (Ok x) P Q f h = tt
refused_weaker (Err fault) P Q f h = writing_weaker fault P Q f h

-- ---- values that fit

octets_fit : (octets : List ℕ) (d : ℕ) → AllBelow 256 octets
    → FitAll giop_nodes (replicate (count (octet_trees octets)) 0) (octet_trees octets) d
octets_fit [] d below = tt
octets_fit (octet ∷ more) d below = (below.0, octets_fit more d below.1)

octets_value : (octets : List ℕ) (d : ℕ) → 1 ≤ d → AllBelow 256 octets → IsCounted octets
    → Fits giop_nodes (node_at giop_nodes 10) (octets_tree octets) d
octets_value octets d deep below short = (
  deep,
  record { in_bound = tt; short = omega (arith, count_octets octets, short) },
  octets_fit octets (d - 1) below,
)

tagged_value : (one : ℕ × List ℕ) (d : ℕ) → 1 ≤ d → AllBelow 256 one.1 → IsTagged one
    → Fits giop_nodes (node_at giop_nodes 11) (tagged_tree one) d
tagged_value one d deep below h = (h.tag, (octets_value one.1 d deep below h.octets, tt))

tagged_values : (all : List (ℕ × List ℕ)) (d : ℕ) → 1 ≤ d → AreBelow all → AllByRecursion IsTagged all
    → FitAll giop_nodes (replicate (count (tagged_trees all)) 11) (tagged_trees all) d
tagged_values [] d deep below h = tt
tagged_values (one ∷ more) d deep below h =
    (tagged_value one d deep below.0 h.0, tagged_values more d deep below.1 h.1)

list_value : (all : List (ℕ × List ℕ)) → AreBelow all → AreTagged all
    → Fits giop_nodes (node_at giop_nodes 12) (tagged_list_tree all) 64
list_value all below h = (
  omega arith,
  record { in_bound = tt; short = omega (arith, count_tagged all, h.short) },
  tagged_values all 63 (omega arith) below h.each,
)

-- ---- what is put there

-- a discriminator, and what stands behind it
joined : (before mid after label part value : List ℕ) → mid ≡ before ++ label → after ≡ mid ++ part → part ≡ value
    → after ≡ before ++ (label ++ (value ++ []))
joined before mid after label part value e f same =
    f ∙ ap₂ (λ (l m : List ℕ). l ++ m) e same ∙ append_assoc before label value
    ∙ ap (λ l. before ++ (label ++ l)) (sym (append-nil value))

pub key_pushed : (key before mid after : List ℕ) → ((i : ℕ) → get_or key i 0 < 256) → IsCounted key
    → mid ≡ before ++ word Big Two (pos 0) → after ≡ mid ++ counted key → PushesTarget (key_target key) before after
key_pushed key before mid after octets short e f =
    let below = octets_below key octets in
    record {
      fits = (omega arith, (octets_value key 64 (omega arith) below short, tt));
      tape_is = joined before mid after (word Big Two (pos 0)) (counted key)
          (tape_of giop_nodes (node_at giop_nodes 10) (octets_tree key)) e f (sym (octets_tape key below));
    }

pub profile_pushed : (one : ℕ × List ℕ) (before mid after : List ℕ) → ((i : ℕ) → get_or one.1 i 0 < 256)
    → IsTagged one → mid ≡ before ++ word Big Two (pos 1) → after ≡ mid ++ tagged one
    → PushesTarget (profile_target one) before after
profile_pushed one before mid after octets h e f =
    let below = octets_below one.1 octets in
    record {
      fits = (omega arith, (tagged_value one 64 (omega arith) below h, tt));
      tape_is = joined before mid after (word Big Two (pos 1)) (tagged one)
          (tape_of giop_nodes (node_at giop_nodes 11) (tagged_tree one)) e f (sym (tagged_tape one below));
    }

-- the tape of a number and a reference
selected_tape : (selected : ℕ) (reference : Reference) → AreBelow reference.profiles
    → word Big Four (pos selected) ++ reference_tape reference
    ≡ tape_of giop_nodes (node_at giop_nodes 15) (struct_tree (number_tree selected ∷ reference_tree reference ∷ []))
selected_tape selected reference below =
    let list = tape_of giop_nodes (node_at giop_nodes 12) (tagged_list_tree reference.profiles) in
    let same : tagged_list reference.profiles ≡ list = sym (tagged_list_tape reference.profiles below) in
    ap (λ l. word Big Four (pos selected) ++ (counted reference.type_id ++ l)) (same ∙ sym (append-nil list))
    ∙ ap (λ l. word Big Four (pos selected) ++ l) (sym (append-nil (counted reference.type_id ++ (list ++ []))))

pub reference_pushed : (selected : ℕ) (reference : Reference) (before mid more after : List ℕ) → selected < 2 ^ 32
    → IsText 0 reference.type_id → AreBelow reference.profiles → IsReference reference
    → mid ≡ before ++ word Big Two (pos 2) → more ≡ mid ++ word Big Four (pos selected)
    → after ≡ more ++ reference_tape reference
    → PushesTarget (reference_target selected reference.type_id reference.profiles) before after
reference_pushed selected reference before mid more after small text below h e f g =
    let number = word Big Four (pos selected) in
    let behind : after ≡ mid ++ (number ++ reference_tape reference) =
    g ∙ ap (λ l. l ++ reference_tape reference) f ∙ append_assoc mid number (reference_tape reference) in
    record {
      fits = (omega arith, ((small, ((text, (list_value reference.profiles below h.profiles, tt)), tt)), tt));
      tape_is = joined before mid after (word Big Two (pos 2)) (number ++ reference_tape reference)
          (tape_of giop_nodes (node_at giop_nodes 15)
          (struct_tree (number_tree selected ∷ reference_tree reference ∷ []))) e behind
          (selected_tape selected reference below);
    }

-- ---- what a target that fits says of its parts

pub key_counted : (key : List ℕ) → FitsAsTarget (key_target key) → IsCounted key
key_counted key f = octets_counted key 64 f.1.0

pub profile_tagged : (one : ℕ × List ℕ) → FitsAsTarget (profile_target one) → IsTagged one
profile_tagged one f = tagged_fits one 64 f.1.0

pub selected_reference : (selected : ℕ) (reference : Reference)
    → FitsAsTarget (reference_target selected reference.type_id reference.profiles) → IsReference reference
selected_reference selected reference f = fitting reference f.1.0.1.0
