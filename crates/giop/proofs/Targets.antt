-- What the tape of a target address is made of.
use Rattle.std.proofs.Common.{◌≡◌, ℕ, ◌^◌, ◌<◌, ℤ, pos, Bool, true, false, List, [], ◌∷◌, ◌++◌, None, if◌then◌else◌, refl, sym, ap, ap₂, ◌∙◌, append-nil, append_assoc, subst, arith}
use Rattle.std.specs.Ordering.{int_eq}
use Rattle.std.proofs.lemmas.Bool.Decides.{Decides-int_eq}
use Rattle.type_graph.specs.declared.width.Width.TheVariants.{Two, Four}
use Rattle.type_graph.specs.declared.width.Order.TheVariants.{Big}
use Rattle.type_graph.specs.declared.node.Node.TheVariants as nodes
use Rattle.type_graph.specs.Words.{twos_complement, word}
use Rattle.type_graph.specs.Value.{Tree, Number, Bytes, Items, Choice, Trees, NoTree, AndTree, node_at, arm_of, Fits, FitAll, IsSigned, tape_of, tapes_of}
use Rattle.type_graph.proofs.WordLaws.{length-word, plain_word_same}
use Rattle.type_graph.proofs.OneTape.{cut_same, number_same}
use Rattle.giop_types.specs.GiopNodes.{giop_nodes}
use Rattle.giop_types.specs.Fields.{number_tree, struct_tree, trees, tagged_list_tree}
use Rattle.giop_messages.specs.Headers.{key_target, profile_target, reference_target}
use Rattle.giop_types.specs.TapeParts.{counted, IsCounted, tagged_list, AreTagged}
use Rattle.giop.specs.inner.Tapes.{Begins, HasValue, CountedFront, TaggedFront, SelectedFront}
use Rattle.giop_types.proofs.PartTrees.{long_shape, struct_shape, text_shape, text_counted}
use Rattle.reference_texts.proofs.Shapes.{peel, none_left, counted_value, tag_value, tag_list}

abbrev arms : List (ℤ × ℕ)
arms = (pos 0, 10) ∷ (pos 1, 11) ∷ (pos 2, 15) ∷ []

record Chosen (target : Tree) (d : ℕ) : Type 0 where
  label : ℤ
  values : Trees
  is : target ≡ Choice label values
  number : IsSigned Two label
  fits : FitAll giop_nodes (arm_of arms None label) values d

chosen : (target : Tree) (d : ℕ) → Fits giop_nodes (nodes.Union 3 arms None) target d → Chosen target d
chosen (Number n) d f = absurd f
chosen (Bytes text) d f = absurd f
chosen (Items values) d f = absurd f
chosen (Choice label values) d f = record { label = label; values = values; is = refl; number = f.0; fits = f.1 }

-- what stands behind the discriminator
record Labelled (n : ℕ) (target : Tree) (behind rest : List ℕ) : Type 0 where
  label : ℤ
  values : Trees
  is : target ≡ Choice label values
  number : IsSigned Two label
  fits : FitAll giop_nodes (arm_of arms None label) values 64
  same : word Big Two label ≡ word Big Two (pos n)
  tail : behind ≡ tapes_of giop_nodes (arm_of arms None label) values ++ rest

labelled : (n : ℕ) (target : Tree) (tape behind rest : List ℕ) → Begins 16 target tape rest
    → tape ≡ word Big Two (pos n) ++ behind → Labelled n target behind rest
labelled n target tape behind rest begins e =
    let c = chosen target 64 begins.fits in
    let parts = tapes_of giop_nodes (arm_of arms None c.label) c.values in
    let spelled : tape_of giop_nodes (node_at giop_nodes 16) target ≡ word Big Two c.label ++ parts =
    ap (tape_of giop_nodes (node_at giop_nodes 16)) c.is in
    let all : word Big Two c.label ++ (parts ++ rest) ≡ word Big Two (pos n) ++ behind =
    sym (append_assoc (word Big Two c.label) parts rest) ∙ ap (λ l. l ++ rest) (sym spelled) ∙ sym begins.tape_is ∙ e in
    let cut = cut_same (word Big Two c.label) (word Big Two (pos n)) (parts ++ rest) behind
    (length-word Big Two c.label ∙ sym (length-word Big Two (pos n))) all in
    record {
      label = c.label;
      values = c.values;
      is = c.is;
      number = c.number;
      fits = c.fits;
      same = cut.0;
      tail = sym cut.1;
    }

-- a small number is the discriminator itself
known : (n : ℕ) (target : Tree) (behind rest : List ℕ) → n < 2 ^ 15 → (l : Labelled n target behind rest)
    → l.label ≡ pos n
known n target behind rest small l = number_same (nodes.Integer Two true) l.label (pos n) tt l.number small l.same

-- what stands behind a known discriminator
record Known (arm : ℕ) (target : Tree) (n : ℕ) (behind rest : List ℕ) : Type 0 where
  value : Tree
  is : target ≡ Choice (pos n) (trees (value ∷ []))
  fits : Fits giop_nodes (node_at giop_nodes arm) value 64
  tail : behind ≡ tape_of giop_nodes (node_at giop_nodes arm) value ++ rest

known_arm : (n arm : ℕ) (target : Tree) (behind rest : List ℕ) → n < 2 ^ 15 → arm_of arms None (pos n) ≡ arm ∷ []
    → Labelled n target behind rest → Known arm target n behind rest
known_arm n arm target behind rest small armed l =
    let label = known n target behind rest small l in
    let numbers : arm_of arms None l.label ≡ arm ∷ [] = ap (arm_of arms None) label ∙ armed in
    let fits = subst (λ (ns : List ℕ). FitAll giop_nodes ns l.values 64) numbers l.fits in
    let p = peel arm [] l.values 64 fits in
    let values : l.values ≡ trees (p.value ∷ []) = p.is ∙ ap (AndTree p.value) (none_left p.more 64 p.rest) in
    record {
      value = p.value;
      is = l.is ∙ ap₂ Choice label values;
      fits = p.fits;
      tail = l.tail ∙ ap (λ ns. tapes_of giop_nodes ns l.values ++ rest) numbers
          ∙ ap (λ vs. tapes_of giop_nodes (arm ∷ []) vs ++ rest) values
          ∙ ap (λ ts. ts ++ rest) (append-nil (tape_of giop_nodes (node_at giop_nodes arm) p.value));
    }

-- by the key
pub record KeyPart (target : Tree) (behind rest : List ℕ) : Type 0 where
  pub key : List ℕ
  pub is : target ≡ key_target key
  pub front : CountedFront behind key rest

pub key_part : (target : Tree) (tape behind rest : List ℕ) → Begins 16 target tape rest
    → tape ≡ word Big Two (pos 0) ++ behind → KeyPart target behind rest
key_part target tape behind rest begins e =
    let k = known_arm 0 10 target behind rest (omega arith) refl (labelled 0 target tape behind rest begins e) in
    let o = counted_value k.value 64 k.fits in
    record {
      key = o.list;
      is = k.is ∙ ap (λ v. Choice (pos 0) (trees (v ∷ []))) o.is;
      front = record { short = o.short; front = k.tail ∙ ap (λ l. l ++ rest) o.tape };
    }

-- by a profile
pub record ProfilePart (target : Tree) (behind rest : List ℕ) : Type 0 where
  pub profile : ℕ × List ℕ
  pub is : target ≡ profile_target profile
  pub front : TaggedFront behind profile rest

pub profile_part : (target : Tree) (tape behind rest : List ℕ) → Begins 16 target tape rest
    → tape ≡ word Big Two (pos 1) ++ behind → ProfilePart target behind rest
profile_part target tape behind rest begins e =
    let k = known_arm 1 11 target behind rest (omega arith) refl (labelled 1 target tape behind rest begins e) in
    let t = tag_value k.value 64 k.fits in
    record {
      profile = t.one;
      is = k.is ∙ ap (λ v. Choice (pos 1) (trees (v ∷ []))) t.is;
      front = record { short = t.tagged_is; front = k.tail ∙ ap (λ l. l ++ rest) t.tape };
    }

-- by a profile of an object reference
pub record ReferencePart (target : Tree) (behind rest : List ℕ) : Type 0 where
  pub selected : ℕ
  pub type_id : List ℕ
  pub profiles : List (ℕ × List ℕ)
  pub is : target ≡ reference_target selected type_id profiles
  pub front : SelectedFront behind selected type_id profiles rest

-- an object reference
record Reference (value : Tree) : Type 0 where
  type_id : List ℕ
  profiles : List (ℕ × List ℕ)
  is : value ≡ struct_tree (Bytes type_id ∷ tagged_list_tree profiles ∷ [])
  short : IsCounted type_id
  are : AreTagged profiles
  tape : tape_of giop_nodes (nodes.Struct (9 ∷ 12 ∷ [])) value ≡ counted type_id ++ tagged_list profiles

reference : (value : Tree) (d : ℕ) → Fits giop_nodes (nodes.Struct (9 ∷ 12 ∷ [])) value d → Reference value
reference value d f =
    let m = struct_shape (9 ∷ 12 ∷ []) value d f in
    let a = peel 9 (12 ∷ []) m.values d m.fits in
    let b = peel 12 [] a.more d a.rest in
    let t = text_shape a.value d a.fits in
    let ps = tag_list b.value d b.fits in
    let is : value ≡ struct_tree (Bytes t.text ∷ tagged_list_tree ps.all ∷ []) =
    m.is ∙ ap Items (a.is ∙ ap₂ AndTree t.is (b.is ∙ ap₂ AndTree ps.is (none_left b.more d b.rest))) in
    let list : tape_of giop_nodes (nodes.Seq 11 0) (tagged_list_tree ps.all) ≡ tagged_list ps.all =
    ap (tape_of giop_nodes (nodes.Seq 11 0)) (sym ps.is) ∙ ps.tape in
    record {
      type_id = t.text;
      profiles = ps.all;
      is = is;
      short = text_counted t.text t.fits;
      are = ps.are;
      tape = ap (tape_of giop_nodes (nodes.Struct (9 ∷ 12 ∷ []))) is
          ∙ ap (λ l. counted t.text ++ (l ++ [])) list
          ∙ ap (λ l. counted t.text ++ l) (append-nil (tagged_list ps.all));
    }

pub reference_part : (target : Tree) (tape behind rest : List ℕ) → Begins 16 target tape rest
    → tape ≡ word Big Two (pos 2) ++ behind → ReferencePart target behind rest
reference_part target tape behind rest begins e =
    let k = known_arm 2 15 target behind rest (omega arith) refl (labelled 2 target tape behind rest begins e) in
    let m = struct_shape (6 ∷ 13 ∷ []) k.value 64 k.fits in
    let a = peel 6 (13 ∷ []) m.values 64 m.fits in
    let b = peel 13 [] a.more 64 a.rest in
    let n = long_shape a.value 64 a.fits in
    let r = reference b.value 64 b.fits in
    let id = counted r.type_id in
    let list = tagged_list r.profiles in
    let is : k.value ≡ struct_tree
    (number_tree n.n ∷ struct_tree (Bytes r.type_id ∷ tagged_list_tree r.profiles ∷ []) ∷ []) =
    m.is ∙ ap Items (a.is ∙ ap₂ AndTree n.is (b.is ∙ ap₂ AndTree r.is (none_left b.more 64 b.rest))) in
    let inner : tape_of giop_nodes (nodes.Struct (9 ∷ 12 ∷ []))
    (struct_tree (Bytes r.type_id ∷ tagged_list_tree r.profiles ∷ [])) ≡ id ++ list =
    ap (tape_of giop_nodes (nodes.Struct (9 ∷ 12 ∷ []))) (sym r.is) ∙ r.tape in
    let spelled : tape_of giop_nodes (node_at giop_nodes 15) k.value ≡ word Big Four (pos n.n) ++ (id ++ list) =
    ap (tape_of giop_nodes (node_at giop_nodes 15)) is
    ∙ ap (λ l. word Big Four (pos n.n) ++ (l ++ [])) inner
    ∙ ap (λ l. word Big Four (pos n.n) ++ l) (append-nil (id ++ list)) in
    record {
      selected = n.n;
      type_id = r.type_id;
      profiles = r.profiles;
      is = k.is ∙ ap (λ v. Choice (pos 2) (trees (v ∷ []))) is;
      front = record {
        small = n.below;
        short = r.short;
        are = r.are;
        front = k.tail ∙ ap (λ l. l ++ rest) spelled
            ∙ append_assoc (word Big Four (pos n.n)) (id ++ list) rest
            ∙ ap (λ l. word Big Four (pos n.n) ++ l) (append_assoc id list rest);
      };
    }

-- by none of them
pub record OtherPart (target : Tree) (behind rest : List ℕ) : Type 0 where
  pub label : ℤ
  pub is : target ≡ Choice label NoTree
  pub tail : behind ≡ rest

not_true : (b : Bool) → (b ≡ true → ⊥) → b ≡ false
not_true true h = absurd (h refl)
not_true false h = refl

-- a label that is none of those of the arms
skipped : (a label : ℤ) (arm : ℕ) (more rest : List ℕ) → (label ≡ a → ⊥)
    → (if int_eq a label then arm ∷ more else rest) ≡ rest
skipped a label arm more rest ne =
    let unlike = not_true (int_eq a label) (λ e. ne (sym ((Decides-int_eq a label).0 e))) in
    ap (λ (b : Bool). if b then arm ∷ more else rest) unlike

no_arm : (label : ℤ) → (label ≡ pos 0 → ⊥) → (label ≡ pos 1 → ⊥) → (label ≡ pos 2 → ⊥)
    → arm_of arms None label ≡ []
no_arm label a b c =
    skipped (pos 0) label 10 [] (arm_of ((pos 1, 11) ∷ (pos 2, 15) ∷ []) None label) a
    ∙ skipped (pos 1) label 11 [] (arm_of ((pos 2, 15) ∷ []) None label) b
    ∙ skipped (pos 2) label 15 [] [] c

-- the label is no number that has another word
unlike : (m n : ℕ) (label : ℤ) → word Big Two label ≡ word Big Two (pos n) → m < 2 ^ 16 → n < 2 ^ 16 → (m ≡ n → ⊥)
    → label ≡ pos m → ⊥
unlike m n label same hm hn ne e =
    ne (plain_word_same Big Two m n hm hn (ap (word Big Two) (sym e) ∙ same))

pub other_part : (n : ℕ) (target : Tree) (tape behind rest : List ℕ) → Begins 16 target tape rest
    → tape ≡ word Big Two (pos n) ++ behind → n < 2 ^ 16 → (0 ≡ n → ⊥) → (1 ≡ n → ⊥) → (2 ≡ n → ⊥)
    → OtherPart target behind rest
other_part n target tape behind rest begins e small n0 n1 n2 =
    let l = labelled n target tape behind rest begins e in
    let numbers = no_arm l.label (unlike 0 n l.label l.same (omega arith) small n0)
    (unlike 1 n l.label l.same (omega arith) small n1) (unlike 2 n l.label l.same (omega arith) small n2) in
    let fits = subst (λ (ns : List ℕ). FitAll giop_nodes ns l.values 64) numbers l.fits in
    record {
      label = l.label;
      is = l.is ∙ ap (Choice l.label) (none_left l.values 64 fits);
      tail = l.tail ∙ ap (λ ns. tapes_of giop_nodes ns l.values ++ rest) numbers;
    }

-- a discriminator stands in front of each of them
pub record HasLabel (tape : List ℕ) : Type 0 where
  pub n : ℕ
  pub rest : List ℕ
  pub front : tape ≡ word Big Two (pos n) ++ rest

pub has_label : (tape : List ℕ) → HasValue 16 tape → HasLabel tape
has_label tape h =
    let c = chosen h.value 64 h.begins.fits in
    let parts = tapes_of giop_nodes (arm_of arms None c.label) c.values in
    record {
      n = twos_complement 2 c.label;
      rest = parts ++ h.rest;
      front = h.begins.tape_is
          ∙ ap (λ v. tape_of giop_nodes (node_at giop_nodes 16) v ++ h.rest) c.is
          ∙ append_assoc (word Big Two c.label) parts h.rest;
    }
