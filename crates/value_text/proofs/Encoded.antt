-- The octets that are printed of a reference encode it.
use Rattle.std.proofs.Common.{◌≡◌, ℕ, suc, ◌+◌, ◌<◌, ◌^◌, pos, List, [], ◌∷◌, ◌++◌, length, replicate, refl, sym, ap, ap₂, ◌∙◌, subst, append_assoc, append-nil, length-append, add-one, arith}
use Rattle.std.proofs.lemmas.List.{length-replicate}
use Rattle.type_graph.specs.declared.width.Width.TheVariants.{One, Four}
use Rattle.type_graph.specs.declared.width.Order.TheVariants.{Big}
use Rattle.type_graph.specs.Words.{AllBelow, pad, word, writing}
use Rattle.type_graph.specs.Value.{Bytes, count, node_at}
use Rattle.type_graph.specs.Encoding.{Encoding, Just, Joined, Aligned, Encodes, EncodeAll}
use Rattle.type_graph.proofs.WordLaws.{pad_short, zeros_below, plain_word_one}
use Rattle.giop_types.specs.GiopNodes.{giop_nodes}
use Rattle.giop_types.specs.TapeParts.{IsCounted, IsTagged}
use Rattle.giop_types.specs.Fields.{number_tree, octet_trees, octets_tree, tagged_tree, tagged_trees, tagged_list_tree}
use Rattle.giop_types.proofs.PartTrees.{IsBelow, AreBelow, count_octets, count_tagged}
use Rattle.std.specs.List.{AllByRecursion}
use Rattle.value_text.specs.Printed.{long_of, with_long, with_text, with_octets, with_profile, with_each, with_profiles}
use Rattle.value_text.proofs.OctetParts.{long_same, octets_same}

-- behind the octets so far stand those of one thing more
pub record Behind (A : Encoding) (front new : List ℕ) : Type 0 where
  pub added : List ℕ
  pub is : new ≡ front ++ added
  pub at : A (length front) added

pub then : (A B : Encoding) (front mid new : List ℕ) → Behind A front mid → Behind B mid new
    → Behind (Joined A B) front new
then A B front mid new a b = record {
  added = a.added ++ b.added;
  is = b.is ∙ ap (λ l. l ++ b.added) a.is ∙ append_assoc front a.added b.added;
  at = record {
    octets1 = a.added;
    octets2 = b.added;
    octets_is = refl;
    first = a.at;
    second = subst (λ n. B n b.added) (ap length a.is ∙ length-append front a.added) b.at;
  };
}

pub nothing : (front : List ℕ) → Behind (Just []) front front
nothing front = record { added = []; is = sym (append-nil front); at = refl }

just : (octets front : List ℕ) → Behind (Just octets) front (front ++ octets)
just octets front = record { added = octets; is = refl; at = refl }

-- an unsigned long
long : (n : ℕ) (front : List ℕ) → Behind (Aligned (writing Big) Four (pos n)) front (with_long front n)
long n front =
    let gap = replicate (pad (length front) 4) 0 in
    record {
      added = gap ++ word Big Four (pos n);
      is = refl;
      at = record {
        octets1 = gap;
        octets2 = word Big Four (pos n);
        octets_is = refl;
        first = record {
          long = length-replicate (pad (length front) 4) 0;
          filled =
              zeros_below (pad (length front) 4);
        };
        second = refl;
      };
    }

-- an octet
octet : (n : ℕ) (front : List ℕ) → n < 256 → Behind (Aligned (writing Big) One (pos n)) front (front ++ n ∷ [])
octet n front below =
    let short = pad_short (length front) One in
    record {
      added = n ∷ [];
      is = refl;
      at = record {
        octets1 = [];
        octets2 = n ∷ [];
        octets_is = refl;
        first = record { long = omega (arith, short); filled = tt };
        second = sym (plain_word_one Big n below);
      };
    }

each_octet : (octets front : List ℕ) → AllBelow 256 octets
    → Behind (EncodeAll (writing Big) giop_nodes (replicate (count (octet_trees octets)) 0) (octet_trees octets)) front
    (front ++ octets)
each_octet [] front below = subst (Behind (Just []) front) (sym (append-nil front)) (nothing front)
each_octet (n ∷ more) front below =
    subst (Behind (EncodeAll (writing Big) giop_nodes (replicate (count (octet_trees (n ∷ more))) 0)
    (octet_trees (n ∷ more))) front)
    (append_assoc front (n ∷ []) more)
    (then (Aligned (writing Big) One (pos n))
    (EncodeAll (writing Big) giop_nodes (replicate (count (octet_trees more)) 0) (octet_trees more))
    front (front ++ n ∷ []) ((front ++ n ∷ []) ++ more) (octet n front below.0)
    (each_octet more (front ++ n ∷ []) below.1))

-- octets behind their count
counted : (octets front : List ℕ) → AllBelow 256 octets → IsCounted octets
    → Behind (Encodes (writing Big) giop_nodes (node_at giop_nodes 10) (octets_tree octets)) front
    (with_octets front (octets_tree octets))
counted octets front below short =
    let trees = octet_trees octets in
    let many : count trees < 2 ^ 32 = subst (λ n. n < 2 ^ 32) (sym (count_octets octets)) short in
    let mid = with_long front (count trees) in
    subst (Behind (Encodes (writing Big) giop_nodes (node_at giop_nodes 10) (octets_tree octets)) front)
    (ap₂ (λ n l. with_long front n ++ l) (sym (long_same (count trees) many)) (sym (octets_same octets below)))
    (then (Aligned (writing Big) Four (pos (count trees)))
    (EncodeAll (writing Big) giop_nodes (replicate (count trees) 0) trees)
    front mid (mid ++ octets) (long (count trees) front) (each_octet octets mid below))

-- a profile
tagged : (one : ℕ × List ℕ) (front : List ℕ) → IsBelow one → IsTagged one
    → Behind (Encodes (writing Big) giop_nodes (node_at giop_nodes 11) (tagged_tree one)) front
    (with_profile front (tagged_tree one))
tagged one front below is =
    let mid = with_long front (long_of (pos one.0)) in
    let new = with_octets mid (octets_tree one.1) in
    let Tag = Encodes (writing Big) giop_nodes (node_at giop_nodes 6) (number_tree one.0) in
    let Data = Encodes (writing Big) giop_nodes (node_at giop_nodes 10) (octets_tree one.1) in
    let tag : Behind Tag front mid =
    subst (λ n. Behind Tag front (with_long front n)) (sym (long_same one.0 is.tag)) (long one.0 front) in
    then Tag (Joined Data (Just [])) front mid new tag
    (then Data (Just []) mid new new (counted one.1 mid below is.octets) (nothing new))

each_tagged : (all : List (ℕ × List ℕ)) (front : List ℕ) → AreBelow all → AllByRecursion IsTagged all
    → Behind (EncodeAll (writing Big) giop_nodes (replicate (count (tagged_trees all)) 11) (tagged_trees all)) front
    (with_each front (tagged_trees all))
each_tagged [] front below are = nothing front
each_tagged (one ∷ more) front below are =
    let mid = with_profile front (tagged_tree one) in
    then (Encodes (writing Big) giop_nodes (node_at giop_nodes 11) (tagged_tree one))
    (EncodeAll (writing Big) giop_nodes (replicate (count (tagged_trees more)) 11) (tagged_trees more))
    front mid (with_each mid (tagged_trees more)) (tagged one front below.0 are.0) (each_tagged more mid below.1 are.1)

-- profiles behind their count
pub profiles : (all : List (ℕ × List ℕ)) (front : List ℕ) → AreBelow all → AllByRecursion IsTagged all
    → length all < 2 ^ 32
    → Behind (Encodes (writing Big) giop_nodes (node_at giop_nodes 12) (tagged_list_tree all)) front
    (with_profiles front (tagged_list_tree all))
profiles all front below are short =
    let trees = tagged_trees all in
    let many : count trees < 2 ^ 32 = subst (λ n. n < 2 ^ 32) (sym (count_tagged all)) short in
    let mid = with_long front (count trees) in
    subst (λ n. Behind (Encodes (writing Big) giop_nodes (node_at giop_nodes 12) (tagged_list_tree all)) front
    (with_each (with_long front n) trees))
    (sym (long_same (count trees) many))
    (then (Aligned (writing Big) Four (pos (count trees)))
    (EncodeAll (writing Big) giop_nodes (replicate (count trees) 11) trees)
    front mid (with_each mid trees) (long (count trees) front) (each_tagged all mid below are))

-- a string
pub text : (octets front : List ℕ) → suc (length octets) < 2 ^ 32
    → Behind (Encodes (writing Big) giop_nodes (node_at giop_nodes 9) (Bytes octets)) front
    (with_text front (Bytes octets))
text octets front short =
    let n = length octets in
    let mid = with_long front (suc n) in
    let same : long_of (pos (n + 1)) ≡ suc n = ap (λ m. long_of (pos m)) (add-one n) ∙ long_same (suc n) short in
    subst (λ m. Behind (Encodes (writing Big) giop_nodes (node_at giop_nodes 9) (Bytes octets)) front
    (with_long front m ++ (octets ++ 0 ∷ [])))
    (sym same)
    (then (Aligned (writing Big) Four (pos (suc n))) (Just (octets ++ 0 ∷ [])) front mid (mid ++ (octets ++ 0 ∷ []))
    (long (suc n) front)
    (just (octets ++ 0 ∷ []) mid))
