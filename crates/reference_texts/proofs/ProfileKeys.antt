-- A profile tells at most one key.
use Rattle.std.proofs.Common.{◌≡◌, ℕ, zero, suc, ◌<◌, pos, List, [], ◌∷◌, ◌++◌, length, refl, sym, ap, ap₂, ◌∙◌, subst, arith}
use Rattle.type_graph.specs.declared.width.Order.{Order}
use Rattle.type_graph.specs.declared.width.Width.TheVariants.{One}
use Rattle.type_graph.specs.Words.{Format, reading}
use Rattle.type_graph.specs.Value.{node_at}
use Rattle.type_graph.specs.Encoding.{Aligned}
use Rattle.type_graph.proofs.WordLaws.{pad_short, plain_word_one}
use Rattle.type_graph.proofs.OneTape.{graph_fits_words}
use Rattle.type_graph.proofs.OneReading.{one_reading}
use Rattle.giop_types.specs.GiopNodes.{giop_nodes}
use Rattle.giop_types.specs.Fields.{Holds, octet_trees}
use Rattle.giop_types.proofs.GraphFacts.{giop_is_graph}
use Rattle.reference_texts.specs.Encapsulations.{flag_of}
use Rattle.reference_texts.specs.Profiles.{Body, body_node, body_tree, HasKey}
use Rattle.reference_texts.proofs.Encapsulated.{orders_same}
use Rattle.reference_texts.proofs.TreeLaws.{octets_same}

no_octets : (xs : List ℕ) → length xs < 1 → xs ≡ []
no_octets [] h = refl
no_octets (x ∷ xs) h = absurd (omega (arith, h))

-- an octet has no gap
octet_is : (format : Format) (n p : ℕ) (octets : List ℕ) → n < 256 → Aligned format One (pos n) p octets
    → octets ≡ n ∷ []
octet_is format n p octets small a =
    let gap : length a.octets1 < 1 = omega (arith, a.first.long, pad_short p One) in
    a.octets_is ∙ ap₂ (λ (l k : List ℕ). l ++ k) (no_octets a.octets1 gap)
    (a.second ∙ plain_word_one format.order n small)

-- a body begins with its version
record Versioned (octets : List ℕ) (major minor : ℕ) : Type 0 where
  more : List ℕ
  octets_are : octets ≡ major ∷ minor ∷ more

versioned : (format : Format) (n : ℕ) (body : Body) (octets : List ℕ)
    → Holds format (body_node n) 1 (body_tree body n) octets
    → Versioned octets body.major body.minor
versioned format zero body octets h =
    let behind = h.encodes.second in
    record {
      more = behind.octets2;
      octets_are = h.encodes.octets_is
          ∙ ap₂ (λ (l k : List ℕ). l ++ k) (octet_is format body.major _ _ h.fits.0 h.encodes.first)
          (behind.octets_is ∙ ap (λ l. l ++ behind.octets2) (octet_is format body.minor _ _ h.fits.1.0 behind.first));
    }
versioned format (suc n) body octets h =
    let behind = h.encodes.second in
    record {
      more = behind.octets2;
      octets_are = h.encodes.octets_is
          ∙ ap₂ (λ (l k : List ℕ). l ++ k) (octet_is format body.major _ _ h.fits.0 h.encodes.first)
          (behind.octets_is ∙ ap (λ l. l ++ behind.octets2) (octet_is format body.minor _ _ h.fits.1.0 behind.first));
    }

minors_same : (x y r s : List ℕ) (a b c d : ℕ) → Versioned x a b → Versioned y c d → x ++ r ≡ y ++ s → b ≡ d
minors_same x y r s a b c d v w e =
    let same : a ∷ b ∷ (v.more ++ r) ≡ c ∷ d ∷ (w.more ++ s) =
    ap (λ l. l ++ r) (sym v.octets_are) ∙ e ∙ ap (λ l. l ++ s) w.octets_are in
    cc

keys_same : (n : ℕ) (a b : Body) → body_tree a n ≡ body_tree b n → a.key ≡ b.key
keys_same zero a b e =
    let keys : octet_trees a.key ≡ octet_trees b.key = cc in
    octets_same a.key b.key keys
keys_same (suc n) a b e =
    let keys : octet_trees a.key ≡ octet_trees b.key = cc in
    octets_same a.key b.key keys

bodies_once : (order : Order) (a b : Body) (n m : ℕ) (x y r s : List ℕ) → n ≡ m
    → Holds (reading order) (body_node n) 1 (body_tree a n) x → Holds (reading order) (body_node m) 1 (body_tree b m) y
    → x ++ r ≡ y ++ s → a.key ≡ b.key
bodies_once order a b n m x y r s same h k e =
    let moved = subst (λ (i : ℕ). Holds (reading order) (body_node i) 1 (body_tree b i) y) (sym same) k in
    let words = graph_fits_words giop_nodes giop_is_graph in
    let one = one_reading giop_nodes words (reading order) (node_at giop_nodes (body_node n)) (body_tree a n)
    (body_tree b n)
    64 64 1 x y r s (words (body_node n)) h.fits moved.fits h.encodes moved.encodes e in
    keys_same n a b one.0

pub profile_key_once : (profile : ℕ × List ℕ) (a b : List ℕ) → HasKey profile a → HasKey profile b → a ≡ b
profile_key_once profile a b h k =
    let x = h.encapsulated in
    let y = k.encapsulated in
    let same : flag_of x.order ∷ (x.body ++ x.rest) ≡ flag_of y.order ∷ (y.body ++ y.rest) =
    sym x.octets_are ∙ y.octets_are in
    let flags : flag_of x.order ≡ flag_of y.order = cc in
    let octets : x.body ++ x.rest ≡ y.body ++ y.rest = cc in
    let orders = orders_same x.order y.order flags in
    let minor = minors_same x.body y.body x.rest y.rest h.body.major h.body.minor k.body.major k.body.minor
    (versioned (reading x.order) h.body.minor h.body x.body x.holds)
    (versioned (reading y.order) k.body.minor k.body y.body y.holds) octets in
    let moved = subst
    (λ (o : Order). Holds (reading o) (body_node k.body.minor) 1 (body_tree k.body k.body.minor) y.body) (sym orders)
    y.holds in
    sym h.key_is
    ∙ bodies_once x.order h.body k.body h.body.minor k.body.minor x.body y.body x.rest y.rest minor x.holds moved octets
    ∙ k.key_is
