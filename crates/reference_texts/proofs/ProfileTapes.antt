-- The tapes of the bodies of profiles that are written.
use Rattle.std.proofs.Common.{◌≡◌, ℕ, ◌^◌, ◌<◌, pos, List, [], ◌∷◌, ◌++◌, sym, ap, ap₂, ◌∙◌, subst, arith}
use Rattle.type_graph.specs.declared.width.Width.{Width}
use Rattle.type_graph.specs.declared.width.Width.TheVariants.{One, Two, Four}
use Rattle.type_graph.specs.declared.width.Order.TheVariants.{Big}
use Rattle.type_graph.specs.Words.{words_of, word}
use Rattle.type_graph.specs.Value.{Tree, Items, AndTree, node_at, Fits, tape_of}
use Rattle.type_graph.proofs.WordLaws.{length-word, plain_word_same}
use Rattle.type_graph.proofs.OneTape.{cut_same}
use Rattle.giop_types.specs.GiopNodes.{giop_nodes}
use Rattle.giop_types.specs.Fields.{octets_tree, tagged_list_tree}
use Rattle.giop_types.proofs.PartTrees.{octet_shape, short_shape, struct_shape, text_shape, text_counted, octets_below, octets_counted, octets_tape}
use Rattle.giop_types.specs.TapeParts.{counted, IsCounted, tagged_list, AreTagged}
use Rattle.giop_types.proofs.PartLaws.{counted_front, tagged_list_front}
use Rattle.reference_texts.specs.Encapsulations.{IsWritten, IsOfTape}
use Rattle.reference_texts.specs.Profiles.{body_tree, new_body, profile_tape, IsProfile}
use Rattle.reference_texts.proofs.Shapes.{peel, none_left, counted_value, tag_list}

abbrev whole_tree : ℕ → ℕ → List ℕ → ℕ → List ℕ → List (ℕ × List ℕ) → Tree
whole_tree major minor host port key components =
    body_tree
    (record { major = major; minor = minor; host = host; port = port; key = key; components = components }) 2

-- the value that is written
abbrev new_tree : List ℕ → ℕ → List ℕ → Tree
new_tree host port key = body_tree (new_body host port key) 2

word_front : (w : Width) (m n : ℕ) (r s : List ℕ) → m < words_of w → n < words_of w
    → word Big w (pos m) ++ r ≡ word Big w (pos n) ++ s → (m ≡ n) × (r ≡ s)
word_front w m n r s small below e =
    let parts = cut_same (word Big w (pos m)) (word Big w (pos n)) r s
    (length-word Big w (pos m) ∙ sym (length-word Big w (pos n))) e in
    (plain_word_same Big w m n small below parts.0, parts.1)

-- the tape of a body, part by part
abbrev spelled : ℕ → ℕ → List ℕ → ℕ → List ℕ → List ℕ → List ℕ
spelled major minor host port key rest =
    word Big One (pos major)
    ++ (word Big One (pos minor) ++ (counted host ++ (word Big Two (pos port) ++ (counted key ++ rest))))

record Same (major minor : ℕ) (host : List ℕ) (port : ℕ) (key rest : List ℕ)
    (m n : ℕ) (h : List ℕ) (p : ℕ) (k r : List ℕ) : Type 0 where
  majors : major ≡ m
  minors : minor ≡ n
  hosts : host ≡ h
  ports : port ≡ p
  keys : key ≡ k
  rests : rest ≡ r

bodies_same : (major minor : ℕ) (host : List ℕ) (port : ℕ) (key rest : List ℕ) (m n : ℕ) (h : List ℕ) (p : ℕ)
    (k r : List ℕ)
    → major < 256 → minor < 256 → IsCounted host → port < 2 ^ 16 → IsCounted key
    → m < 256 → n < 256 → IsCounted h → p < 2 ^ 16 → IsCounted k
    → spelled major minor host port key rest ≡ spelled m n h p k r → Same major minor host port key rest m n h p k r
bodies_same major minor host port key rest m n h p k r a b c d e a2 b2 c2 d2 e2 same =
    let one = word_front One major m
    (word Big One (pos minor) ++ (counted host ++ (word Big Two (pos port) ++ (counted key ++ rest))))
    (word Big One (pos n) ++ (counted h ++ (word Big Two (pos p) ++ (counted k ++ r)))) a a2 same in
    let two = word_front One minor n (counted host ++ (word Big Two (pos port) ++ (counted key ++ rest)))
    (counted h ++ (word Big Two (pos p) ++ (counted k ++ r))) b b2 one.1 in
    let three = counted_front host h (word Big Two (pos port) ++ (counted key ++ rest))
    (word Big Two (pos p) ++ (counted k ++ r)) c c2 two.1 in
    let four = word_front Two port p (counted key ++ rest) (counted k ++ r) d d2 three.1 in
    let five = counted_front key k rest r e e2 four.1 in
    record { majors = one.0; minors = two.0; hosts = three.0; ports = four.0; keys = five.0; rests = five.1 }

none_tagged : AreTagged []
none_tagged = record { short = omega arith; each = tt }

-- what fits as a body
record OfBody (value : Tree) : Type 0 where
  major : ℕ
  minor : ℕ
  host : List ℕ
  port : ℕ
  key : List ℕ
  components : List (ℕ × List ℕ)
  is : value ≡ whole_tree major minor host port key components
  major_small : major < 256
  minor_small : minor < 256
  host_counted : IsCounted host
  port_small : port < 2 ^ 16
  key_counted : IsCounted key
  tagged : AreTagged components
  tape : tape_of giop_nodes (node_at giop_nodes 25) value
      ≡ spelled major minor host port key (tagged_list components ++ [])

body_value : (value : Tree) → Fits giop_nodes (node_at giop_nodes 25) value 64 → OfBody value
body_value value fits =
    let m = struct_shape (0 ∷ 0 ∷ 9 ∷ 4 ∷ 10 ∷ 12 ∷ []) value 64 fits in
    let a = peel 0 (0 ∷ 9 ∷ 4 ∷ 10 ∷ 12 ∷ []) m.values 64 m.fits in
    let b = peel 0 (9 ∷ 4 ∷ 10 ∷ 12 ∷ []) a.more 64 a.rest in
    let c = peel 9 (4 ∷ 10 ∷ 12 ∷ []) b.more 64 b.rest in
    let d = peel 4 (10 ∷ 12 ∷ []) c.more 64 c.rest in
    let e = peel 10 (12 ∷ []) d.more 64 d.rest in
    let f = peel 12 [] e.more 64 e.rest in
    let i = octet_shape a.value 64 a.fits in
    let j = octet_shape b.value 64 b.fits in
    let t = text_shape c.value 64 c.fits in
    let p = short_shape d.value 64 d.fits in
    let k = counted_value e.value 64 e.fits in
    let l = tag_list f.value 64 f.fits in
    let is : value ≡ whole_tree i.n j.n t.text p.n k.list l.all =
    m.is ∙ ap Items (a.is ∙ ap₂ AndTree i.is (b.is ∙ ap₂ AndTree j.is (c.is ∙ ap₂ AndTree t.is (d.is ∙ ap₂ AndTree p.is
    (e.is ∙ ap₂ AndTree k.is (f.is ∙ ap₂ AndTree l.is (none_left f.more 64 f.rest))))))) in
    let keys : tape_of giop_nodes (node_at giop_nodes 10) (octets_tree k.list) ≡ counted k.list =
    ap (tape_of giop_nodes (node_at giop_nodes 10)) (sym k.is) ∙ k.tape in
    let lists : tape_of giop_nodes (node_at giop_nodes 12) (tagged_list_tree l.all) ≡ tagged_list l.all =
    ap (tape_of giop_nodes (node_at giop_nodes 12)) (sym l.is) ∙ l.tape in
    record {
      major = i.n;
      minor = j.n;
      host = t.text;
      port = p.n;
      key = k.list;
      components = l.all;
      is = is;
      major_small = i.below;
      minor_small = j.below;
      host_counted = text_counted t.text t.fits;
      port_small = p.below;
      key_counted = k.short;
      tagged = l.are;
      tape = ap (tape_of giop_nodes (node_at giop_nodes 25)) is
          ∙ ap₂ (λ (x y : List ℕ). word Big One (pos i.n) ++ (word Big One (pos j.n) ++ (counted t.text
          ++ (word Big Two (pos p.n) ++ (x ++ (y ++ []))))))
          keys lists;
    }

trees_same : (a b : ℕ) (h : List ℕ) (p : ℕ) (k : List ℕ) (c : List (ℕ × List ℕ)) (a2 b2 : ℕ) (h2 : List ℕ) (p2 : ℕ)
    (k2 : List ℕ)
    (c2 : List (ℕ × List ℕ)) → a ≡ a2 → b ≡ b2 → h ≡ h2 → p ≡ p2 → k ≡ k2 → c ≡ c2
    → whole_tree a b h p k c ≡ whole_tree a2 b2 h2 p2 k2 c2
trees_same a b h p k c a2 b2 h2 p2 k2 c2 e f g i j l = cc

-- the one value with this tape
new_value : (host : List ℕ) (port : ℕ) (key : List ℕ) (value : Tree) → IsCounted host → port < 2 ^ 16 → IsCounted key
    → OfBody value → tape_of giop_nodes (node_at giop_nodes 25) value ≡ profile_tape host port key
    → value ≡ new_tree host port key
new_value host port key value h p k o tape =
    let s = bodies_same o.major o.minor o.host o.port o.key (tagged_list o.components ++ []) 1 2 host port key
    (word Big Four (pos 0)) o.major_small o.minor_small o.host_counted o.port_small o.key_counted (omega arith)
    (omega arith)
    h p k (sym o.tape ∙ tape) in
    let none = tagged_list_front o.components [] [] [] o.tagged none_tagged s.rests in
    o.is
    ∙ trees_same o.major o.minor o.host o.port o.key o.components 1 2 host port key [] s.majors s.minors s.hosts s.ports
    s.keys none.0

-- what a body that fits says of its parts
pub fitting_host : (host : List ℕ) (port : ℕ) (key : List ℕ)
    → Fits giop_nodes (node_at giop_nodes 25) (new_tree host port key) 64 → IsCounted host
fitting_host host port key f = text_counted host f.1.1.0

pub fitting_key : (host : List ℕ) (port : ℕ) (key : List ℕ)
    → Fits giop_nodes (node_at giop_nodes 25) (new_tree host port key) 64 → IsCounted key
fitting_key host port key f = octets_counted key 64 f.1.1.1.1.0

tape_spelled : (host : List ℕ) (port : ℕ) (key : List ℕ)
    → Fits giop_nodes (node_at giop_nodes 25) (new_tree host port key) 64
    → tape_of giop_nodes (node_at giop_nodes 25) (new_tree host port key) ≡ profile_tape host port key
tape_spelled host port key f =
    ap (λ k. word Big One (pos 1)
    ++ (word Big One (pos 2) ++ (counted host ++ (word Big Two (pos port) ++ (k ++ word Big Four (pos 0))))))
    (octets_tape key (octets_below key 64 f.1.1.1.1.0))

pub profile_written : (host : List ℕ) (port : ℕ) (key tape octets : List ℕ) → IsCounted host → port < 2 ^ 16
    → IsCounted key → tape ≡ profile_tape host port key → IsOfTape 25 tape octets → IsProfile host port key octets
profile_written host port key tape octets h p k e w =
    let same = new_value host port key w.value h p k (body_value w.value w.written.holds.fits) (sym w.tape_is ∙ e) in
    record { written = subst (λ (value : Tree). IsWritten 25 value octets) same w.written }

pub profile_unwritten : (host : List ℕ) (port : ℕ) (key tape octets : List ℕ) → tape ≡ profile_tape host port key
    → IsProfile host port key octets → IsOfTape 25 tape octets
profile_unwritten host port key tape octets e is = record {
  value = new_tree host port key;
  written = is.written;
  tape_is = e ∙ sym (tape_spelled host port key is.written.holds.fits);
}
