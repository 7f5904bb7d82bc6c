-- System exceptions and their tapes.
use Rattle.std.proofs.Common.{◌≡◌, ℕ, ◌^◌, ◌<◌, pos, negsuc, List, [], ◌∷◌, ◌++◌, refl, sym, ap, ap₂, ◌∙◌, subst}
use Rattle.type_graph.specs.declared.width.Order.{Order}
use Rattle.type_graph.specs.declared.width.Order.TheVariants.{Big}
use Rattle.type_graph.specs.declared.width.Width.TheVariants.{Four}
use Rattle.type_graph.specs.declared.node.Node.TheVariants as nodes
use Rattle.type_graph.specs.Words.{word}
use Rattle.type_graph.specs.Value.{Tree, Number, Bytes, Items, Choice, AndTree, node_at, Fits, tape_of}
use Rattle.giop_types.specs.GiopNodes.{giop_nodes}
use Rattle.giop_types.proofs.PartTrees.{OfStruct, long_shape, text_shape, text_counted}
use Rattle.giop_types.specs.TapeParts.{counted, IsCounted}
use Rattle.giop_types.proofs.PartLaws.{counted_front, word_front}
use Rattle.reference_texts.proofs.Shapes.{peel, none_left}
use Rattle.giop.specs.Bodies.{BeginsWith, Exception, HoldsException, exception_tree}
use Rattle.giop.specs.inner.ReplyBodiesTapes.{HasTape, IsException}

frame_shape : (members : List ℕ) (value : Tree) (d : ℕ) → Fits giop_nodes (nodes.Frame members) value d
    → OfStruct members d value
frame_shape members (Items values) d f = record { values = values; is = refl; fits = f }
frame_shape members (Number (pos n)) d f = absurd f
frame_shape members (Number (negsuc n)) d f = absurd f
frame_shape members (Bytes text) d f = absurd f
frame_shape members (Choice label values) d f = absurd f

-- what fits as an exception
record OfException (value : Tree) : Type 0 where
  exception : Exception
  is : value ≡ exception_tree exception
  tape : IsException (tape_of giop_nodes (node_at giop_nodes 23) value) exception.id exception.minor
      exception.completion

exception_value : (value : Tree) → Fits giop_nodes (node_at giop_nodes 23) value 64 → OfException value
exception_value value f =
    let m = frame_shape (9 ∷ 6 ∷ 6 ∷ []) value 64 f in
    let a = peel 9 (6 ∷ 6 ∷ []) m.values 64 m.fits in
    let b = peel 6 (6 ∷ []) a.more 64 a.rest in
    let c = peel 6 [] b.more 64 b.rest in
    let t = text_shape a.value 64 a.fits in
    let n = long_shape b.value 64 b.fits in
    let k = long_shape c.value 64 c.fits in
    let exception : Exception = record { id = t.text; minor = n.n; completion = k.n } in
    let is : value ≡ exception_tree exception =
    m.is ∙ ap Items (a.is ∙ ap₂ AndTree t.is
    (b.is ∙ ap₂ AndTree n.is (c.is ∙ ap₂ AndTree k.is (none_left c.more 64 c.rest)))) in
    record {
      exception = exception;
      is = is;
      tape = record {
        id_short = text_counted t.text t.fits;
        minor_small = n.below;
        completion_small = k.below;
        rest = [];
        front = ap (tape_of giop_nodes (node_at giop_nodes 23)) is;
      };
    }

record Same (id : List ℕ) (minor completion : ℕ) (i : List ℕ) (m c : ℕ) : Type 0 where
  ids : id ≡ i
  minors : minor ≡ m
  completions : completion ≡ c

exceptions_same : (tape id : List ℕ) (minor completion : ℕ) (i : List ℕ) (m c : ℕ)
    → IsException tape id minor completion
    → IsException tape i m c → Same id minor completion i m c
exceptions_same tape id minor completion i m c x y =
    let one = counted_front id i (word Big Four (pos minor) ++ (word Big Four (pos completion) ++ x.rest))
    (word Big Four (pos m) ++ (word Big Four (pos c) ++ y.rest)) x.id_short y.id_short (sym x.front ∙ y.front) in
    let two = word_front minor m (word Big Four (pos completion) ++ x.rest) (word Big Four (pos c) ++ y.rest)
    x.minor_small
    y.minor_small one.1 in
    let three = word_front completion c x.rest y.rest x.completion_small y.completion_small two.1 in
    record { ids = one.0; minors = two.0; completions = three.0 }

trees_same : (id : List ℕ) (m c : ℕ) (i : List ℕ) (n k : ℕ) → id ≡ i → m ≡ n → c ≡ k
    → exception_tree (record { id = id; minor = m; completion = c })
    ≡ exception_tree (record { id = i; minor = n; completion = k })
trees_same id m c i n k e f g = cc

-- ---- what is split off

pub no_minor : (tape id behind : List ℕ) (i : List ℕ) (m c : ℕ) → IsException tape i m c → IsCounted id
    → tape ≡ counted id ++ behind → ((n : ℕ) (rest : List ℕ) → behind ≡ word Big Four (pos n) ++ rest → ⊥) → ⊥
no_minor tape id behind i m c x short e none =
    let same = counted_front i id (word Big Four (pos m) ++ (word Big Four (pos c) ++ x.rest)) behind x.id_short short
    (sym x.front ∙ e) in
    none m (word Big Four (pos c) ++ x.rest) (sym same.1)

pub no_completion : (tape id behind : List ℕ) (minor : ℕ) (more : List ℕ) (i : List ℕ) (m c : ℕ)
    → IsException tape i m c
    → IsCounted id → tape ≡ counted id ++ behind → minor < 2 ^ 32 → behind ≡ word Big Four (pos minor) ++ more
    → ((n : ℕ) (rest : List ℕ) → more ≡ word Big Four (pos n) ++ rest → ⊥) → ⊥
no_completion tape id behind minor more i m c x short e small f none =
    let one = counted_front i id (word Big Four (pos m) ++ (word Big Four (pos c) ++ x.rest)) behind x.id_short short
    (sym x.front ∙ e) in
    let two = word_front m minor (word Big Four (pos c) ++ x.rest) more x.minor_small small (one.1 ∙ f) in
    none c x.rest (sym two.1)

-- ---- what is read

pub exception_found : (order : Order) (place : ℕ) (octets tape lent id : List ℕ) (minor completion : ℕ) (made : List ℕ)
    → lent ≡ tape → HasTape order 23 place octets tape → IsException lent id minor completion → made ≡ id
    → HoldsException order place octets (record { id = made; minor = minor; completion = completion })
exception_found order place octets tape lent id minor completion made e h x m =
    let v = exception_value h.value h.begins.holds.fits in
    let moved = subst (λ (l : List ℕ). IsException l id minor completion) (e ∙ h.tape_is) x in
    let s = exceptions_same (tape_of giop_nodes (node_at giop_nodes 23) h.value) v.exception.id v.exception.minor
    v.exception.completion id minor completion v.tape moved in
    subst (λ (value : Tree). BeginsWith order 23 place value octets)
    (v.is ∙ trees_same v.exception.id v.exception.minor v.exception.completion made minor completion (s.ids ∙ sym m)
    s.minors
    s.completions) h.begins

pub exception_there : (order : Order) (place : ℕ) (octets tape lent : List ℕ) → lent ≡ tape
    → HasTape order 23 place octets tape
    → ((id : List ℕ) (minor completion : ℕ) → IsException lent id minor completion → ⊥) → ⊥
exception_there order place octets tape lent e h none =
    let v = exception_value h.value h.begins.holds.fits in
    none v.exception.id v.exception.minor v.exception.completion
    (subst (λ (l : List ℕ). IsException l v.exception.id v.exception.minor v.exception.completion) (sym (e ∙ h.tape_is))
    v.tape)
