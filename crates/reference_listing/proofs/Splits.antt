-- A tape is that of one body at most.
use Rattle.std.proofs.Common.{◌≡◌, ℕ, ◌^◌, ◌<◌, pos, Bool, true, false, List, [], ◌++◌, refl, sym, ap, ◌∙◌, subst}
use Rattle.type_graph.specs.declared.width.Width.TheVariants.{One, Two}
use Rattle.type_graph.specs.declared.width.Order.TheVariants.{Big}
use Rattle.type_graph.specs.Words.{word}
use Rattle.type_graph.proofs.WordLaws.{plain_word_same}
use Rattle.type_graph.proofs.OneTape.{cut_same}
use Rattle.giop_types.specs.TapeParts.{counted, IsCounted, tagged_list, AreTagged}
use Rattle.giop_types.proofs.PartLaws.{counted_front, tagged_list_front}
use Rattle.reference_texts.specs.Profiles.{Body}
use Rattle.reference_listing.specs.inner.Bodies.{AreBehind, IsAddress, IsBodyTape}

-- ---- numbers

octet_front : (m n : ℕ) (r s : List ℕ) → m < 2 ^ 8 → n < 2 ^ 8 → word Big One (pos m) ++ r ≡ word Big One (pos n) ++ s
    → (m ≡ n) × (r ≡ s)
octet_front m n r s hm hn e =
    let cut = cut_same (word Big One (pos m)) (word Big One (pos n)) r s refl e in
    (plain_word_same Big One m n hm hn cut.0, cut.1)

short_front : (m n : ℕ) (r s : List ℕ) → m < 2 ^ 16 → n < 2 ^ 16 → word Big Two (pos m) ++ r ≡ word Big Two (pos n) ++ s
    → (m ≡ n) × (r ≡ s)
short_front m n r s hm hn e =
    let cut = cut_same (word Big Two (pos m)) (word Big Two (pos n)) r s refl e in
    (plain_word_same Big Two m n hm hn cut.0, cut.1)

-- ---- addresses

pub no_port : (tape host behind : List ℕ) (h : List ℕ) (n : ℕ) (key rest : List ℕ) → IsAddress tape h n key rest
    → IsCounted host
    → tape ≡ counted host ++ behind → ((n : ℕ) (more : List ℕ) → behind ≡ word Big Two (pos n) ++ more → ⊥) → ⊥
no_port tape host behind h n key rest a short e none =
    let same = counted_front h host (word Big Two (pos n) ++ (counted key ++ rest)) behind a.host_short short
    (sym a.front ∙ e) in
    none n (counted key ++ rest) (sym same.1)

pub no_key : (tape host behind : List ℕ) (port : ℕ) (more : List ℕ) (h : List ℕ) (n : ℕ) (key rest : List ℕ)
    → IsAddress tape h n key rest → IsCounted host → tape ≡ counted host ++ behind → port < 2 ^ 16
    → behind ≡ word Big Two (pos port) ++ more
    → ((octets rest : List ℕ) → IsCounted octets → more ≡ counted octets ++ rest → ⊥) → ⊥
no_key tape host behind port more h n key rest a short e small f none =
    let same = counted_front h host (word Big Two (pos n) ++ (counted key ++ rest)) behind a.host_short short
    (sym a.front ∙ e) in
    let ports = short_front n port (counted key ++ rest) more a.port_small small (same.1 ∙ f) in
    none key rest a.key_short (sym ports.1)

record SameAddress (host : List ℕ) (port : ℕ) (key rest h : List ℕ) (p : ℕ) (k r : List ℕ) : Type 0 where
  hosts : host ≡ h
  ports : port ≡ p
  keys : key ≡ k
  rests : rest ≡ r

addresses_same : (tape host : List ℕ) (port : ℕ) (key rest h : List ℕ) (p : ℕ) (k r : List ℕ)
    → IsAddress tape host port key rest → IsAddress tape h p k r → SameAddress host port key rest h p k r
addresses_same tape host port key rest h p k r x y =
    let one = counted_front host h (word Big Two (pos port) ++ (counted key ++ rest))
    (word Big Two (pos p) ++ (counted k ++ r)) x.host_short y.host_short (sym x.front ∙ y.front) in
    let two = short_front port p (counted key ++ rest) (counted k ++ r) x.port_small y.port_small one.1 in
    let three = counted_front key k rest r x.key_short y.key_short two.1 in
    record { hosts = one.0; ports = two.0; keys = three.0; rests = three.1 }

-- ---- components

components_same : (later : Bool) (tape : List ℕ) (xs ys : List (ℕ × List ℕ)) → AreBehind later tape xs
    → AreBehind later tape ys
    → xs ≡ ys
components_same false tape xs ys x y = x ∙ sym y
components_same true tape xs ys x y = (tagged_list_front xs ys x.1.0 y.1.0 x.0 y.0 (sym x.1.1 ∙ y.1.1)).0

pub none_behind : (later : Bool) (tape : List ℕ) (all : List (ℕ × List ℕ)) → later ≡ false → all ≡ []
    → AreBehind later tape all
none_behind false tape all e f = f
none_behind true tape all e f = absurd (cc)

pub some_behind : (later : Bool) (tape rest : List ℕ) (all made : List (ℕ × List ℕ)) → later ≡ true → made ≡ all
    → AreTagged all → tape ≡ tagged_list all ++ rest → AreBehind later tape made
some_behind false tape rest all made e same are is = absurd (cc)
some_behind true tape rest all made e same are is =
    (subst AreTagged (sym same) are, (rest, is ∙ ap (λ (l : List (ℕ × List ℕ)). tagged_list l ++ rest) (sym same)))

pub nothing_behind : (later : Bool) (tape : List ℕ) (all : List (ℕ × List ℕ)) → later ≡ true
    → ((all : List (ℕ × List ℕ)) (rest : List ℕ) → AreTagged all → tape ≡ tagged_list all ++ rest → ⊥)
    → AreBehind later tape all → ⊥
nothing_behind false tape all e none are = absurd (cc)
nothing_behind true tape all e none are = none all are.1.0 are.0 are.1.1

-- ---- bodies

abbrev make : ℕ → ℕ → List ℕ → ℕ → List ℕ → List (ℕ × List ℕ) → Body
make major minor host port key components =
    record { major = major; minor = minor; host = host; port = port; key = key; components = components }

same_parts : (a b : ℕ) (h : List ℕ) (p : ℕ) (k : List ℕ) (c : List (ℕ × List ℕ)) (a2 b2 : ℕ) (h2 : List ℕ) (p2 : ℕ)
    (k2 : List ℕ)
    (c2 : List (ℕ × List ℕ)) → a ≡ a2 → b ≡ b2 → h ≡ h2 → p ≡ p2 → k ≡ k2 → c ≡ c2
    → make a b h p k c ≡ make a2 b2 h2 p2 k2 c2
same_parts a b h p k c a2 b2 h2 p2 k2 c2 e f g i j l = cc

pub bodies_same : (a b : Body) → a.major ≡ b.major → a.minor ≡ b.minor → a.host ≡ b.host → a.port ≡ b.port
    → a.key ≡ b.key
    → a.components ≡ b.components → a ≡ b
bodies_same a b e f g i j l =
    same_parts a.major a.minor a.host a.port a.key a.components b.major b.minor b.host b.port b.key b.components e f g i
    j l

-- behind the version
pub record Behind (m n a b : ℕ) (address behind : List ℕ) : Type 0 where
  pub major : a ≡ m
  pub minor : b ≡ n
  pub there : address ≡ behind

pub behind_version : (later : Bool) (tape : List ℕ) (body : Body) (m n : ℕ) (behind : List ℕ)
    → (is : IsBodyTape later tape body)
    → m < 2 ^ 8 → n < 2 ^ 8 → tape ≡ word Big One (pos m) ++ (word Big One (pos n) ++ behind)
    → Behind m n body.major body.minor is.address behind
behind_version later tape body m n behind is hm hn e =
    let first = octet_front body.major m (word Big One (pos body.minor) ++ is.address) (word Big One (pos n) ++ behind)
    is.major_small hm (sym is.tape_is ∙ e) in
    let second = octet_front body.minor n is.address behind is.minor_small hn first.1 in
    record { major = first.0; minor = second.0; there = second.1 }

pub bodies_once : (later : Bool) (tape : List ℕ) (a b : Body) → IsBodyTape later tape a → IsBodyTape later tape b
    → a ≡ b
bodies_once later tape a b x y =
    let v = behind_version later tape a b.major b.minor y.address x y.major_small y.minor_small y.tape_is in
    let moved = subst (λ (l : List ℕ). IsAddress l a.host a.port a.key x.rest) v.there x.address_is in
    let s = addresses_same y.address a.host a.port a.key x.rest b.host b.port b.key y.rest moved y.address_is in
    let c = components_same later y.rest a.components b.components
    (subst (λ (l : List ℕ). AreBehind later l a.components) s.rests x.components_are) y.components_are in
    bodies_same a b v.major v.minor s.hosts s.ports s.keys c

pub no_components : (later : Bool) (tape : List ℕ) (body : Body) (m n : ℕ) (behind : List ℕ) (host : List ℕ) (port : ℕ)
    (key rest : List ℕ) → IsBodyTape later tape body → m < 2 ^ 8 → n < 2 ^ 8
    → tape ≡ word Big One (pos m) ++ (word Big One (pos n) ++ behind) → IsAddress behind host port key rest
    → ((all : List (ℕ × List ℕ)) → AreBehind later rest all → ⊥) → ⊥
no_components later tape body m n behind host port key rest is hm hn e a none =
    let v = behind_version later tape body m n behind is hm hn e in
    let moved = subst (λ (l : List ℕ). IsAddress l body.host body.port body.key is.rest) v.there is.address_is in
    let s = addresses_same behind body.host body.port body.key is.rest host port key rest moved a in
    none body.components (subst (λ (l : List ℕ). AreBehind later l body.components) s.rests is.components_are)
