-- References as text: one text for each, one reference for a text.
use Rattle.std.proofs.Common.{◌≡◌, ℕ, List, ◌++◌, length, take, drop, map, codes, Ok, refl, arith, sym, ap, ap₂, ◌∙◌, subst}
use Rattle.std.specs.Char.{to_ascii_lowercase}
use Rattle.std.proofs.lemmas.List.{length-map, take-append-drop}
use Rattle.type_graph.proofs.OneTape.{cut_same}
use Rattle.type_graph.proofs.WordLaws.{get_or_below}
use Rattle.giop_types.specs.Fields.{tagged_trees}
use Rattle.hex.specs.Hex.{decode_of, encode_lower}
use Rattle.hex.proofs.HexLemmas.{decode_of-same, decode_of-encode_lower}
use Rattle.reference_texts.specs.References.{Reference, reference_tree}
use Rattle.reference_texts.specs.Encapsulations.{Encapsulates}
use Rattle.reference_texts.specs.Texts.{HasDigits, IsTextOf, Spells, SpellsOctets, spelled}
use Rattle.reference_texts.proofs.Encapsulated.{encapsulated_once, written_octets, written_once, written_read}
use Rattle.reference_texts.proofs.TreeLaws.{all_tagged_same}

-- the word has four letters
word_long : (text digits : List ℕ) (h : HasDigits text digits) → length h.prefix ≡ 4
word_long text digits h = sym (length-map h.prefix to_ascii_lowercase) ∙ ap length h.prefix_is

pub digits_same : (text a b : List ℕ) → HasDigits text a → HasDigits text b → a ≡ b
digits_same text a b h k =
    (cut_same h.prefix k.prefix a b (word_long text a h ∙ sym (word_long text b k)) (sym h.text_is ∙ k.text_is)).1

word_same : (text word behind digits : List ℕ) → text ≡ word ++ behind → length word ≡ 4 → HasDigits text digits
    → map to_ascii_lowercase word ≡ codes "ior:"
word_same text word behind digits e long h =
    ap (map to_ascii_lowercase)
    (cut_same word h.prefix behind digits (long ∙ sym (word_long text digits h)) (sym e ∙ h.text_is)).0
    ∙ h.prefix_is

-- what isn't behind the word isn't digits
pub no_digits : (text word behind : List ℕ) (other : List ℕ) → word ≡ take 4 text → behind ≡ drop 4 text
    → length word ≡ 4 → other ≡ codes "IOR:"
    → (map to_ascii_lowercase word ≡ map to_ascii_lowercase other → ⊥) → (digits : List ℕ) → HasDigits text digits → ⊥
no_digits text word behind other e f long is differ digits h =
    let whole : text ≡ word ++ behind = sym (take-append-drop 4 text)
    ∙ ap₂ (λ (a b : List ℕ). a ++ b) (sym e) (sym f) in
    differ (word_same text word behind digits whole long h ∙ ap (map to_ascii_lowercase) (sym is))

pub spelled_digits : (text lent digits octets : List ℕ) → lent ≡ text → HasDigits lent digits
    → SpellsOctets text octets → decode_of digits ≡ Ok octets
spelled_digits text lent digits octets e h s =
    let behind = subst (λ (t : List ℕ). HasDigits t digits) e h in
    ap decode_of (digits_same text digits s.digits behind s.behind) ∙ s.digits_are

pub octets_once : (text a b : List ℕ) → SpellsOctets text a → SpellsOctets text b → a ≡ b
octets_once text a b h k =
    decode_of-same h.digits a b h.digits_are (spelled_digits text text h.digits b refl h.behind k)

-- what a text spells stands in its octets
pub spelled_there : (text octets : List ℕ) (reference : Reference) → SpellsOctets text octets → Spells text reference
    → Encapsulates 13 (reference_tree reference) octets
spelled_there text octets reference h s =
    subst (λ (o : List ℕ). Encapsulates 13 (reference_tree reference) o)
    (octets_once text s.octets octets s.spelled_so h) s.encapsulated

references_same : (a b : Reference) → reference_tree a ≡ reference_tree b → a ≡ b
references_same a b e =
    let ids : a.type_id ≡ b.type_id = cc in
    let trees : tagged_trees a.profiles ≡ tagged_trees b.profiles = cc in
    ap₂ (λ (i : List ℕ) (ps : List (ℕ × List ℕ)). record { type_id = i; profiles = ps }) ids
    (all_tagged_same a.profiles b.profiles trees)

pub spelled_once : (text : List ℕ) (a b : Reference) → Spells text a → Spells text b → a ≡ b
spelled_once text a b h k =
    let there = spelled_there text h.octets b h.spelled_so k in
    references_same a b (encapsulated_once 13 (reference_tree a) (reference_tree b) h.octets h.encapsulated there)

pub text_read : (reference : Reference) (text : List ℕ) → IsTextOf reference text → Spells text reference
text_read reference text is =
    let below = written_octets 13 (reference_tree reference) is.octets is.written in
    record {
      octets = is.octets;
      spelled_so = record {
        digits = encode_lower is.octets;
        behind = record { prefix = codes "IOR:"; text_is = is.text_is; prefix_is = refl };
        digits_are = decode_of-encode_lower is.octets (λ i. get_or_below 256 is.octets i (omega arith) below);
      };
      encapsulated = written_read 13 (reference_tree reference) is.octets is.written;
    }

pub text_once : (reference : Reference) (a b : List ℕ) → IsTextOf reference a → IsTextOf reference b → a ≡ b
text_once reference a b h k =
    h.text_is ∙ ap spelled (written_once 13 (reference_tree reference) h.octets k.octets h.written k.written)
    ∙ sym k.text_is
