-- What is spelled at the front of octets is one thing alone: the laws of octets, words, lists and what is made of them.
use Rattle.std.proofs.Common.{◌≡◌, ℕ, zero, suc, ◌<◌, ◌+◌, ◌^◌, Bool, true, false, if◌then◌else◌, List, [], ◌∷◌, ◌++◌, length, length-append, Option, Some, refl, sym, ap, ap₂, ◌∙◌, nat_lt, arith}
use Rattle.std.proofs.lemmas.Bool.{ltb-true}
use Rattle.std.specs.Bool.{then_some}
use Rattle.std.specs.Fmt.{◌++?◌}
use Rattle.type_graph.specs.declared.width.Width.{Width}
use Rattle.type_graph.specs.declared.width.Width.TheVariants.{One, Two, Four, Eight}
use Rattle.type_graph.specs.declared.width.Order.TheVariants.{Big}
use Rattle.type_graph.specs.Words.{octets_in, plain_octets}
use Rattle.type_graph.proofs.WordLaws.{plain_word_same}
use Rattle.table_file.specs.Octets.{spelled_octet, spelled_flag, spelled_ascii, spelled_word, spelled_pair}
use Rattle.table_file.specs.inner.Joins.{split, parted, passed, same_fronts}

-- what stands at the front of octets is the spelling of one thing at most
abbrev pub IsOne : {A : Type 0} → (A → Option (List ℕ)) → Type 0
IsOne {A} spelled = (a b : A) (x y octets : List ℕ) → spelled a ++? Some x ≡ Some octets
    → spelled b ++? Some y ≡ Some octets → (a ≡ b) × (x ≡ y)

-- A code: so it is, and no spelling is empty.
pub record IsCode {A : Type 0} (spelled : A → Option (List ℕ)) : Type 0 where
  pub one : IsOne spelled
  pub some : (a : A) (octets : List ℕ) → spelled a ≡ Some octets → 0 < length octets

-- what is spelled as something else, from which it is read off
pub via_code : {A B : Type 0} (spelled : B → Option (List ℕ)) (f : A → B) (back : B → A) → ((a : A) → back (f a) ≡ a)
    → IsCode spelled → IsCode (λ a. spelled (f a))
via_code spelled f back same code = record {
  one = λ a b x y octets ea eb.
      let e = code.one (f a) (f b) x y octets ea eb in
      (sym (same a) ∙ ap back e.0 ∙ same b, e.1);
  some = λ a octets e. code.some (f a) octets e;
}

-- octets of one number, which are told apart
pub fixed_code : {A : Type 0} (spelled : A → Option (List ℕ)) (k : ℕ) → 0 < k
    → ((a : A) (s : List ℕ) → spelled a ≡ Some s → length s ≡ k)
    → ((a b : A) (s : List ℕ) → spelled a ≡ Some s → spelled b ≡ Some s → a ≡ b) → IsCode spelled
fixed_code spelled k some long same = record {
  one = λ a b x y octets ea eb.
      let pa = split (spelled a) (Some x) octets ea in
      let pb = split (spelled b) (Some y) octets eb in
      let xs : x ≡ pa.1 = cc in
      let ys : y ≡ pb.1 = cc in
      let fronts = same_fronts pa.0 pb.0 pa.1 pb.1 (long a pa.0 pa.2 ∙ sym (long b pb.0 pb.2)) (pa.4 ∙ sym pb.4) in
      (same a b pb.0 (pa.2 ∙ ap Some fronts.0) pb.2, xs ∙ fronts.1 ∙ sym ys);
  some = λ a octets e. let l = long a octets e in omega (arith, l, some);
}

-- a code, and behind it one thing at most
pub code_then : {A B : Type 0} (f : A → Option (List ℕ)) (g : B → Option (List ℕ)) → IsCode f → IsOne g
    → IsCode (spelled_pair f g)
code_then {A} {B} f g fs one = record {
  one = λ a b x y octets ea eb.
      let pa = parted (f a.0) (g a.1) (Some x) octets ea in
      let pb = parted (f b.0) (g b.1) (Some y) octets eb in
      let first = fs.one a.0 b.0 pa.0 pb.0 octets pa.2 pb.2 in
      let second = one a.1 b.1 x y pb.0 (pa.1 ∙ ap Some first.1) pb.1 in
      let same : a ≡ b = ap₂ (λ (i : A) (j : B). (i, j)) first.0 second.0 in
      (same, second.1);
  some = λ a octets e.
      let p = split (f a.0) (g a.1) octets e in
      let h = fs.some a.0 p.0 p.2 in
      let l : length (p.0 ++ p.1) ≡ length octets = ap length p.4 in
      let long : length (p.0 ++ p.1) ≡ length p.0 + length p.1 = length-append p.0 p.1 in
      omega (arith, l, long, h);
}

-- a code and then a code
pub pair_code : {A B : Type 0} (f : A → Option (List ℕ)) (g : B → Option (List ℕ)) → IsCode f → IsCode g
    → IsCode (spelled_pair f g)
pair_code f g fs gs = code_then f g fs gs.one

-- a test on one octet
one_octet_code : (test : ℕ → Bool) → IsCode (λ n. then_some (test n) (n ∷ []))
one_octet_code test = fixed_code (λ n. then_some (test n) (n ∷ [])) 1 (omega arith)
    (λ a s e. let p = passed (test a) (a ∷ []) s e in ap length (sym p.1))
    (λ a b s ea eb. let p = (passed (test a) (a ∷ []) s ea).1 in let q = (passed (test b) (b ∷ []) s eb).1 in cc)

pub octet_code : IsCode spelled_octet
octet_code = one_octet_code (λ n. nat_lt n 256)

pub ascii_code : IsCode spelled_ascii
ascii_code = one_octet_code (λ n. nat_lt n 128)

pub word_long : (n : ℕ) (s : List ℕ) → spelled_word n ≡ Some s → length s ≡ 4
word_long n s e = let p = passed (nat_lt n (2 ^ 32)) (plain_octets Big 4 n) s e in ap length (sym p.1)

pub word_code : IsCode spelled_word
word_code = fixed_code spelled_word 4 (omega arith)
    word_long
    (λ a b s ea eb.
    let p = passed (nat_lt a (2 ^ 32)) (plain_octets Big 4 a) s ea in
    let q = passed (nat_lt b (2 ^ 32)) (plain_octets Big 4 b) s eb in
    plain_word_same Big Four a b (ltb-true a (2 ^ 32) p.0) (ltb-true b (2 ^ 32) q.0) (p.1 ∙ sym q.1))

-- the flag of a number
flag_of : ℕ → Bool
flag_of zero = false
flag_of n = true

flag_back : (b : Bool) → flag_of (if b then 1 else 0) ≡ b
unfolding flag_of
flag_back false = refl
flag_back true = refl

pub flag_code : IsCode spelled_flag
flag_code = via_code spelled_octet (λ (b : Bool). if b then 1 else 0) flag_of flag_back octet_code

-- the width of so many octets
width_of : ℕ → Width
width_of (suc (suc zero)) = Two
width_of (suc (suc (suc (suc zero)))) = Four
width_of (suc (suc (suc (suc (suc (suc (suc (suc zero)))))))) = Eight
width_of n = One

width_back : (w : Width) → width_of (octets_in w) ≡ w
unfolding width_of
width_back One = refl
width_back Two = refl
width_back Four = refl
width_back Eight = refl

pub width_code : IsCode (λ (w : Width). spelled_octet (octets_in w))
width_code = via_code spelled_octet octets_in width_of width_back octet_code
