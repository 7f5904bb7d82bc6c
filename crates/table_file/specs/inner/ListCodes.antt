-- What is spelled at the front of octets is one thing alone: the laws of lists, texts and labels.
use Rattle.std.proofs.Common.{◌≡◌, ℕ, ◌<◌, ◌≤◌, ◌+◌, Bool, true, false, List, [], ◌∷◌, ◌++◌, length, length-append, Option, Some, None, refl, sym, ap, ap₂, ◌∙◌, nat_eq, cond, arith}
use Rattle.std.proofs.lemmas.List.{append-nil}
use Rattle.std.proofs.lemmas.Bool.{eqb-true, eq-eqb}
use Rattle.std.specs.Fmt.{◌++?◌}
use Rattle.table_file.specs.Octets.{spelled_ascii, spelled_word, spelled_each, spelled_run, spelled_list, spelled_text}
use Rattle.table_file.specs.inner.Joins.{split, parted}
use Rattle.table_file.specs.inner.Codes.{IsCode, IsOne, word_code, ascii_code}

-- two lists of one length
pub one_each : {A : Type 0} (f : A → Option (List ℕ)) → IsCode f → (xs ys : List A) (x y octets : List ℕ)
    → length xs ≡ length ys
    → spelled_each f xs ++? Some x ≡ Some octets → spelled_each f ys ++? Some y ≡ Some octets → (xs ≡ ys) × (x ≡ y)
one_each f code [] [] x y octets l ea eb = (refl, cc)
one_each f code [] (b ∷ ys) x y octets l ea eb = absurd (omega arith)
one_each f code (a ∷ xs) [] x y octets l ea eb = absurd (omega arith)
one_each f code (a ∷ xs) (b ∷ ys) x y octets l ea eb =
    let pa = parted (f a) (spelled_each f xs) (Some x) octets ea in
    let pb = parted (f b) (spelled_each f ys) (Some y) octets eb in
    let first = code.one a b pa.0 pb.0 octets pa.2 pb.2 in
    let rest = one_each f code xs ys x y pb.0 (omega arith) (pa.1 ∙ ap Some first.1) pb.1 in
    (ap₂ (λ i is. i ∷ is) first.0 rest.0, rest.1)

-- each takes an octet at least
pub each_long : {A : Type 0} (f : A → Option (List ℕ)) → IsCode f → (xs : List A) (octets : List ℕ)
    → spelled_each f xs ≡ Some octets → length xs ≤ length octets
each_long f code [] octets e = omega arith
each_long f code (a ∷ xs) octets e =
    let p = split (f a) (spelled_each f xs) octets e in
    let one = code.some a p.0 p.2 in
    let more = each_long f code xs p.1 p.3 in
    let l : length (p.0 ++ p.1) ≡ length octets = ap length p.4 in
    let long : length (p.0 ++ p.1) ≡ length p.0 + length p.1 = length-append p.0 p.1 in
    omega (arith, one, more, l, long)

-- of one number
ran : (b : Bool) (p : Option (List ℕ)) (q : Option (List ℕ)) (octets : List ℕ) → cond b p None ++? q ≡ Some octets
    → (b ≡ true) × (p ++? q ≡ Some octets)
ran true p q octets e = (refl, e)
ran false p q octets e = absurd (cc)

pub run_at : {A : Type 0} (n : ℕ) (f : A → Option (List ℕ)) (xs : List A) (rest octets : List ℕ)
    → spelled_run n f xs ++? Some rest ≡ Some octets
    → (length xs ≡ n) × (spelled_each f xs ++? Some rest ≡ Some octets)
run_at n f xs rest octets e =
    let p = ran (nat_eq (length xs) n) (spelled_each f xs) (Some rest) octets e in
    (eqb-true (length xs) n p.0, p.1)

pub run_of : {A : Type 0} (n : ℕ) (f : A → Option (List ℕ)) (xs : List A) → length xs ≡ n
    → spelled_run n f xs ≡ spelled_each f xs
run_of n f xs e = ap (λ b. cond b (spelled_each f xs) None) (eq-eqb (length xs) n e)

pub run_one : {A : Type 0} (n : ℕ) (f : A → Option (List ℕ)) → IsCode f → IsOne (spelled_run n f)
run_one n f code a b x y octets ea eb =
    let pa = run_at n f a x octets ea in
    let pb = run_at n f b y octets eb in
    one_each f code a b x y octets (pa.0 ∙ sym pb.0) pa.1 pb.1

pub run_code : {A : Type 0} (n : ℕ) (f : A → Option (List ℕ)) → 0 < n → IsCode f → IsCode (spelled_run n f)
run_code {A} n f more code = record {
  one = run_one n f code;
  some = λ a octets e.
      let p = run_at n f a [] octets (ap (λ o. o ++? Some []) e ∙ ap Some (append-nil octets)) in
      let q = split (spelled_each f a) (Some []) octets p.1 in
      let l = each_long f code a q.0 q.2 in
      let nil : q.1 ≡ [] = cc in
      let same : q.0 ≡ octets = sym (append-nil q.0) ∙ ap (λ t. q.0 ++ t) (sym nil) ∙ q.4 in
      let long : length q.0 ≡ length octets = ap length same in
      omega (arith, l, long, p.0, more);
}

pub list_code : {A : Type 0} (f : A → Option (List ℕ)) → IsCode f → IsCode (spelled_list f)
list_code f code = record {
  one = λ a b x y octets ea eb.
      let pa = parted (spelled_word (length a)) (spelled_each f a) (Some x) octets ea in
      let pb = parted (spelled_word (length b)) (spelled_each f b) (Some y) octets eb in
      let count = word_code.one (length a) (length b) pa.0 pb.0 octets pa.2 pb.2 in
      one_each f code a b x y pb.0 count.0 (pa.1 ∙ ap Some count.1) pb.1;
  some = λ a octets e.
      let p = split (spelled_word (length a)) (spelled_each f a) octets e in
      let h = word_code.some (length a) p.0 p.2 in
      let l : length (p.0 ++ p.1) ≡ length octets = ap length p.4 in
      let long : length (p.0 ++ p.1) ≡ length p.0 + length p.1 = length-append p.0 p.1 in
      omega (arith, l, long, h);
}

pub text_code : IsCode spelled_text
text_code = list_code spelled_ascii ascii_code
