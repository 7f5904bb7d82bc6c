-- Lines one behind the other.
use Rattle.std.proofs.Common.{◌≡◌, ℕ, suc, ◌+◌, ◌<◌, List, [], ◌∷◌, ◌++◌, length, take, get_or, refl, sym, ap, ◌∙◌, subst, append_assoc, append-nil, arith}
use Rattle.std.specs.declared.vec.Vec.{Vec}
use Rattle.std.specs.declared.alloc.Global.{Global}
use Rattle.std.proofs.lemmas.List.{length-map, length-take-le}
use Rattle.reference_texts.specs.References.{owned_pairs}
use Rattle.reference_texts.proofs.ListLaws.{owned_next}
use Rattle.reference_listing.specs.Pieces.{AreLines}

-- one more behind them
pub lines_more : {A : Type 0} (IsLine : ℕ → A → List ℕ → Type 0) (number : ℕ) (done : List A) (one : A)
    (text line : List ℕ)
    → AreLines IsLine number done text → IsLine (number + length done) one line
    → AreLines IsLine number (done ++ one ∷ []) (text ++ line)
lines_more IsLine number [] one text line are is =
    let here : number + 0 ≡ number = omega arith in
    record {
      first = line;
      rest = [];
      text_is = ap (λ (t : List ℕ). t ++ line) are ∙ sym (append-nil line);
      here = subst (λ (n : ℕ). IsLine n one line) here is;
      there = refl;
    }
lines_more IsLine number (x ∷ done) one text line are is =
    let there : number + suc (length done) ≡ suc number + length done = omega arith in
    record {
      first = are.first;
      rest = are.rest ++ line;
      text_is = ap (λ (t : List ℕ). t ++ line) are.text_is ∙ append_assoc are.first are.rest line;
      here = are.here;
      there = lines_more IsLine (suc number) done one are.rest line are.there
          (subst (λ (n : ℕ). IsLine n one line) there is);
    }

-- one more of pairs that own their octets
pub pairs_more : (IsLine : ℕ → ℕ × List ℕ → List ℕ → Type 0) (xs : List (ℕ × Vec ℕ Global)) (i : ℕ)
    (one : ℕ × Vec ℕ Global)
    (text new line : List ℕ) → i < length xs → one ≡ get_or xs i one → AreLines IsLine 0 (owned_pairs (take i xs)) text
    → new ≡ text ++ line → IsLine i (one.0, one.1.items) line → AreLines IsLine 0 (owned_pairs (take (i + 1) xs)) new
pairs_more IsLine xs i one text new line within is are added here =
    let pair : ℕ × Vec ℕ Global → ℕ × List ℕ = λ o. (o.0, o.1.items) in
    let long : 0 + length (owned_pairs (take i xs)) ≡ i =
    omega (arith, length-map (take i xs) pair, length-take-le i xs (omega (arith, within))) in
    let more = lines_more IsLine 0 (owned_pairs (take i xs)) (one.0, one.1.items) text line are
    (subst (λ (n : ℕ). IsLine n (one.0, one.1.items) line) (sym long) here) in
    subst (λ (l : List (ℕ × List ℕ)). AreLines IsLine 0 l new) (sym (owned_next xs i one within is))
    (subst (λ (t : List ℕ). AreLines IsLine 0 (owned_pairs (take i xs) ++ (one.0, one.1.items) ∷ []) t) (sym added)
    more)
