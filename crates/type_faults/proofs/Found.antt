-- What is found of parts, and what is told in the end.
use Rattle.std.proofs.Common.{◌≡◌, inr, ◌<◌, ◌≤◌, ◌+◌, ◌∙◌, ℕ, zero, suc, false, List, [], ◌∷◌, ◌++◌, length, ap, refl, subst, sym, arith}
use Rattle.std.specs.Prelude.{◌≢◌}
use Rattle.std.specs.List.{flat_map}
use Rattle.std.proofs.lemmas.List.{append-nil, length-append, map-append}
use Rattle.std.proofs.lemmas.List.Concat.{flat_map-append}
use Rattle.idl_lexer.specs.declared.token.Token.{Token}
use Rattle.lowered_types.specs.declared.fault.BuildFault.{BuildFault}
use Rattle.lowered_types.specs.declared.fault.BuildFault.TheVariants.{Types, OtherNames, NoMemory}
use Rattle.lowered_types.specs.declared.fault.TypeFault.{TypeFault}
use Rattle.type_faults.specs.declared.all_faults.Found.{Found}
use Rattle.type_faults.specs.declared.all_faults.Found.TheVariants.{Part, Stuck}
use Rattle.type_faults.specs.declared.all_faults.TypeFaults.{TypeFaults}
use Rattle.type_faults.specs.AllFaults.{AreFirst, Ends, IsCut, IsRefused, IsStuck, numbers_of, told_by, told_of}
use Rattle.type_faults.specs.Parts.{left}
use Rattle.type_faults.specs.inner.Searched.{Finds, IsFaulty, Stands}
use Rattle.type_faults.proofs.Refused.{refused_more}

-- ---- where no part is why

zero_high : (low high : ℕ) → (0 < high → low < high) → high ≤ low + 1 → low + 1 ≢ high → high ≡ 0
zero_high low zero strict most other = refl
zero_high low (suc k) strict most other =
    let lt : low < suc k = strict (omega arith) in absurd (other (omega arith))

pub stuck : (tokens : List Token) (refused : List ℕ) (low high : ℕ) → (0 < high → low < high) → high ≤ low + 1
    → low + 1 ≢ high → IsFaulty tokens (left high refused tokens) → IsStuck tokens refused
stuck tokens refused low high strict most other behind =
    inr (subst (λ n. IsFaulty tokens (left n refused tokens)) (zero_high low high strict most other) behind)

-- ---- what is found

pub found_part : (tokens : List Token) (seen refused : List ℕ) (found : Found) (part : ℕ) (fault : BuildFault)
    → found ≡ Part part fault → seen ≡ refused → Finds tokens seen found → IsRefused tokens refused (part, fault)
found_part tokens seen refused found part fault is same finds =
    subst (λ r. IsRefused tokens r (part, fault)) same (subst (λ f. Finds tokens seen f) is finds)

pub found_stuck : (tokens : List Token) (seen refused : List ℕ) (found : Found) → found ≡ Stuck → seen ≡ refused
    → Finds tokens seen found → IsStuck tokens refused
found_stuck tokens seen refused found is same finds =
    subst (λ r. IsStuck tokens r) same (subst (λ f. Finds tokens seen f) is finds)

one_at_most : (fault : BuildFault) → length (told_of fault) ≤ 1
one_at_most (Types fault) = omega arith
one_at_most OtherNames = omega arith
one_at_most NoMemory = omega arith

-- one part more
pub stands_more : (tokens : List Token) (most : ℕ) (refused more : List ℕ) (told now : List TypeFault) (part : ℕ)
    (fault : BuildFault) → Stands tokens most refused told → length told < most → IsRefused tokens refused (part, fault)
    → more ≡ refused ++ part ∷ [] → now ≡ told ++ told_of fault → Stands tokens most more now
stands_more tokens most refused more told now part fault s room is pushed heard = record {
  parts = s.parts ++ (part, fault) ∷ [];
  are = refused_more tokens [] s.parts (part, fault) s.are (subst (λ r. IsRefused tokens r (part, fault)) s.numbers is);
  numbers =
      pushed ∙ ap (λ r. r ++ part ∷ []) s.numbers ∙ sym (map-append (λ p. p.0) s.parts ((part, fault) ∷ []));
  first =
      heard ∙ ap (λ l. l ++ told_of fault) s.first
      ∙ ap (λ l. flat_map told_by s.parts ++ l) (sym (append-nil (told_of fault)))
      ∙ sym (flat_map-append told_by s.parts ((part, fault) ∷ []));
  few = rw heard (omega (arith, length-append told (told_of fault), one_at_most fault));
}

-- where there may be more
pub cut_stands : (tokens : List Token) (most : ℕ) (refused : List ℕ) (told : List TypeFault) (faults : TypeFaults)
    → Stands tokens most refused told → faults.first.items ≡ told → faults.is_all ≡ false
    → IsCut tokens most refused (length told) → AreFirst tokens most faults
cut_stands tokens most refused told faults s same more is = record {
  parts = s.parts;
  refused = s.are;
  first = same ∙ s.first;
  few = rw same s.few;
  ends =
      subst (λ b. Ends tokens most (numbers_of s.parts) faults b) (sym more)
      (subst (λ r. IsCut tokens most r (length faults.first.items)) s.numbers
      (subst (λ l. IsCut tokens most refused (length l)) (sym same) is));
}
