-- Gaps at the positions of a set: which are the same, where they end.
use Rattle.std.proofs.Common.{◌≡◌, ℕ, ◌+◌, true, List, [], length, refl, sym, ap, subst, ◌∙◌, inl, inr, arith}
use Rattle.std.proofs.lemmas.List.{nil_from_length}
use Rattle.type_graph.specs.declared.width.Width.{Width}
use Rattle.type_graph.specs.Words.{Format, octets_in, pad}
use Rattle.type_graph.specs.Relation.{Relation, Then}
use Rattle.type_graph.specs.Comparison.{Anywhere, Same, Ends}
use Rattle.type_graph.specs.Atoms.{Gap}
use Rattle.type_graph.proofs.RelationLaws.{then_ends, nothing_then}
use Rattle.type_graph.proofs.WordLaws.{padding_none}
use Rattle.type_graph.proofs.LeadLaws.{Leads}
use Rattle.routine_checker.specs.Sets.{Among, moved, gaps_agree, gaps_serve}
use Rattle.routine_checker.proofs.SetLaws.{agreed, served, among_moved}

-- a gap to one width is a gap to another where both are as long
pub gap_for : {format : Format} (w v : Width) (p : ℕ) (tape octets : List ℕ) → pad p (octets_in w) ≡ pad p (octets_in v)
    → Gap format w p tape octets → Gap format v p tape octets
gap_for w v p t x e r = record { no_tape = r.no_tape; gap = record { long = r.gap.long ∙ e; filled = r.gap.filled } }

-- gaps that agree at the places of a set are the same there
pub gaps_same : {format : Format} (set : ℕ) (w v : Width) → gaps_agree set w v ≡ true
    → Same (Among set) (Gap format w) (Gap format v)
gaps_same set w v e = record {
  to = λ p t x s r. gap_for w v p t x (agreed set w v e p s) r;
  from = λ p t x s r. gap_for v w p t x (sym (agreed set w v e p s)) r;
}

-- the positions behind the gap to the width from a place of the set
pub record Behind (set : ℕ) (w : Width) (q : ℕ) : Type 0 where
  pub place : ℕ
  pub among : Among set place
  pub is : q ≡ place + pad place (octets_in w)

pub gap_behind : {format : Format} (set : ℕ) (w : Width) → Ends (Among set) (Behind set w) (Gap format w)
gap_behind set w = record { at = λ p t x s r. record { place = p; among = s; is = ap (λ n. p + n) r.gap.long } }

-- n octets further are positions that the checker gathers
pub behind_moved : (set : ℕ) (w : Width) (n q : ℕ) → Behind set w q → Among (moved set w n) (q + n)
behind_moved set w n q b = subst (λ r. Among (moved set w n) (r + n)) (sym b.is) (among_moved set w n b.place b.among)

-- its octets are so many
abbrev pub Long : ℕ → Relation → Type 0
Long n R = (p : ℕ) (tape octets : List ℕ) → R p tape octets → length octets ≡ n

pub long_ends : {R : Relation} (set : ℕ) (w : Width) (n : ℕ) → Long n R → Ends (Behind set w) (Among (moved set w n)) R
long_ends set w n long =
    record {
      at = λ p t x b r. subst (λ l. Among (moved set w n) (p + l)) (sym (long p t x r))
          (behind_moved set w n p b);
    }

-- a gap, and so many octets behind it
pub gap_long_ends : {format : Format} {R : Relation} (set : ℕ) (w : Width) (n : ℕ) → Long n R
    → Ends (Among set) (Among (moved set w n)) (Then (Gap format w) R)
gap_long_ends set w n long = then_ends (gap_behind set w) (long_ends set w n long)

-- a gap alone ends where the checker says that what follows starts
pub gap_moved : {format : Format} (set : ℕ) (w : Width) → Ends (Among set) (Among (moved set w 0)) (Gap format w)
gap_moved set w = record {
  at = λ p t x s r.
      let there : Among (moved set w 0) (p + pad p (octets_in w) + 0) = among_moved set w 0 p s in
      let place : p + pad p (octets_in w) + 0 ≡ p + length x = rw r.gap.long (omega arith) in
      subst (Among (moved set w 0)) place there;
}

-- ---- a gap in front of what begins with a gap

-- a gap of no octets, whatever stands behind it
pub no_gap_then : {format : Format} {R : Relation} (w : Width) (p : ℕ) (tape octets : List ℕ) → pad p (octets_in w) ≡ 0
    → Then (Gap format w) R p tape octets → R p tape octets
no_gap_then {R = R} w p t x none r =
    let empty : r.octets1 ≡ [] = nil_from_length r.octets1 (let long = r.first.gap.long in omega (arith, long, none)) in
    (nothing_then {S = Anywhere} {R = R}).to p t x tt (record {
      tape1 = r.tape1;
      tape2 = r.tape2;
      octets1 = r.octets1;
      octets2 = r.octets2;
      tape_is = r.tape_is;
      octets_is = r.octets_is;
      first = record { no_tape = r.first.no_tape; no_octets = empty };
      second = r.second;
    })

pub with_no_gap : {format : Format} {R : Relation} (w : Width) (p : ℕ) (tape octets : List ℕ) → pad p (octets_in w) ≡ 0
    → R p tape octets → Then (Gap format w) R p tape octets
with_no_gap {format} {R} w p t x none r = record {
  tape1 = [];
  tape2 = t;
  octets1 = [];
  octets2 = x;
  tape_is = refl;
  octets_is = refl;
  first = record { no_tape = refl; gap = record { long = sym none; filled = padding_none format.padding } };
  second = let same : p ≡ p + 0 = omega arith in subst (λ q. R q t x) same r;
}

-- the gap behind which something stands is exchanged for one as long
other_gap : {format : Format} {R : Relation} (w v : Width) (p : ℕ) (tape octets : List ℕ)
    → pad p (octets_in w) ≡ pad p (octets_in v) → Then (Gap format w) R p tape octets
    → Then (Gap format v) R p tape octets
other_gap w v p t x e r = record {
  tape1 = r.tape1;
  tape2 = r.tape2;
  octets1 = r.octets1;
  octets2 = r.octets2;
  tape_is = r.tape_is;
  octets_is = r.octets_is;
  first = gap_for w v p r.tape1 r.octets1 e r.first;
  second = r.second;
}

-- a gap that serves changes nothing in front of what leads with the gap that is due
pub gap_serves : {format : Format} {R : Relation} (set : ℕ) (made lead : Width) → gaps_serve set made lead ≡ true
    → Leads format lead R → Same (Among set) (Then (Gap format made) R) R
gap_serves {format} {R} set made lead e leads = record {
  to = λ p t x s r. elim (served set made lead e p s) as (λ v. R p t x) [
    | inl none ↦ no_gap_then made p t x none r
    | inr same ↦ leads.absorbs.to p t x tt (other_gap made lead p t x same r)
  ];
  from = λ p t x s r. elim (served set made lead e p s) as (λ v. Then (Gap format made) R p t x) [
    | inl none ↦ with_no_gap made p t x none r
    | inr same ↦ other_gap lead made p t x (sym same) (leads.absorbs.from p t x tt r)
  ];
}
