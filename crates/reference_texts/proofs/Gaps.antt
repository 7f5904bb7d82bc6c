-- What stands in the gaps of an encapsulation.
use Rattle.std.proofs.Common.{◌≡◌, ◌⊎◌, inl, inr, ℕ, ◌+◌, ◌≤◌, min, List, [], ◌∷◌, ◌++◌, length, take, drop, refl, sym, ap, ap₂, ◌∙◌, subst, arith}
use Rattle.std.proofs.lemmas.Bool.{cases_lt}
use Rattle.std.proofs.lemmas.List.{drop_all, take-append-drop}
use Rattle.type_graph.specs.declared.width.Order.{Order}
use Rattle.type_graph.specs.Words.{reading, writing}
use Rattle.type_graph.specs.Value.{Tree, node_at}
use Rattle.type_graph.specs.Encoding.{Encodes, Means}
use Rattle.type_graph.proofs.OneTape.{graph_fits_words, one_tape}
use Rattle.giop_types.specs.GiopNodes.{giop_nodes}
use Rattle.giop_types.proofs.GraphFacts.{giop_is_graph}
use Rattle.reference_texts.specs.Encapsulations.{IsSo, differences, flag_of}
use Rattle.reference_texts.specs.inner.Gaps.{AreGaps}
use Rattle.reference_texts.proofs.Cleaning.{encodes_clean}

-- ---- where two lists differ

behind_all : (at : ℕ) (xs : List ℕ) → differences at xs [] ≡ []
behind_all at [] = refl
behind_all at (x ∷ xs) = refl

pub one_ends : (a b n : ℕ) → min a b ≤ n → (a ≤ n) ⊎ (b ≤ n)
one_ends a b n le = elim (cases_lt a b) [ inl lt ↦ inl (omega (arith, le, lt)) | inr ge ↦ inr (omega (arith, le, ge)) ]

-- behind the end of one
pub none_left : (at n : ℕ) (xs ys : List ℕ) → (length xs ≤ n) ⊎ (length ys ≤ n)
    → differences at (drop n xs) (drop n ys) ≡ []
none_left at n xs ys past = elim past [
  | inl le ↦ ap (λ (l : List ℕ). differences at l (drop n ys)) (drop_all n xs le)
  | inr le ↦ ap (differences at (drop n xs)) (drop_all n ys le) ∙ behind_all at (drop n xs)
]

-- ---- what is read and written

-- what is read has a writing
pub written_there : (order : Order) (node : ℕ) (tape front : List ℕ)
    → Means giop_nodes (reading order) 64 node 1 tape front
    → ((octets : List ℕ) → Means giop_nodes (writing order) 64 node 1 tape octets → ⊥) → ⊥
written_there order node tape front m none =
    let clean = encodes_clean order giop_nodes (node_at giop_nodes node) m.value 1 front m.encodes in
    none clean.octets (record { value = m.value; fits = m.fits; tape_is = m.tape_is; encodes = clean.is })

pub manner_found : (octets inside : List ℕ) (order : Order) (node : ℕ) (tape front behind : List ℕ) (taken : ℕ)
    (gaps : List (ℕ × ℕ)) → octets ≡ flag_of order ∷ inside → front ≡ take taken inside → behind ≡ drop taken inside
    → Means giop_nodes (reading order) 64 node 1 tape front → AreGaps order node tape front gaps
    → IsSo node (record { order = order; gaps = gaps; behind = behind }) octets
manner_found octets inside order node tape front behind taken gaps e f b m g =
    let words = graph_fits_words giop_nodes giop_is_graph in
    let same : g.means.value ≡ m.value =
    one_tape giop_nodes words (node_at giop_nodes node) g.means.value m.value 64 (words node) g.means.fits m.fits
    (sym g.means.tape_is ∙ m.tape_is) in
    record {
      value = m.value;
      is = record {
        front = front;
        octets_are = e ∙ ap (λ (l : List ℕ). flag_of order ∷ l)
            (sym (take-append-drop taken inside) ∙ ap₂ (λ (x y : List ℕ). x ++ y) (sym f) (sym b));
        holds = record { fits = m.fits; encodes = m.encodes };
        clean = g.clean;
        clean_holds = record {
          fits = m.fits;
          encodes = subst (λ (v : Tree). Encodes (writing order) giop_nodes (node_at giop_nodes node) v 1 g.clean) same
              g.means.encodes;
        };
        gaps_are = g.are;
      };
    }
