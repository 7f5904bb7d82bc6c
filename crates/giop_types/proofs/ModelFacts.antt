-- The names of the types of GIOP keep the rules of a model and of a table.
use Rattle.std.proofs.Common.{◌≡◌, ◌≢◌, ℕ, zero, suc, ◌<◌, Bool, true, false, not, ◌&&◌, List, [], ◌∷◌, length, refl, sym, ap, ◌∙◌, arith, inl, slice_get, slice_index_or, Some}
use Rattle.std.specs.List.{AllByRecursion, list_all}
use Rattle.std.specs.Str.{bytes_eq}
use Rattle.std.proofs.lemmas.Bool.{and_parts}
use Rattle.std.proofs.lemmas.Slice.Eq.{bytes_eq-Decides}
use Rattle.std.proofs.lemmas.Option.{slice_get_within}
use Rattle.std.proofs.lemmas.List.Elements.{All-from_recursion}
use Rattle.type_model.specs.Names.{AreDistinct}
use Rattle.type_model.specs.ModelRules.{IsModel, IsInterface, IsOperation, IsException}
use Rattle.table_file.specs.declared.table.Which.{Which}
use Rattle.table_file.specs.declared.table.Which.TheVariants.{First}
use Rattle.table_file.specs.Table.{AreUses}
use Rattle.position_checker.specs.Acceptance.{IsLone}
use Rattle.giop_types.specs.GiopNodes.{giop_nodes}
use Rattle.giop_types.specs.GiopModel.{giop_names, giop_model, giop_uses, giop_table}
use Rattle.giop_types.proofs.GraphFacts.{giop_is_graph}

unlike : false ≡ true → ⊥
unlike e = absurd (cc)

-- the name is none of these
abbrev is_new : List ℕ → List (List ℕ × ℕ) → Bool
is_new name names = list_all (λ other. not (bytes_eq name other.0)) names

abbrev are_new : List (List ℕ × ℕ) → Bool
are_new [] = true
are_new (name ∷ more) = is_new name.0 more && are_new more

differ : (name : List ℕ) (names : List (List ℕ × ℕ)) → is_new name names ≡ true → (d : List ℕ × ℕ) (i : ℕ)
    → i < length names → name ≢ (slice_index_or names i d).0
differ name [] e d i within same = absurd (omega (arith, within))
differ name (other ∷ more) e d zero within same =
    let p = and_parts (not (bytes_eq name other.0)) (is_new name more) e in
    let equal : bytes_eq name other.0 ≡ true = (bytes_eq-Decides name other.0).1 same in
    absurd (unlike (ap not (sym equal) ∙ p.0))
differ name (other ∷ more) e d (suc i) within same =
    differ name more (and_parts (not (bytes_eq name other.0)) (is_new name more) e).1 d i (omega (arith, within)) same

distinct : (names : List (List ℕ × ℕ)) → are_new names ≡ true → AreDistinct names
distinct [] e i j d before within same = absurd (omega (arith, within))
distinct (name ∷ more) e zero zero d before within same = absurd (omega (arith, before))
distinct (name ∷ more) e zero (suc j) d before within same =
    differ name.0 more (and_parts (is_new name.0 more) (are_new more) e).0 d j (omega (arith, within)) same
distinct (name ∷ more) e (suc i) zero d before within same = absurd (omega (arith, before))
distinct (name ∷ more) e (suc i) (suc j) d before within same =
    distinct more (and_parts (is_new name.0 more) (are_new more) e).1 i j d (omega (arith, before))
    (omega (arith, within)) same

-- a use is the first program's
firsts : (uses : List Which) → AllByRecursion (λ program. program ≡ First) uses → (i : ℕ) → i < length uses
    → slice_get uses i ≡ Some First
firsts [] all i within = absurd (omega (arith, within))
firsts (program ∷ more) all zero within = ap Some all.0
firsts (program ∷ more) all (suc i) within = firsts more all.1 i (omega (arith, within))

all_first : AllByRecursion (λ program. program ≡ First) giop_uses
all_first = (refl, (refl, (refl, (refl, (refl, (refl, (refl, (refl, (refl, (refl, (refl, (refl, (refl, tt)))))))))))))

pub giop_has_uses : AreUses giop_names giop_uses
giop_has_uses = record {
  each = refl;
  alike = λ i j one other here there same.
      firsts giop_uses all_first i (slice_get_within giop_names i one here)
      ∙ sym (firsts giop_uses all_first j (slice_get_within giop_names j other there));
}

pub giop_is_model : IsModel giop_model
giop_is_model = record {
  graph = giop_is_graph;
  names = record {
    distinct = distinct giop_names refl;
    within = All-from_recursion (λ name. name.1 < 29) giop_names (
      omega arith,
      (
        omega arith,
        (
          omega arith,
          (
            omega arith,
            (
              omega arith,
              (
                omega arith,
                (
                  omega arith,
                  (omega arith, (omega arith, (omega arith, (omega arith, (omega arith, (omega arith, tt)))))),
                ),
              ),
            ),
          ),
        ),
      ),
    );
  };
  declared = record {
    each_interface = All-from_recursion (IsInterface 0) [] tt;
    each_operation = All-from_recursion (IsOperation giop_nodes giop_names 0) [] tt;
    each_exception = All-from_recursion (IsException giop_nodes giop_names) [] tt;
  };
}

pub giop_is_lone : IsLone giop_table
giop_is_lone = record {
  first = inl refl;
  second = refl;
  uses = All-from_recursion (λ program. program ≡ First) giop_uses all_first;
}
