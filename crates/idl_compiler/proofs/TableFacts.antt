-- A table all of whose names use one program.
use Rattle.std.proofs.Common.{◌≡◌, ℕ, zero, suc, ◌<◌, List, length, replicate, refl, sym, ◌∙◌, arith, inl, slice_get, Some}
use Rattle.std.proofs.lemmas.List.{length-replicate}
use Rattle.std.proofs.lemmas.List.Elements.{All-from_recursion}
use Rattle.std.proofs.lemmas.Option.{slice_get_within}
use Rattle.std.specs.List.{AllByRecursion}
use Rattle.type_model.specs.ModelRules.{Parts}
use Rattle.table_file.specs.declared.table.Which.{Which}
use Rattle.table_file.specs.declared.table.Which.TheVariants.{First}
use Rattle.table_file.specs.Table.{AreUses}
use Rattle.position_checker.specs.Acceptance.{IsLone}
use Rattle.idl_compiler.specs.Settlement.{plain_table}

get_replicate : {X : Type 0} (n i : ℕ) (x : X) → i < n → slice_get (replicate n x) i ≡ Some x
get_replicate zero i x within = absurd (omega (arith, within))
get_replicate (suc n) zero x within = refl
get_replicate (suc n) (suc i) x within = get_replicate n i x (omega (arith, within))

pub one_use : (names : List (List ℕ × ℕ)) (program : Which) → AreUses names (replicate (length names) program)
one_use names program = record {
  each = length-replicate (length names) program;
  alike = λ i j one other here there same.
      get_replicate (length names) i program (slice_get_within names i one here)
      ∙ sym (get_replicate (length names) j program (slice_get_within names j other there));
}

all_same : (n : ℕ) (program : Which) → AllByRecursion (λ used. used ≡ program) (replicate n program)
all_same zero program = tt
all_same (suc n) program = (refl, all_same n program)

pub plain_is_lone : (model : Parts) → IsLone (plain_table model)
plain_is_lone model = record {
  first = inl refl;
  second = refl;
  uses =
      All-from_recursion (λ program. program ≡ First) (replicate (length model.names) First)
      (all_same (length model.names) First);
}
