-- Names at places.
use Rattle.std.proofs.Common.{◌≡◌, ◌<◌, ℕ, List, length, Contains, refl, sym, subst, Some, slice_get}
use Rattle.std.proofs.lemmas.Option.{slice_get_within, get_or_from_slice_get}
use Rattle.table_file.specs.Table.{TableParts}
use Rattle.idlc_c.specs.declared.refusal.Refusal.{Refusal}
use Rattle.idlc_c.specs.declared.refusal.Refusal.TheVariants.{NoRoom}
use Rattle.idlc_c.specs.Answers.{HasName, RefusesName, TellsLength}

pub name_told : (table : TableParts) (place room node : ℕ) (name octets : List ℕ) (past : Type 0) (refusal : Refusal)
    → slice_get table.model.names place ≡ Some (name, node) → octets ≡ name → (refusal ≡ NoRoom (length octets))
    × (room < length octets)
    → RefusesName past (TellsLength (λ len. HasName place len table) room) refusal
name_told table place room node name octets past refusal there same told =
    subst (RefusesName past (TellsLength (λ len. HasName place len table) room)) (sym told.0) (
      told.1,
      record {
        name = octets;
        node = node;
        there =
            subst (λ (n : List ℕ). slice_get table.model.names place ≡ Some (n, node)) (sym same) there;
        long = refl;
      },
    )

pub contains_at : {X : Type 0} (xs : List X) (i : ℕ) (x : X) → slice_get xs i ≡ Some x → Contains xs x
contains_at xs i x e = (i, slice_get_within xs i x e, get_or_from_slice_get xs i x x e)
