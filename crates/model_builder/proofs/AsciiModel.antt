-- The texts of a file's model are ASCII.
use Rattle.std.proofs.Common.{◌+◌, ℕ, zero, suc, List, [], ◌∷◌, ◌++◌, codes, length, map, slice_get, Option, Some, None, refl}
use Rattle.std.specs.List.{AllByRecursion, flat_map, range_with_len}
use Rattle.std.specs.Str.{IsAscii}
use Rattle.std.proofs.lemmas.List.Elements.{All-from_recursion}
use Rattle.std.proofs.lemmas.Str.{IsAscii-append}
use Rattle.std.proofs.lemmas.Str.Ascii.{IsAscii-nil}
use Rattle.name_table.specs.Entry.{Entry, around, name_in}
use Rattle.scoped_names.specs.FileNames.{FileNames}
use Rattle.lowered_types.specs.declared.place.Place.{Place}
use Rattle.lowered_types.specs.declared.place.Place.TheVariants.{Typed, Raised, Called, Got, GotAndSet}
use Rattle.lowered_types.specs.Lowered.{Lowered, place_of}
use Rattle.lowered_operations.specs.declared.signature.Offered.{Offered}
use Rattle.lowered_operations.specs.declared.signature.Role.{Role}
use Rattle.lowered_operations.specs.declared.signature.Role.TheVariants.{Operation, Getting, Setting}
use Rattle.lowered_operations.specs.declared.signature.Signature.{Signature}
use Rattle.lowered_operations.specs.Operations.{Defined}
use Rattle.model_builder.specs.Ascii.{HasAsciiTexts, IsAsciiException, IsAsciiInterface}
use Rattle.model_builder.specs.Naming.{called, mark_of, marked, name_of, names_at, names_of, names_of_place, scopes_of, with_colons}
use Rattle.model_builder.specs.Shown.{model_of}
use Rattle.model_builder.specs.Signatures.{exception_of, id_of, interface_of, interfaces_from, operation_of}
use Rattle.model_builder.proofs.AsciiNames.{AllAscii, SaysAscii, id_ascii, name_ascii, names_ascii, told_ascii, word_ascii}
use Rattle.model_builder.proofs.EntryWords.{AreProper}
use Rattle.model_builder.proofs.Joined.{mark_word}

colons_ascii : (ns : List (List ℕ)) → AllAscii ns → IsAscii (with_colons ns)
colons_ascii [] h = IsAscii-nil
colons_ascii (n ∷ ns) h =
    IsAscii-append (n ++ codes "::") (with_colons ns) (IsAscii-append n (codes "::") h.0 (told_ascii (codes "::") refl))
    (colons_ascii ns h.1)

marked_ascii : (es : List Entry) → AreProper es → (r : Role) (e : ℕ) → IsAscii (marked es (mark_of r) e)
marked_ascii es proper r e =
    IsAscii-append (mark_of r) (name_in (slice_get es e)) (word_ascii (mark_of r) (mark_word r))
    (name_ascii es proper e)

called_ascii : (es : List Entry) → AreProper es → (r : Role) (e : ℕ) (end : List ℕ) → IsAscii end
    → IsAscii (called es (mark_of r) e end)
called_ascii es proper r e end h =
    IsAscii-append (with_colons (scopes_of es e) ++ marked es (mark_of r) e) end
    (IsAscii-append (with_colons (scopes_of es e)) (marked es (mark_of r) e)
    (colons_ascii (scopes_of es e) (names_ascii es proper e (around es (suc e)))) (marked_ascii es proper r e)) h

entry_ascii : (es : List Entry) → AreProper es → (e : ℕ) → IsAscii (name_of es e)
entry_ascii es proper e = called_ascii es proper Operation e [] IsAscii-nil

place_ascii : (es : List Entry) → AreProper es → (e : ℕ) (p : Option Place)
    → AllByRecursion (λ name. IsAscii name.0) (names_of_place es e p)
place_ascii es proper e None = tt
place_ascii es proper e (Some (Typed n)) = (entry_ascii es proper e, tt)
place_ascii es proper e (Some (Raised frame place)) = (entry_ascii es proper e, tt)
place_ascii es proper e (Some (Called request)) = (
  called_ascii es proper Operation e (codes "/in") (told_ascii (codes "/in") refl),
  (called_ascii es proper Operation e (codes "/out") (told_ascii (codes "/out") refl), tt),
)
place_ascii es proper e (Some (Got request)) = (
  called_ascii es proper Getting e (codes "/in") (told_ascii (codes "/in") refl),
  (called_ascii es proper Getting e (codes "/out") (told_ascii (codes "/out") refl), tt),
)
place_ascii es proper e (Some (GotAndSet request)) = (
  called_ascii es proper Getting e (codes "/in") (told_ascii (codes "/in") refl),
  (
    called_ascii es proper Getting e (codes "/out") (told_ascii (codes "/out") refl),
    (
      called_ascii es proper Setting e (codes "/in") (told_ascii (codes "/in") refl),
      (called_ascii es proper Setting e (codes "/out") (told_ascii (codes "/out") refl), tt),
    ),
  ),
)

names_list : (es : List Entry) → AreProper es → (w : Lowered) (k n : ℕ)
    → AllByRecursion (λ name. IsAscii name.0) (flat_map (names_at es w) (range_with_len k n))
names_list es proper w k zero = tt
names_list es proper w k (suc n) =
    both (names_at es w k) (flat_map (names_at es w) (range_with_len (k + 1) n))
    (place_ascii es proper k (place_of w k)) (names_list es proper w (k + 1) n)
  where
    both : (xs ys : List (List ℕ × ℕ)) → AllByRecursion (λ name. IsAscii name.0) xs
        → AllByRecursion (λ name. IsAscii name.0) ys → AllByRecursion (λ name. IsAscii name.0) (xs ++ ys)
    both [] ys h k = k
    both (x ∷ xs) ys h k = (h.0, both xs ys h.1 k)

bases_ascii : (names : FileNames) → AreProper names.entries → SaysAscii names → (bases : List ℕ)
    → AllAscii (map (id_of names) bases)
bases_ascii names proper says [] = tt
bases_ascii names proper says (b ∷ bs) = (id_ascii names proper says b, bases_ascii names proper says bs)

interfaces_ascii : (names : FileNames) → AreProper names.entries → SaysAscii names
    → (e : ℕ) (os : List (Option Offered)) → AllByRecursion IsAsciiInterface (interfaces_from names e os)
interfaces_ascii names proper says e [] = tt
interfaces_ascii names proper says e (None ∷ os) = interfaces_ascii names proper says (suc e) os
interfaces_ascii names proper says e (Some o ∷ os) =
    let one : IsAsciiInterface (interface_of names e o) = record {
      name = entry_ascii names.entries proper e;
      id = id_ascii names proper says e;
      bases = All-from_recursion IsAscii (map (id_of names) o.bases) (bases_ascii names proper says o.bases);
    } in
    (one, interfaces_ascii names proper says (suc e) os)

operations_ascii : (es : List Entry) → AreProper es → (ss : List Signature)
    → AllByRecursion (λ o. IsAscii o.name) (map (operation_of es) ss)
operations_ascii es proper [] = tt
operations_ascii es proper (s ∷ ss) = (marked_ascii es proper s.role s.entry, operations_ascii es proper ss)

exceptions_ascii : (names : FileNames) → AreProper names.entries → SaysAscii names → (xs : List (ℕ × ℕ))
    → AllByRecursion IsAsciiException (map (exception_of names) xs)
exceptions_ascii names proper says [] = tt
exceptions_ascii names proper says (x ∷ xs) =
    let one : IsAsciiException (exception_of names x) =
    record { name = entry_ascii names.entries proper x.0; id = id_ascii names proper says x.0 } in
    (one, exceptions_ascii names proper says xs)

pub model_ascii : (names : FileNames) → AreProper names.entries → SaysAscii names → (d : Defined)
    → HasAsciiTexts (model_of names d)
model_ascii names proper says d = record {
  names = All-from_recursion (λ name. IsAscii name.0) (names_of names.entries d.types)
      (names_list names.entries proper d.types 0 (length names.entries));
  interfaces = All-from_recursion IsAsciiInterface (interfaces_from names 0 d.interfaces)
      (interfaces_ascii names proper says 0 d.interfaces);
  operations = All-from_recursion (λ o. IsAscii o.name) (map (operation_of names.entries) d.operations)
      (operations_ascii names.entries proper d.operations);
  exceptions = All-from_recursion IsAsciiException (map (exception_of names) d.types.exceptions)
      (exceptions_ascii names proper says d.types.exceptions);
}
