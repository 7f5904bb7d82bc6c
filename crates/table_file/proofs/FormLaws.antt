-- A table file as pairs, part by part.
use Rattle.std.proofs.Common.{◌≡◌, ℕ, List, [], ◌∷◌, ◌++◌, length, false, Option, Some, None, refl, sym, ap, ap₂, ◌∙◌, subst, arith}
use Rattle.std.specs.Prelude.{Contains}
use Rattle.std.specs.Fmt.{◌++?◌}
use Rattle.marshal_program.specs.declared.instr.Routine.{Routine}
use Rattle.table_file.specs.declared.table.Which.{Which}
use Rattle.table_file.specs.Octets.{spelled_run, spelled_list, spelled_pair}
use Rattle.table_file.specs.Spelling.{spelled_node, spelled_name, spelled_program, spelled_interface, spelled_operation, spelled_exception, spelled_routine}
use Rattle.table_file.specs.TableSpelling.{spelled_which}
use Rattle.table_file.specs.inner.Passing.{HasOne, Passes, PassesOne}
use Rattle.table_file.specs.inner.Ones.{four_zeros, one_list, one_pair, one_which}
use Rattle.table_file.specs.inner.Joins.{parted}
use Rattle.table_file.specs.inner.Codes.{IsCode, IsOne, code_then, pair_code}
use Rattle.table_file.specs.inner.ListCodes.{list_code, run_one}
use Rattle.table_file.specs.inner.NodeCode.{node_code}
use Rattle.table_file.specs.inner.PartCodes.{name_code, interface_code, operation_code, exception_code, program_code, spelled_model_fields}
use Rattle.table_file.specs.inner.TableCodes.{OldFields, which_code, old_code, spelled_old_fields}
use Rattle.table_file.specs.inner.Skimming.{spelled_declared}
use Rattle.table_file.specs.inner.Variants.{IsKind, one_kind, tag_at, tagged_code}
use Rattle.table_file.specs.inner.Forms.{Form, Old, New, NewFields, letter, spelled_behind, spelled_counted, spelled_file, spelled_form, spelled_letters, spelled_new_fields, tagged_form}
use Rattle.table_file.proofs.PassLaws.{stops_here}
use Rattle.table_file.proofs.PassedLists.{one_run}
use Rattle.table_file.proofs.PassedFiles.{letter_code, one_letter}

-- ---- "IDLT"

abbrev pub last_letters : Unit {0} × Unit {0} → Option (List ℕ)
last_letters = spelled_pair (letter 76) (letter 84)

abbrev pub more_letters : Unit {0} × (Unit {0} × Unit {0}) → Option (List ℕ)
more_letters = spelled_pair (letter 68) last_letters

pub one_last : HasOne last_letters
one_last = one_pair (letter 76) (letter 84) (one_letter 76) (one_letter 84)

pub one_more : HasOne more_letters
one_more = one_pair (letter 68) last_letters (one_letter 68) one_last

pub letters_code : IsCode spelled_letters
letters_code =
    pair_code (letter 73) more_letters (letter_code 73)
    (pair_code (letter 68) last_letters (letter_code 68)
    (pair_code (letter 76) (letter 84) (letter_code 76) (letter_code 84)))

-- ---- what stands behind the names

pub declared_code : IsCode spelled_declared
declared_code =
    let later = spelled_pair (spelled_list spelled_operation) (spelled_list spelled_exception) in
    pair_code (spelled_list spelled_interface) later (list_code spelled_interface interface_code)
    (pair_code (spelled_list spelled_operation) (spelled_list spelled_exception)
    (list_code spelled_operation operation_code) (list_code spelled_exception exception_code))

pub one_declared : HasOne spelled_declared
one_declared =
    one_pair (spelled_list spelled_interface)
    (spelled_pair (spelled_list spelled_operation) (spelled_list spelled_exception)) (one_list spelled_interface)
    (one_pair (spelled_list spelled_operation) (spelled_list spelled_exception) (one_list spelled_operation)
    (one_list spelled_exception))

pub programs_code : IsCode (spelled_pair spelled_program spelled_program)
programs_code = pair_code spelled_program spelled_program program_code program_code

pub one_programs : HasOne (spelled_pair spelled_program spelled_program)
one_programs = one_pair spelled_program spelled_program (one_list spelled_routine) (one_list spelled_routine)

pub one_uses : (n : ℕ) → HasOne (spelled_run n spelled_which)
one_uses n = one_run spelled_which one_which n

abbrev pub programs_and_uses : ℕ → (List Routine × List Routine) × List Which → Option (List ℕ)
programs_and_uses n = spelled_pair (spelled_pair spelled_program spelled_program) (spelled_run n spelled_which)

pub one_rest : (n : ℕ) → HasOne (programs_and_uses n)
one_rest n = one_pair (spelled_pair spelled_program spelled_program) (spelled_run n spelled_which) one_programs
    (one_uses n)

pub one_behind : (n : ℕ) → HasOne (spelled_behind n)
one_behind n = one_pair spelled_declared (programs_and_uses n) one_declared (one_rest n)

behind_code : (n : ℕ) → IsCode (spelled_behind n)
behind_code n =
    code_then spelled_declared (programs_and_uses n) declared_code
    (code_then (spelled_pair spelled_program spelled_program) (spelled_run n spelled_which) programs_code
    (run_one n spelled_which which_code)).one

-- ---- a list, and behind it what its length asks for

counted_code : {A B : Type 0} (f : A → Option (List ℕ)) (behind : ℕ → B → Option (List ℕ)) → IsCode (spelled_list f)
    → ((n : ℕ) → IsCode (behind n)) → IsOne (spelled_counted f behind)
counted_code {A} {B} f behind code codes a b x y octets ea eb =
    let pa = parted (spelled_list f a.0) (behind (length a.0) a.1) (Some x) octets ea in
    let pb = parted (spelled_list f b.0) (behind (length b.0) b.1) (Some y) octets eb in
    let first = code.one a.0 b.0 pa.0 pb.0 octets pa.2 pb.2 in
    let at : behind (length b.0) a.1 ++? Some x ≡ Some pb.0 =
    ap (λ xs. behind (length xs) a.1 ++? Some x) (sym first.0) ∙ pa.1 ∙ ap Some first.1 in
    let second = (codes (length b.0)).one a.1 b.1 x y pb.0 at pb.1 in
    let same : a ≡ b = ap₂ (λ (i : List A) (j : B). (i, j)) first.0 second.0 in
    (same, second.1)

pub names_code : IsCode (spelled_list spelled_name)
names_code = list_code spelled_name name_code

pub nodes_code : IsCode (spelled_list spelled_node)
nodes_code = list_code spelled_node node_code

pub one_named : HasOne (spelled_counted spelled_name spelled_behind)
one_named = let rest = one_behind 0 in (([], rest.0), four_zeros ++ rest.1, ap (λ o. Some four_zeros ++? o) rest.2)

new_code : IsCode spelled_new_fields
new_code =
    code_then (spelled_list spelled_node) (spelled_counted spelled_name spelled_behind) nodes_code
    (counted_code spelled_name spelled_behind names_code behind_code)

-- ---- either version

old_only : (a : Form) → (tagged_form a).0 ≡ 1 → (x : OldFields) × (a ≡ Old x)
old_only (Old x) e = (x, refl)
old_only (New x) e = absurd (omega arith)

pub is_old : IsKind tagged_form 1 spelled_old_fields Old
is_old = record { says = λ x. refl; only = old_only }

new_only : (a : Form) → (tagged_form a).0 ≡ 2 → (x : NewFields) × (a ≡ New x)
new_only (Old x) e = absurd (omega arith)
new_only (New x) e = (x, refl)

pub is_new : IsKind tagged_form 2 spelled_new_fields New
is_new = record { says = λ x. refl; only = new_only }

form_code : IsCode spelled_form
form_code = tagged_code tagged_form (elim [
  | Old x ↦ one_kind is_old old_code.one x
  | New x ↦ one_kind is_new new_code.one x
])

one_old : HasOne spelled_old_fields
one_old =
    one_pair spelled_model_fields spelled_program
    (one_pair (spelled_list spelled_node) (spelled_pair (spelled_list spelled_name) spelled_declared)
    (one_list spelled_node)
    (one_pair (spelled_list spelled_name) spelled_declared (one_list spelled_name) one_declared))
    (one_list spelled_routine)

pub one_form : HasOne spelled_form
one_form = (Old one_old.0, 1 ∷ one_old.1, is_old.says one_old.0 ∙ ap (λ o. Some (1 ∷ []) ++? o) one_old.2)

version_of : (a : Form) → Contains (1 ∷ 2 ∷ []) (tagged_form a).0
version_of (Old x) = (0, omega arith, refl)
version_of (New x) = (1, omega arith, refl)

-- another version
pub no_form : (old new : List ℕ) → PassesOne (λ n. Contains (1 ∷ 2 ∷ []) n) None old new
    → Passes spelled_form false old new
no_form old new p = record {
  passes =
      rw p.passes.0
      (stops_here spelled_form form_code one_form old (λ n rest more e a tail ex.
      let q = tag_at (tagged_form a) tail (n ∷ more) ex in
      let tag : (tagged_form a).0 ≡ n = cc in
      p.passes.1 n rest e (subst (λ m. Contains (1 ∷ 2 ∷ []) m) tag (version_of a))));
}

-- ---- a whole file

pub file_code : IsCode spelled_file
file_code = pair_code spelled_letters spelled_form letters_code form_code
