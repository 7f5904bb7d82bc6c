-- What is spelled as a table file is one table alone.
use Rattle.std.proofs.Common.{◌≡◌, ℕ, zero, List, [], ◌∷◌, length, Option, Some, None, refl, sym, ap, ap₂, ◌∙◌, arith}
use Rattle.std.proofs.lemmas.List.{append-nil}
use Rattle.std.specs.Fmt.{◌++?◌}
use Rattle.std.specs.List.{AllByRecursion}
use Rattle.marshal_program.specs.declared.instr.Routine.{Routine}
use Rattle.type_model.specs.ModelRules.{Parts}
use Rattle.table_file.specs.declared.table.Which.{Which}
use Rattle.table_file.specs.declared.table.Which.TheVariants.{First, Second}
use Rattle.table_file.specs.Octets.{spelled_octet, spelled_each, spelled_run, spelled_pair}
use Rattle.table_file.specs.Spelling.{spelled_model, spelled_program}
use Rattle.table_file.specs.Table.{TableParts, program_number, table_of}
use Rattle.table_file.specs.TableSpelling.{spelled_which, spelled_start, Spells, SpellsOld}
use Rattle.table_file.specs.inner.Joins.{joins_assoc, parted}
use Rattle.table_file.specs.inner.Codes.{IsCode, via_code, pair_code, octet_code}
use Rattle.table_file.specs.inner.ListCodes.{one_each, run_at, run_of}
use Rattle.table_file.specs.inner.PartCodes.{ModelFields, model_fields, spelled_model_fields, model_fields_code, program_code}

-- the program of a number
which_of : ℕ → Which
which_of zero = First
which_of n = Second

which_back : (which : Which) → which_of (program_number which) ≡ which
unfolding which_of
which_back First = refl
which_back Second = refl

pub which_code : IsCode spelled_which
which_code = via_code spelled_octet program_number which_of which_back octet_code

-- a table as pairs: all but its uses, and those
abbrev pub MostFields : Type 0
MostFields = ModelFields × (List Routine × List Routine)

abbrev pub TableFields : Type 0
TableFields = MostFields × List Which

abbrev pub table_fields : TableParts → TableFields
table_fields x = ((model_fields x.model, (x.first, x.second)), x.uses)

abbrev pub model_from : ModelFields → Parts
model_from x =
    record { graph = x.0; names = x.1.0; interfaces = x.1.1.0; operations = x.1.1.1.0; exceptions = x.1.1.1.1 }

abbrev pub table_from : TableFields → TableParts
table_from x = table_of (model_from x.0.0) x.0.1.0 x.0.1.1 x.1

abbrev pub spelled_most : MostFields → Option (List ℕ)
spelled_most = spelled_pair spelled_model_fields (spelled_pair spelled_program spelled_program)

pub most_code : IsCode spelled_most
most_code = pair_code spelled_model_fields (spelled_pair spelled_program spelled_program) model_fields_code
    (pair_code spelled_program spelled_program program_code program_code)

-- as many uses as names
abbrev pub spelled_fields : TableFields → Option (List ℕ)
spelled_fields x = spelled_most x.0 ++? spelled_run (length x.0.0.1.0) spelled_which x.1

-- what is read of a file of version 1
abbrev pub OldFields : Type 0
OldFields = ModelFields × List Routine

abbrev pub spelled_old_fields : OldFields → Option (List ℕ)
spelled_old_fields = spelled_pair spelled_model_fields spelled_program

pub old_code : IsCode spelled_old_fields
old_code = pair_code spelled_model_fields spelled_program model_fields_code program_code

-- the fields at the front
pub one_fields : (a b : TableFields) (x y octets : List ℕ) → spelled_fields a ++? Some x ≡ Some octets
    → spelled_fields b ++? Some y ≡ Some octets → (a ≡ b) × (x ≡ y)
one_fields a b x y octets ea eb =
    let pa = parted (spelled_most a.0) (spelled_run (length a.0.0.1.0) spelled_which a.1) (Some x) octets ea in
    let pb = parted (spelled_most b.0) (spelled_run (length b.0.0.1.0) spelled_which b.1) (Some y) octets eb in
    let most = most_code.one a.0 b.0 pa.0 pb.0 octets pa.2 pb.2 in
    let ra = run_at (length a.0.0.1.0) spelled_which a.1 x pa.0 pa.1 in
    let rb = run_at (length b.0.0.1.0) spelled_which b.1 y pb.0 pb.1 in
    let counts : length a.0.0.1.0 ≡ length b.0.0.1.0 = ap (λ (m : MostFields). length m.0.1.0) most.0 in
    let uses =
    one_each spelled_which which_code a.1 b.1 x y pb.0 (ra.0 ∙ counts ∙ sym rb.0) (ra.1 ∙ ap Some most.1) rb.1 in
    let same : a ≡ b = ap₂ (λ (i : MostFields) (j : List Which). (i, j)) most.0 uses.0 in
    (same, uses.1)

-- what stands behind the start
abbrev pub spelled_body : TableParts → Option (List ℕ)
spelled_body table =
    spelled_model table.model ++? spelled_program table.first ++? spelled_program table.second
    ++? spelled_each spelled_which table.uses

abbrev pub spelled_old_body : TableParts → Option (List ℕ)
spelled_old_body table = spelled_model table.model ++? spelled_program table.first

-- a table with a use for each name is spelled as its fields are
pub body_fields : (table : TableParts) → length table.uses ≡ length table.model.names
    → spelled_body table ≡ spelled_fields (table_fields table)
body_fields table each =
    let first = spelled_program table.first in
    let second = spelled_program table.second in
    let uses = spelled_each spelled_which table.uses in
    ap (λ o. spelled_model table.model ++? o) (sym (joins_assoc first second uses))
    ∙ sym (joins_assoc (spelled_model table.model) (first ++? second) uses)
    ∙ ap (λ o. (spelled_model table.model ++? first ++? second) ++? o)
    (sym (run_of (length table.model.names) spelled_which table.uses each))

-- behind the start
pub behind_start : (version : ℕ) (body : Option (List ℕ)) (octets : List ℕ)
    → spelled_start version ++? body ≡ Some octets
    → (rest : List ℕ) × (octets ≡ 73 ∷ 68 ∷ 76 ∷ 84 ∷ version ∷ rest) × (body ≡ Some rest)
behind_start version None octets e = absurd (cc)
behind_start version (Some rest) octets e = (rest, cc, refl)

-- nothing stands behind the whole
pub whole : (p : Option (List ℕ)) (octets : List ℕ) → p ≡ Some octets → p ++? Some [] ≡ Some octets
whole p octets e = ap (λ o. o ++? Some []) e ∙ ap Some (append-nil octets)

-- no list spells two tables
pub one_table : (t u : TableParts) (octets : List ℕ) → length t.uses ≡ length t.model.names
    → length u.uses ≡ length u.model.names
    → Spells t octets → Spells u octets → t ≡ u
one_table t u octets lt lu st su =
    let a = behind_start 2 (spelled_body t) octets st in
    let b = behind_start 2 (spelled_body u) octets su in
    let rests : a.0 ≡ b.0 = cc in
    let same = one_fields (table_fields t) (table_fields u) [] [] b.0
    (whole (spelled_fields (table_fields t)) b.0 (sym (body_fields t lt) ∙ a.2 ∙ ap Some rests))
    (whole (spelled_fields (table_fields u)) b.0 (sym (body_fields u lu) ∙ b.2)) in
    ap table_from same.0

-- uses of the first program alone
pub all_first : (xs ys : List Which) → AllByRecursion (λ use_. use_ ≡ First) xs
    → AllByRecursion (λ use_. use_ ≡ First) ys → length xs ≡ length ys → xs ≡ ys
all_first [] [] hx hy l = refl
all_first [] (y ∷ ys) hx hy l = absurd (omega arith)
all_first (x ∷ xs) [] hx hy l = absurd (omega arith)
all_first (x ∷ xs) (y ∷ ys) hx hy l = ap₂ (λ i is. i ∷ is) (hx.0 ∙ sym hy.0) (all_first xs ys hx.1 hy.1 (omega arith))

-- tables of the same parts
pub of_parts : (t u : TableParts) → t.model ≡ u.model → t.first ≡ u.first → t.second ≡ u.second → t.uses ≡ u.uses
    → t ≡ u
of_parts t u models firsts seconds uses =
    ap₂ (λ m f. table_of m f t.second t.uses) models firsts ∙ ap₂ (λ s x. table_of u.model u.first s x) seconds uses

-- nor two old ones
pub one_old_table : (t u : TableParts) (octets : List ℕ) → length t.uses ≡ length t.model.names
    → length u.uses ≡ length u.model.names
    → SpellsOld t octets → SpellsOld u octets → t ≡ u
one_old_table t u octets lt lu st su =
    let a = behind_start 1 (spelled_old_body t) octets st.spelled in
    let b = behind_start 1 (spelled_old_body u) octets su.spelled in
    let rests : a.0 ≡ b.0 = cc in
    let same = old_code.one (model_fields t.model, t.first) (model_fields u.model, u.first) [] [] b.0
    (whole (spelled_old_body t) b.0 (a.2 ∙ ap Some rests)) (whole (spelled_old_body u) b.0 b.2) in
    let models : t.model ≡ u.model = ap (λ (x : OldFields). model_from x.0) same.0 in
    let firsts : t.first ≡ u.first = ap (λ (x : OldFields). x.1) same.0 in
    let counts : length t.model.names ≡ length u.model.names = ap (λ (m : Parts). length m.names) models in
    let uses = all_first t.uses u.uses st.unused su.unused (lt ∙ counts ∙ sym lu) in
    let seconds : t.second ≡ u.second = st.empty ∙ sym su.empty in
    of_parts t u models firsts seconds uses

-- nor a table and an old one
pub other_version : (t u : TableParts) (octets : List ℕ) → Spells t octets → SpellsOld u octets → ⊥
other_version t u octets st su =
    let a = behind_start 2 (spelled_body t) octets st in
    let b = behind_start 1 (spelled_old_body u) octets su.spelled in
    let same : 73 ∷ 68 ∷ 76 ∷ 84 ∷ 2 ∷ a.0 ≡ 73 ∷ 68 ∷ 76 ∷ 84 ∷ 1 ∷ b.0 = sym a.1 ∙ b.1 in
    cc
