-- Walks over the parts of a chain, a structure, a union and a module: by rows they are what they are by the lists of
-- their `Vec`s.
--
-- A specification that walks over a type that holds itself walks over rows; code walks over lists. `walk` is such a
-- walk over rows, `none` what it gives at the end, `one` what a part adds to what follows, and `list` the same walk
-- over a list. That they are is `refl` at each, where both walks are defined by such clauses.
use Rattle.std.proofs.Common.{◌≡◌, List, [], ◌∷◌, Vec, Global, sym, ap, ◌∙◌}
use Rattle.std.specs.Prelude.{Box}
use mathlib.Core.Former.{Count, this, arity}
use Rattle.std.specs.formers.vec.Vec.{the_former}
use Rattle.idl_tree.specs.declared.expression.Expr.{Expr, Chain, Chain', Row_of-Operand, end_of-Operand, more_of-Operand, items-the_row-Operand, items_hidden-the_row-Operand-0}
use Rattle.idl_tree.specs.declared.expression.Operand.{Operand}
use Rattle.idl_tree.specs.declared.types.StructType.{StructType, StructType', is-StructType', out-StructType, Row_of-Member, end_of-Member, more_of-Member, items-the_row-Member, items_hidden-the_row-Member-0}
use Rattle.idl_tree.specs.declared.types.UnionType.{UnionType, UnionType', is-UnionType', out-UnionType, Row_of-Case, end_of-Case, more_of-Case, items-the_row-Case, items_hidden-the_row-Case-1}
use Rattle.idl_tree.specs.declared.types.Member.{Member}
use Rattle.idl_tree.specs.declared.types.Case.{Case}
use Rattle.idl_tree.specs.declared.definitions.Definition.{Definition, Module, Module', Row_of-Definition, end_of-Definition, more_of-Definition, items-the_row-Definition, items_hidden-the_row-Definition-0}
use Rattle.idl_tree.specs.declared.definitions.Module.{Module as ModuleRecord}
use Rattle.idl_tree.specs.declared.names.Leaf.{Leaf}
use Rattle.idl_tree.specs.declared.types.SwitchType.{SwitchType}

-- ---- rows and lists

pub operands_walk {ℓ} : {A : Type ℓ} (walk : (n : Count) → Row_of-Operand n → A) (none : A) (one : Operand → A → A)
    (list : List Operand → A)
    → (walk _ end_of-Operand ≡ none)
    → ((n : Count) (x : Operand) (row : Row_of-Operand n)
    → walk _ (more_of-Operand x.operator x.operand row) ≡ one x (walk _ row))
    → (list [] ≡ none) → ((x : Operand) (xs : List Operand) → list (x ∷ xs) ≡ one x (list xs))
    → (n : Count) (row : Row_of-Operand n) → walk n row ≡ list (items-the_row-Operand n row)
operands_walk walk none one list row_end row_more list_end list_more n end_of-Operand = row_end ∙ sym list_end
operands_walk walk none one list row_end row_more list_end list_more n (more_of-Operand o e rest) =
    let x : Operand = record { operator = o; operand = e } in
    row_more _ x rest ∙ ap (one x) (operands_walk walk none one list row_end row_more list_end list_more _ rest)
    ∙ sym (list_more x _)

pub members_walk {ℓ} : {A : Type ℓ} (walk : (n : Count) → Row_of-Member n → A) (none : A) (one : Member → A → A)
    (list : List Member → A)
    → (walk _ end_of-Member ≡ none)
    → ((n : Count) (x : Member) (row : Row_of-Member n) → walk _ (more_of-Member x.member_type x.declarators row)
    ≡ one x (walk _ row))
    → (list [] ≡ none) → ((x : Member) (xs : List Member) → list (x ∷ xs) ≡ one x (list xs))
    → (n : Count) (row : Row_of-Member n) → walk n row ≡ list (items-the_row-Member n row)
members_walk walk none one list row_end row_more list_end list_more n end_of-Member = row_end ∙ sym list_end
members_walk walk none one list row_end row_more list_end list_more n (more_of-Member t declarators rest) =
    let x : Member = record { member_type = t; declarators = declarators } in
    row_more _ x rest ∙ ap (one x) (members_walk walk none one list row_end row_more list_end list_more _ rest)
    ∙ sym (list_more x _)

pub cases_walk {ℓ} : {A : Type ℓ} (walk : (n : Count) → Row_of-Case n → A) (none : A) (one : Case → A → A)
    (list : List Case → A)
    → (walk _ end_of-Case ≡ none)
    → ((n : Count) (x : Case) (row : Row_of-Case n) → walk _ (more_of-Case x.labels x.member_type x.declarator row)
    ≡ one x (walk _ row))
    → (list [] ≡ none) → ((x : Case) (xs : List Case) → list (x ∷ xs) ≡ one x (list xs))
    → (n : Count) (row : Row_of-Case n) → walk n row ≡ list (items-the_row-Case n row)
cases_walk walk none one list row_end row_more list_end list_more n end_of-Case = row_end ∙ sym list_end
cases_walk walk none one list row_end row_more list_end list_more n (more_of-Case labels t declarator rest) =
    let x : Case = record { labels = labels; member_type = t; declarator = declarator } in
    row_more _ x rest ∙ ap (one x) (cases_walk walk none one list row_end row_more list_end list_more _ rest)
    ∙ sym (list_more x _)

pub definitions_walk {ℓ} : {A : Type ℓ} (walk : (n : Count) → Row_of-Definition n → A) (none : A)
    (one : Definition → A → A) (list : List Definition → A)
    → (walk _ end_of-Definition ≡ none)
    → ((n : Count) (x : Definition) (row : Row_of-Definition n)
    → walk _ (more_of-Definition x row) ≡ one x (walk _ row))
    → (list [] ≡ none) → ((x : Definition) (xs : List Definition) → list (x ∷ xs) ≡ one x (list xs))
    → (n : Count) (row : Row_of-Definition n) → walk n row ≡ list (items-the_row-Definition n row)
definitions_walk walk none one list row_end row_more list_end list_more n end_of-Definition = row_end ∙ sym list_end
definitions_walk walk none one list row_end row_more list_end list_more n (more_of-Definition x rest) =
    row_more _ x rest ∙ ap (one x) (definitions_walk walk none one list row_end row_more list_end list_more _ rest)
    ∙ sym (list_more x _)

-- ---- nodes: `whole` is the walk over a node, and `around` what the node makes of its parts

abbrev Shape : Type 0
Shape = (the_former (this {0}) Global).Shape

abbrev parts_of : Shape → Count
parts_of shape = arity (the_former (this {0}) Global) shape

pub chain_walk {ℓ} : {A B : Type ℓ} (whole : Expr → A) (walk : (n : Count) → Row_of-Operand n → B)
    (around : Expr → B → A) (none : B) (one : Operand → B → B) (list : List Operand → B)
    → ((p : Box (Unit {0}) Global) (e : Expr) (shape : Shape) (row : Row_of-Operand (parts_of shape))
    → whole (Chain' p e shape row) ≡ around e (walk _ row))
    → (walk _ end_of-Operand ≡ none)
    → ((n : Count) (x : Operand) (row : Row_of-Operand n)
    → walk _ (more_of-Operand x.operator x.operand row) ≡ one x (walk _ row))
    → (list [] ≡ none) → ((x : Operand) (xs : List Operand) → list (x ∷ xs) ≡ one x (list xs))
    → (first : Box Expr Global) (rest : Vec Operand Global)
    → whole (Chain first rest) ≡ around first.value (list rest.items)
chain_walk whole walk around none one list made row_end row_more list_end list_more first rest =
    made _ first.value _ _
    ∙ ap (around first.value) (operands_walk walk none one list row_end row_more list_end list_more _ _
    ∙ ap list (items_hidden-the_row-Operand-0 rest))

pub struct_walk {ℓ} : {A B : Type ℓ} (whole : StructType → A) (walk : (n : Count) → Row_of-Member n → B)
    (around : Leaf → Member → B → A) (none : B) (one : Member → B → B) (list : List Member → B)
    → ((name : Leaf) (p : Box (Unit {0}) Global) (m : Member) (shape : Shape) (row : Row_of-Member (parts_of shape))
    → whole (StructType' name p m.member_type m.declarators shape row) ≡ around name m (walk _ row))
    → (walk _ end_of-Member ≡ none)
    → ((n : Count) (x : Member) (row : Row_of-Member n) → walk _ (more_of-Member x.member_type x.declarators row)
    ≡ one x (walk _ row))
    → (list [] ≡ none) → ((x : Member) (xs : List Member) → list (x ∷ xs) ≡ one x (list xs))
    → (s : StructType) → whole s ≡ around (out-StructType s).identifier (out-StructType s).first.value
    (list (out-StructType s).rest.items)
struct_walk whole walk around none one list made row_end row_more list_end list_more s =
    let m = (out-StructType s).first.value in
    ap whole (is-StructType' s) ∙ made _ _ m _ _
    ∙ ap (around (out-StructType s).identifier m)
    (members_walk walk none one list row_end row_more list_end list_more _ _
    ∙ ap list (items_hidden-the_row-Member-0 (out-StructType s).rest))

pub union_walk {ℓ} : {A B : Type ℓ} (whole : UnionType → A) (walk : (n : Count) → Row_of-Case n → B)
    (around : Leaf → SwitchType → Case → B → A) (none : B) (one : Case → B → B) (list : List Case → B)
    → ((name : Leaf) (switch : Box SwitchType Global) (p : Box (Unit {0}) Global) (c : Case) (shape : Shape)
    (row : Row_of-Case (parts_of shape))
    → whole (UnionType' name switch p c.labels c.member_type c.declarator shape row)
    ≡ around name switch.value c (walk _ row))
    → (walk _ end_of-Case ≡ none)
    → ((n : Count) (x : Case) (row : Row_of-Case n) → walk _ (more_of-Case x.labels x.member_type x.declarator row)
    ≡ one x (walk _ row))
    → (list [] ≡ none) → ((x : Case) (xs : List Case) → list (x ∷ xs) ≡ one x (list xs))
    → (u : UnionType) → whole u ≡ around (out-UnionType u).identifier (out-UnionType u).switch.value
    (out-UnionType u).first.value (list (out-UnionType u).rest.items)
union_walk whole walk around none one list made row_end row_more list_end list_more u =
    let c = (out-UnionType u).first.value in
    ap whole (is-UnionType' u) ∙ made _ _ _ c _ _
    ∙ ap (around (out-UnionType u).identifier (out-UnionType u).switch.value c)
    (cases_walk walk none one list row_end row_more list_end list_more _ _
    ∙ ap list (items_hidden-the_row-Case-1 (out-UnionType u).rest))

pub module_walk {ℓ} : {A B : Type ℓ} (whole : Definition → A) (walk : (n : Count) → Row_of-Definition n → B)
    (around : Leaf → B → A) (none : B) (one : Definition → B → B) (list : List Definition → B)
    → ((name : Leaf) (shape : Shape) (row : Row_of-Definition (parts_of shape))
    → whole (Module' name shape row) ≡ around name (walk _ row))
    → (walk _ end_of-Definition ≡ none)
    → ((n : Count) (x : Definition) (row : Row_of-Definition n)
    → walk _ (more_of-Definition x row) ≡ one x (walk _ row))
    → (list [] ≡ none) → ((x : Definition) (xs : List Definition) → list (x ∷ xs) ≡ one x (list xs))
    → (m : ModuleRecord) → whole (Module m) ≡ around m.identifier (list m.definitions.items)
module_walk whole walk around none one list made row_end row_more list_end list_more m =
    made m.identifier _ _
    ∙ ap (around m.identifier) (definitions_walk walk none one list row_end row_more list_end list_more _ _
    ∙ ap list (items_hidden-the_row-Definition-0 m.definitions))
