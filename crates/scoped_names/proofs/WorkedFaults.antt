-- Specifications worked out by hand that have a fault: which it is, and where it is told.
use Rattle.std.proofs.Common.{◌≡◌, ◌∙◌, ℕ, List, [], ◌∷◌, ◌++◌, codes, Some, Result, Ok, Err, Vec, Global, refl, ap}
use Rattle.std.specs.List.{IsDistinct, flat_map}
use Rattle.std.proofs.lemmas.Map.Keys.{IsDistinct-head}
use Rattle.idl_lexer.specs.declared.token.Kind.{Kind}
use Rattle.idl_lexer.specs.declared.token.Kind.TheVariants.{Ident, Pragma as PragmaToken}
use Rattle.idl_lexer.specs.Forms.{HasForm}
use Rattle.idl_tree.specs.declared.names.Leaf.{Leaf}
use Rattle.idl_tree.specs.declared.definitions.TypeDcl.TheVariants.{StructAhead, UnionAhead}
use Rattle.idl_tree.specs.declared.definitions.Declaration.TheVariants.{TypeDcl}
use Rattle.idl_tree.specs.declared.definitions.Interface.TheVariants.{Ahead}
use Rattle.idl_tree.specs.declared.definitions.Definition.{Definition, Pragma, Declaration, Interface, Module}
use Rattle.idl_tree.specs.declared.definitions.Module.{Module as ModuleRecord}
use Rattle.idl_tree.specs.declared.names.At.{At}
use Rattle.scoped_names.specs.declared.fault.NameFault.{NameFault}
use Rattle.scoped_names.specs.declared.fault.NameFault.TheVariants.{Unknown, Collides, IdTwice, PrefixDiffers, PrefixInScope}
use Rattle.name_table.specs.Entry.{Entry}
use Rattle.scoped_names.specs.Introductions.{clashes, introduced}
use Rattle.scoped_names.specs.Faults.{left_open, never_defined as never_defined_test, nothing_yet, steps_read}
use Rattle.scoped_names.specs.Reading.{StateOrFault, ◌>>◌, passed}
use Rattle.name_steps.specs.Steps.{definition_steps, module_body, steps_of}
use Rattle.scoped_names.specs.FileNames.{FileNames, names_of, file_names}
use Rattle.name_steps.proofs.ListedSteps.{module_listed}

-- any leaf, with this token in its place
abbrev leaf : Leaf → (k : Kind) → (text : List ℕ) → HasForm k text → ℕ → ℕ → Leaf
leaf l k text form number at = record {
  token = record { kind = k; text = record l.token.text { now = text }; start = l.token.start; line = at; form = form };
  number = number;
}

abbrev struct : Leaf → (n : List ℕ) → HasForm Ident n → ℕ → ℕ → Definition
struct l n form number at = Declaration (TypeDcl (StructAhead (leaf l Ident n form number at)))

abbrev union : Leaf → (n : List ℕ) → HasForm Ident n → ℕ → ℕ → Definition
union l n form number at = Declaration (TypeDcl (UnionAhead (leaf l Ident n form number at)))

abbrev interface : Leaf → (n : List ℕ) → HasForm Ident n → ℕ → ℕ → Definition
interface l n form number at = Interface (Ahead (leaf l Ident n form number at))

abbrev pragma : Leaf → (n : List ℕ) → HasForm PragmaToken n → ℕ → ℕ → Definition
pragma l n form number at = Pragma (leaf l PragmaToken n form number at)

abbrev place : ℕ → ℕ → At
place token line = record { token = token; line = line }

abbrev finished : StateOrFault → Result FileNames NameFault
finished r = (r >> λ st. passed st (never_defined_test (left_open st 0 st.entries))) >> λ st. Ok (file_names st)

-- struct S;
-- union S;
another_kind : (l : Leaf) (s : HasForm Ident (codes "S"))
    → names_of (struct l (codes "S") s 1 1 ∷ union l (codes "S") s 4 2 ∷ [])
    ≡ Err (Collides (place 4 2) (Some (place 1 1)))
another_kind l s = refl

-- whatever the entries are, the second stands where the first does
another_kind_clashes : (l : Leaf) (s : HasForm Ident (codes "S")) (es : List Entry)
    → IsDistinct clashes (introduced es 0 (steps_of (struct l (codes "S") s 1 1 ∷ union l (codes "S") s 4 2 ∷ []))) → ⊥
another_kind_clashes l s es h = let first = (IsDistinct-head clashes _ _ h).0 in cc

-- interface I;
-- interface i;
another_case : (l : Leaf) (big : HasForm Ident (codes "I")) (small : HasForm Ident (codes "i"))
    → names_of (interface l (codes "I") big 1 1 ∷ interface l (codes "i") small 4 2 ∷ [])
    ≡ Err (Collides (place 4 2) (Some (place 1 1)))
another_case l big small = refl

another_case_clashes : (l : Leaf) (big : HasForm Ident (codes "I")) (small : HasForm Ident (codes "i"))
    (es : List Entry)
    → IsDistinct clashes (introduced es 0
    (steps_of (interface l (codes "I") big 1 1 ∷ interface l (codes "i") small 4 2 ∷ []))) → ⊥
another_case_clashes l big small es h = let first = (IsDistinct-head clashes _ _ h).0 in cc

-- the names of a module alone
of_module : (m : ModuleRecord) (ds : List Definition) → m.definitions.items ≡ ds
    → names_of (Module m ∷ [])
    ≡ finished (steps_read nothing_yet (module_body m.identifier (flat_map definition_steps ds) ++ []))
of_module m ds is =
    ap (λ steps. finished (steps_read nothing_yet (steps ++ [])))
    (module_listed m ∙ ap (λ xs. module_body m.identifier (flat_map definition_steps xs)) is)

-- module M {
-- struct m; };
own_name : (l : Leaf) (big : HasForm Ident (codes "M")) (small : HasForm Ident (codes "m")) (ds : Vec Definition Global)
    → ds.items ≡ struct l (codes "m") small 4 2 ∷ []
    → names_of (Module (record { identifier = leaf l Ident (codes "M") big 1 1; definitions = ds }) ∷ [])
    ≡ Err (Collides (place 4 2) (Some (place 1 1)))
own_name l big small ds is =
    of_module (record { identifier = leaf l Ident (codes "M") big 1 1; definitions = ds })
    (struct l (codes "m") small 4 2 ∷ []) is

-- interface I;
-- struct S;
never_defined : (l : Leaf) (i : HasForm Ident (codes "I")) (s : HasForm Ident (codes "S"))
    → names_of (interface l (codes "I") i 1 1 ∷ struct l (codes "S") s 4 2 ∷ []) ≡ Err (Unknown (place 4 2))
never_defined l i s = refl

-- struct S;
-- union S;
-- interface S;
-- the first clash is told, and not the second, nor what is never defined
first_of_two : (l : Leaf) (s : HasForm Ident (codes "S"))
    → names_of (struct l (codes "S") s 1 1 ∷ union l (codes "S") s 4 2 ∷ interface l (codes "S") s 7 3 ∷ [])
    ≡ Err (Collides (place 4 2) (Some (place 1 1)))
first_of_two l s = refl

-- interface I;
-- #pragma prefix "p"
-- interface I;
another_prefix : (l : Leaf) (i : HasForm Ident (codes "I")) (p : HasForm PragmaToken (codes "#pragma prefix \"p\""))
    → names_of (interface l (codes "I") i 1 1 ∷ pragma l (codes "#pragma prefix \"p\"") p 3 2
    ∷ interface l (codes "I") i 5 3 ∷ [])
    ≡ Err (PrefixDiffers (place 5 3) (Some (place 1 1)))
another_prefix l i p = refl

-- module M {
-- #pragma prefix "p"
-- };
prefix_inside : (l : Leaf) (m : HasForm Ident (codes "M")) (p : HasForm PragmaToken (codes "#pragma prefix \"p\""))
    (ds : Vec Definition Global)
    → ds.items ≡ pragma l (codes "#pragma prefix \"p\"") p 3 2 ∷ []
    → names_of (Module (record { identifier = leaf l Ident (codes "M") m 1 1; definitions = ds }) ∷ [])
    ≡ Err (PrefixInScope (place 3 2))
prefix_inside l m p ds is =
    of_module (record { identifier = leaf l Ident (codes "M") m 1 1; definitions = ds })
    (pragma l (codes "#pragma prefix \"p\"") p 3 2 ∷ []) is

-- interface I;
-- #pragma ID I "x"
-- #pragma ID I "y"
another_id : (l : Leaf) (i : HasForm Ident (codes "I")) (x : HasForm PragmaToken (codes "#pragma ID I \"x\""))
    (y : HasForm PragmaToken (codes "#pragma ID I \"y\""))
    → names_of (interface l (codes "I") i 1 1 ∷ pragma l (codes "#pragma ID I \"x\"") x 3 2
    ∷ pragma l (codes "#pragma ID I \"y\"") y 4 3 ∷ [])
    ≡ Err (IdTwice (place 4 3) (place 3 2))
another_id l i x y = refl

-- #pragma ID I "x"
nothing_named : (l : Leaf) (x : HasForm PragmaToken (codes "#pragma ID I \"x\""))
    → names_of (pragma l (codes "#pragma ID I \"x\"") x 0 1 ∷ []) ≡ Err (Unknown (place 0 1))
nothing_named l x = refl
