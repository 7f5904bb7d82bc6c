-- One specification for some tokens.
use Rattle.std.proofs.Common.{◌≡◌, ℕ, codes, true, List, [], ◌∷◌, ◌++◌, Option, Some, None, refl}
use Rattle.idl_lexer.specs.declared.token.Token.{Token}
use Rattle.idl_lexer.specs.declared.token.Kind.TheVariants.{Ident, Keyword, Punct, Pragma as PragmaToken}
use Rattle.idl_tree.specs.declared.definitions.Definition.{Definition, Pragma, Declaration as Declared, Interface as InterfaceDcl, Module', Row_of-Definition, end_of-Definition, more_of-Definition}
use Rattle.idl_tree.specs.Pieces.{Piece, Seen, keyword, mark, past, is_end, seen_from, Spell}
use Rattle.idl_tree.specs.DefinitionYields.{definition_yield, definitions_yield, definitions_spelled}
use Rattle.idl_tree.specs.DefinitionShapes.{definition_shape, definitions_shape, spec_shape}
use Rattle.idl_tree.proofs.Fronts.{Reads, begins}
use Rattle.idl_tree.proofs.Same.{Among, Any, Leads, Same, fixed, so, ended, begun, next, closed, never, contrary, turned, leads_none, leads_first, leads_to, piece_among, kept_among, apart, wider, leaves}
use Rattle.idl_tree.proofs.TreeLists.{Row, same_row}
use Rattle.idl_tree.proofs.TreeMembers.{BraceEnds}
use Rattle.idl_tree.proofs.Declarations.{declared, declaration_begins, same_declaration}
use Rattle.idl_tree.proofs.Interfaces.{same_interface, interface_begins}

-- ---- what definitions begin with

abbrev pub definition_starts : Definition → List ℕ
definition_starts (Pragma p) = 32 ∷ []
definition_starts (Declared d) = declared
definition_starts (InterfaceDcl i) = 33 ∷ []
definition_starts (Module' id shape ds) = 34 ∷ []

pub definition_starts_are : (d : Definition) → Leads (definition_yield d) Any (Among (definition_starts d))
definition_starts_are (Pragma p) = kept_among PragmaToken _ p _ refl
definition_starts_are (Declared d) = leads_first _ (declaration_begins d)
definition_starts_are (InterfaceDcl i) = leads_first _ (interface_begins i)
definition_starts_are (Module' id shape ds) =
    leads_first _ (leads_first _
    (leads_first _ (leads_first _ (leads_first _ (piece_among Keyword (codes "module") _ refl)))))

abbrev pub defined : List ℕ
defined = 32 ∷ 33 ∷ 34 ∷ declared

pub definition_begins : (d : Definition) → Leads (definition_yield d) Any (Among defined)
definition_begins (Pragma p) = leads_to (λ t. wider refl) (definition_starts_are (Pragma p))
definition_begins (Declared d) = leads_to (λ t. wider refl) (definition_starts_are (Declared d))
definition_begins (InterfaceDcl i) = leads_to (λ t. wider refl) (definition_starts_are (InterfaceDcl i))
definition_begins (Module' id shape ds) = leads_to (λ t. wider refl) (definition_starts_are (Module' id shape ds))

no_definition : {n : _} (d : Definition) (rest : Row_of-Definition n) {P : Type 0}
    → Same [] (definition_yield d ++ definitions_yield rest) P BraceEnds
no_definition d rest = contrary (leads_to (λ t a. apart {ns = defined} refl a) leads_none)
    (leads_first _ (definition_begins d))

-- ---- definitions

abbrev pub IsOneDefinition : Definition → Type 0
IsOneDefinition d = (e : Definition)
    → Same (definition_yield d) (definition_yield e) (definition_shape d ≡ definition_shape e) Any

mutual
  pub same_definition : (d : Definition) → IsOneDefinition d
  same_definition (Pragma p) (Pragma q) = so (λ h. cc) (leaves PragmaToken p q)
  same_definition (Declared d) (Declared e) =
      so (λ h. cc) (ended (mark (codes ";")) (same_declaration d e) (piece_among Punct (codes ";") _ refl))
  same_definition (InterfaceDcl i) (InterfaceDcl j) =
      so (λ h. cc) (ended (mark (codes ";")) (same_interface i j) (piece_among Punct (codes ";") _ refl))
  same_definition (Module' id shape ds) (Module' other shape' es) =
      so (λ h. let x = h.0 in let y = h.1 in cc)
      (closed (mark (codes ";"))
      (ended (mark (codes "}"))
      (next (closed (mark (codes "{")) (begun (keyword (codes "module")) (leaves Ident id other)))
      (same_definitions ds es))
      (piece_among Punct (codes "}") _ refl)))
  same_definition d e = never (definition_starts d) (definition_starts e) refl (definition_starts_are d)
      (definition_starts_are e)

  same_definitions : {n m : _} (ds : Row_of-Definition n) (es : Row_of-Definition m)
      → Same (definitions_yield ds) (definitions_yield es) (definitions_shape ds ≡ definitions_shape es) BraceEnds
  same_definitions end_of-Definition end_of-Definition = so (λ u. refl) (fixed [])
  same_definitions end_of-Definition (more_of-Definition e es) = no_definition e es
  same_definitions (more_of-Definition d ds) end_of-Definition = turned (λ h. h) (no_definition d ds)
  same_definitions (more_of-Definition d ds) (more_of-Definition e es) =
      so (λ h. let x = h.0 in let y = h.1 in cc) (next (same_definition d e) (same_definitions ds es))

-- ---- a whole specification

-- what stands behind its last definition: nothing
abbrev Ended : List Seen → Type 0
Ended t = Among (0 ∷ []) t

definitions : Row definition_yield definition_shape defined Any Ended
definitions = record {
  one = same_definition;
  first = definition_begins;
  more = λ t a. tt;
  end = λ t a. tt;
  none = λ t a. apart refl a;
}

at_end : Ended []
unfolding begins
at_end = record { is = refl }

pub spelled_at : (x : List Piece) (t : List Seen) (o : Option (List Seen)) → past x (Some t) ≡ o → is_end o ≡ true
    → Reads x t []
spelled_at x t None e h = absurd (cc)
spelled_at x t (Some []) e h = record { is = e }
spelled_at x t (Some (s ∷ ss)) e h = absurd (cc)

pub same_spec : (tokens : List Token) (ds es : List Definition) → Spell (definitions_spelled ds) tokens
    → Spell (definitions_spelled es) tokens → spec_shape ds ≡ spec_shape es
same_spec tokens ds es h k =
    let t = seen_from 0 tokens in
    ((same_row definitions ds es).by t [] [] (spelled_at _ t _ refl h) (spelled_at _ t _ refl k) at_end at_end).0
