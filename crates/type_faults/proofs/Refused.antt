-- One part more that is refused, and what the first one tells.
use Rattle.std.proofs.Common.{◌≡◌, ℕ, List, [], ◌∷◌, ◌++◌, length, map, Ok, Err, subst, sym, ◌∙◌, append_assoc}
use Rattle.std.proofs.lemmas.List.{append-nil}
use Rattle.idl_lexer.specs.declared.token.Token.{Token}
use Rattle.idl_lexer.specs.Tokens.{parts_of}
use Rattle.idl_tree.specs.declared.definitions.Definition.{Definition}
use Rattle.idl_tree.specs.DefinitionYields.{definitions_spelled}
use Rattle.idl_tree.specs.Pieces.{Spell}
use Rattle.name_table.specs.Entry.{Entry}
use Rattle.scoped_names.specs.FileNames.{AreNames, FileNames, names_of}
use Rattle.idl_tree.specs.DefinitionShapes.{spec_shape}
use Rattle.lowered_types.specs.declared.fault.BuildFault.{BuildFault}
use Rattle.lowered_operations.specs.Definitions.{defined_by}
use Rattle.type_faults.specs.AllFaults.{AreRefused, HasFault, IsRefused, numbers_of}
use Rattle.type_faults.specs.Parts.{left}
use Rattle.type_faults.proofs.Leaving.{all_left}
use Rattle.type_faults.proofs.Texts.{spells_too}

pub refused_more : (tokens : List Token) (refused : List ℕ) (parts : List (ℕ × BuildFault))
    (part : ℕ × BuildFault) → AreRefused tokens refused parts
    → IsRefused tokens (refused ++ numbers_of parts) part
    → AreRefused tokens refused (parts ++ part ∷ [])
refused_more tokens refused [] part are more =
    (subst (λ r. IsRefused tokens r part) (append-nil refused) more, tt)
refused_more tokens refused (p ∷ parts) part are more = (
  are.0,
  refused_more tokens (refused ++ p.0 ∷ []) parts part are.1
      (subst (λ r. IsRefused tokens r part) (sym (append_assoc refused (p.0 ∷ []) (numbers_of parts))) more),
)

-- trees of the same tokens are of one shape
abbrev pub OneShape : Type 0
OneShape = (tokens : List Token) (definitions others : List Definition) → Spell (definitions_spelled definitions) tokens
    → Spell (definitions_spelled others) tokens → spec_shape definitions ≡ spec_shape others

-- and are lowered alike
abbrev pub OneLowering : Type 0
OneLowering = (entries : List Entry) (definitions others : List Definition) → spec_shape definitions ≡ spec_shape others
    → defined_by entries definitions ≡ defined_by entries others

-- and have the same names
abbrev pub OneNaming : Type 0
OneNaming = (definitions others : List Definition) → spec_shape definitions ≡ spec_shape others
    → names_of definitions ≡ names_of others

same_names : (definitions others : List Definition) (names given : FileNames) → names_of definitions ≡ names_of others
    → AreNames definitions names → AreNames others given → given ≡ names
same_names definitions others names given same one other =
    let e : Ok given ≡ Ok names = sym other ∙ (sym same ∙ one) in cc

-- the fault of the tokens of a specification is its own
pub own_fault : OneShape → OneNaming → OneLowering
    → (tokens : List Token) (definitions : List Definition) (names : FileNames) (fault : BuildFault)
    → Spell (definitions_spelled definitions) tokens → AreNames definitions names
    → HasFault tokens (left (length tokens) [] tokens) fault
    → defined_by names.entries definitions ≡ Err fault
own_fault one naming same tokens definitions names fault spells named has =
    let said : map parts_of tokens ≡ map parts_of has.tree.tokens =
    sym (has.tree.said_by ∙ all_left tokens) in
    let spelled : Spell (definitions_spelled has.definitions) tokens =
    spells_too tokens has.tree.tokens has.definitions said has.tree.spelled in
    let given : has.names ≡ names =
    same_names definitions has.named.definitions names has.names
    (naming definitions has.named.definitions
    (one tokens definitions has.named.definitions spells has.named.spelled)) named has.named.named in
    let told : defined_by names.entries has.definitions ≡ Err fault =
    subst (λ n. defined_by n.entries has.definitions ≡ Err fault) given has.told in
    same names.entries definitions has.definitions (one tokens definitions has.definitions spells spelled) ∙ told
