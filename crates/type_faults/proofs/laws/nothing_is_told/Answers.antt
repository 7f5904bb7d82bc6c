use Rattle.std.proofs.Common.{◌≡◌, ◌∙◌, ℕ, List, [], ◌∷◌, Ok, Err, refl, sym}
use Rattle.idl_lexer.specs.declared.token.Token.{Token}
use Rattle.idl_tree.specs.declared.definitions.Definition.{Definition}
use Rattle.idl_tree.specs.DefinitionYields.{definitions_spelled}
use Rattle.idl_tree.specs.Pieces.{Spell}
use Rattle.scoped_names.specs.FileNames.{AreNames, FileNames}
use Rattle.lowered_types.specs.declared.fault.BuildFault.{BuildFault}
use Rattle.lowered_operations.specs.Definitions.{defined_by}
use Rattle.lowered_operations.specs.Operations.{Defined}
use Rattle.type_faults.specs.AllFaults.{AreRefused}
use Rattle.type_faults.proofs.laws.nothing_is_told.Goals as goal

abbrev FirstTold : Type 0
FirstTold = (tokens : List Token) (definitions : List Definition) (names : FileNames) (part : ℕ × BuildFault)
    (parts : List (ℕ × BuildFault))
    → Spell (definitions_spelled definitions) tokens → AreNames definitions names → AreRefused tokens [] (part ∷ parts)
    → defined_by names.entries definitions ≡ Err part.1

none_told : FirstTold → (tokens : List Token) (definitions : List Definition) (names : FileNames)
    (parts : List (ℕ × BuildFault)) (lowered : Defined)
    → Spell (definitions_spelled definitions) tokens → AreNames definitions names
    → defined_by names.entries definitions ≡ Ok lowered
    → AreRefused tokens [] parts → parts ≡ []
none_told first tokens definitions names [] lowered spelled named told are = refl
none_told first tokens definitions names (part ∷ parts) lowered spelled named told are =
    let no : Err part.1 ≡ Ok lowered = sym (first tokens definitions names part parts spelled named are) ∙ told in cc

pub returns : goal.returns
returns c = λ tokens definitions names parts lowered spelled named told are.
    none_told c.first_is_told.ensures tokens definitions names parts lowered spelled named told are
