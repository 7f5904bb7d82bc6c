-- What a refusal of the parser says: no specification spells the tokens.
use Rattle.std.proofs.Common.{◌≡◌, ◌≤◌, ◌⊎◌, inl, inr, List, subst}
use Rattle.definition_reader.specs.declared.stop.Stop.{Stop}
use Rattle.definition_reader.specs.declared.stop.Stop.TheVariants.{NoMemory as StopNoMemory}
use Rattle.definition_reader.specs.Specification.{IsNoSpec}
use Rattle.idl_lexer.specs.declared.token.Token.{Token}
use Rattle.idl_parser.specs.declared.fault.ParseFault.{ParseFault}
use Rattle.idl_parser.specs.declared.fault.ParseFault.TheVariants.{NoMemory as FaultNoMemory}
use Rattle.idl_tree.specs.declared.definitions.Definition.{Definition}
use Rattle.idl_tree.specs.Pieces.{Seen, Spell, seen_from}
use Rattle.idl_tree.specs.DefinitionYields.{definitions_spelled}
use Rattle.idl_tree.specs.DefinitionLevels.{levels_of}
use Rattle.idl_tree.proofs.DefinitionWays.{spec_found}

pub refuses : (tokens : List Token) (left : List Seen) (stop : Stop) (fault : ParseFault) → left ≡ seen_from 0 tokens
    → (stop ≡ StopNoMemory → fault ≡ FaultNoMemory) → (stop ≡ StopNoMemory) ⊎ IsNoSpec 64 left
    → (fault ≡ FaultNoMemory)
    ⊎ ((definitions : List Definition) → Spell (definitions_spelled definitions) tokens → levels_of definitions ≤ 64
    → ⊥)
refuses tokens left stop fault same told (inl h) = inl (told h)
refuses tokens left stop fault same told (inr none) =
    inr (λ definitions spelled few. subst (IsNoSpec 64) same none (spec_found 64 tokens definitions spelled few))
