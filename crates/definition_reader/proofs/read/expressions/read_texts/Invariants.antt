use Rattle.std.proofs.Common.{length}
use Rattle.std.specs.List.{flat_map}
use Rattle.definition_reader.specs.inner.Reading.{Continued}
use Rattle.idl_tree.specs.Yields.{text_yield}
use Rattle.idl_lexer.specs.declared.token.Kind.TheVariants.{TextLit}
use Rattle.idl_tree.specs.Descent.{sees_kind, taken_kind}
use Rattle.definition_reader.specs.inner.Following.{Going}
use Rattle.definition_reader.proofs.read.expressions.read_texts.Given as goal

abbrev pub invariant-parts : goal.invariant-parts
invariant-parts l = record {
  spells : Continued l.initial.cursor (flat_map text_yield l.rest.items) l.cursor;
  way : Going (sees_kind TextLit) (λ u. taken_kind TextLit u) l.initial.cursor l.cursor;
}

abbrev pub decreases-parts : goal.decreases-parts
decreases-parts l = length l.cursor
