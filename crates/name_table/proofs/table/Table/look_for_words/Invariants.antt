use Rattle.std.proofs.Common.{◌≡◌, ◌<◌, ◌^◌, ℕ, map}
use Rattle.idl_lexer.specs.Words.{unescaped}
use Rattle.idl_lexer.specs.Identifiers.{words}
use Rattle.idl_lexer.specs.IdentifiersLeft.{words_left}
use Rattle.name_table.specs.declared.search.Sight.TheVariants.{Seen}
use Rattle.name_table.specs.Search.{inside, begins_at_root, identifiers_see}
use Rattle.name_table.proofs.table.Table.look_for_words.Given as goal

abbrev pub invariant-loop-word : goal.invariant-loop-word
invariant-loop-word l = record {
  small : (e : ℕ) → l.seen ≡ Seen e → e < 2 ^ 63;
  same : inside l.self l.token l.seen (map unescaped (words_left l.word-iterator))
      ≡ identifiers_see l.self l.token l.fn.scope.0 (begins_at_root l.name) (words l.name);
}
