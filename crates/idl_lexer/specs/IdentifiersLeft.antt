-- What is left of a name that is read identifier by identifier.
use Rattle.std.specs.Prelude.{ℕ, List}
use Rattle.idl_lexer.specs.declared.identifiers.Identifiers.{Identifiers}
use Rattle.idl_lexer.specs.Identifiers.{words}

abbrev pub words_left : Identifiers → List (List ℕ)
words_left i = words i.rest.now
