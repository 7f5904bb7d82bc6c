-- What the reader of a pragma gives is what its text says.
use Rattle.std.proofs.Common.{◌≡◌, ◌∙◌, ℕ, List, drop, sym, ap}
use Rattle.idl_lexer.specs.declared.pragmas.Pragma.{Pragma}
use Rattle.idl_lexer.specs.declared.pragmas.Pragma.TheVariants.{Prefix, Id, Version}
use Rattle.idl_lexer.specs.Directives.{from_quote, pragma_rest, quoted_text, version_number, version_place}
use Rattle.idl_lexer.specs.Says.{Says}
use Rattle.scoped_names.specs.RepositoryIds.{WholeId, VersionOf}
use Rattle.scoped_names.specs.IdPragmas.{Said, SetsPrefix, Gives, said, said_by_word}

abbrev pub said_by : Pragma → Said
said_by (Prefix text) = SetsPrefix text.now
said_by (Id name text) = Gives name.now (WholeId text.now)
said_by (Version name number) = Gives name.now (VersionOf number.now)

pub Says-said : (line : List ℕ) (p : Pragma) → Says line p → said line ≡ said_by p
Says-said line (Prefix text) h = ap (λ w. said_by_word w (pragma_rest line)) h.word ∙ ap SetsPrefix (sym h.texts)
Says-said line (Id name text) h =
    ap (λ w. said_by_word w (pragma_rest line)) h.word
    ∙ ap (λ n. Gives n (WholeId (quoted_text (from_quote (pragma_rest line))))) (sym h.names)
    ∙ ap (λ t. Gives name.now (WholeId t)) (sym h.texts)
Says-said line (Version name number) h =
    ap (λ w. said_by_word w (pragma_rest line)) h.word
    ∙ ap (λ n. Gives n (VersionOf (version_number (drop (version_place (pragma_rest line)) (pragma_rest line)))))
    (sym h.names) ∙ ap (λ v. Gives name.now (VersionOf v)) (sym h.numbers)
