use Rattle.std.proofs.Common.{◌∙◌}
use Rattle.std.specs.Str.{bytes_eq}
use Rattle.idl_lexer.proofs.Keywords.{among, same_text_len}
use Rattle.idl_lexer.proofs.word.is_keyword.Goals as goal

pub returns : goal.returns
returns c = c.is_among.ensures ∙ among (λ k. bytes_eq k c.args.word.now) c.args.word.now _
    (same_text_len c.args.word.now) c.keywords_of_len.ensures
