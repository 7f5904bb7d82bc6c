use Rattle.std.proofs.Common.{◌∙◌}
use Rattle.std.specs.Str.{str_eq_ignore_ascii_case}
use Rattle.idl_lexer.proofs.Keywords.{among, any_case_len}
use Rattle.idl_lexer.proofs.word.is_keyword_in_some_case.Goals as goal

pub returns : goal.returns
returns c = c.is_among_but_for_case.ensures
    ∙ among (λ k. str_eq_ignore_ascii_case k c.args.word.now) c.args.word.now _ (any_case_len c.args.word.now)
    c.keywords_of_len.ensures
