use Rattle.idl_lexer.proofs.directive.name.Goals as goal

pub returns-in_err-len-clause-none : goal.returns-in_err-len-clause-none
returns-in_err-len-clause-none c =
    rw c.from_residual.ensures (λ rest name. c.in_err-len.ensures.none name.long name.name)
