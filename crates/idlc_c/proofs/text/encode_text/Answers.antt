use Rattle.idlc_c.proofs.text.encode_text.Goals as goal

pub returns-in_default-clause-refused : goal.returns-in_default-clause-refused
returns-in_default-clause-refused c = λ value is. c.in_default.ensures.cases.0 is.utf8
