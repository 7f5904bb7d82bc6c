use Rattle.std.proofs.Common.{◌≡◌, ◌≢◌, ℕ, List, [], Some, inl}
use Rattle.idl_lexer.specs.declared.token.Kind.{Kind}
use Rattle.idl_lexer.specs.declared.token.Kind.TheVariants.{Ident}
use Rattle.idl_lexer.specs.Words.{IsIdentifier}
use Rattle.idl_lexer.specs.Forms.{Begins}
use Rattle.idl_lexer.proofs.OneForm.{one_form}
use Rattle.idl_lexer.proofs.word.identifier_len.Goals as goal

-- what is of another kind is no identifier
other_kind : (s : List ℕ) (kind : Kind) (n m : ℕ) → kind ≢ Ident → Begins kind [] s n → IsIdentifier s m → ⊥
other_kind s kind n m other form name =
    let same : Some kind ≡ Some Ident = (one_form [] s (Some kind) (Some Ident) n m form name).0 in
    let kinds : kind ≡ Ident = cc in other kinds

pub returns-in-Ident-clause-form : goal.returns-in-Ident-clause-form
returns-in-Ident-clause-form c = rw c.in-Ident.is at (c.in-Ok.ensures.form [])

pub returns-in_default-clause-none : goal.returns-in_default-clause-none
returns-in_default-clause-none c n name =
    other_kind c.args.octets.now c.in-Ok.kind c.in-Ok.len n c.in_default.not-Ident (c.in-Ok.ensures.form []) name

pub returns-in-Err-clause-none : goal.returns-in-Err-clause-none
returns-in-Err-clause-none c n name = c.in-Err.ensures.refused n (inl name)
