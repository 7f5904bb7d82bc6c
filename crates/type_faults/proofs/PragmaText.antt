-- The text that stands in the place of tokens that are left out is a pragma's.
use Rattle.std.proofs.Common.{inl, refl, codes, arith, []}
use Rattle.idl_lexer.specs.declared.token.Kind.TheVariants.{Pragma}
use Rattle.idl_lexer.specs.Directives.{IsFresh, IsKept, prefix}
use Rattle.idl_lexer.specs.Forms.{HasForm}

fresh : IsFresh []
fresh = record { start = 0; within = omega arith; begins = inl refl; blank = refl }

kept : IsKept (codes "#pragma prefix \"\"")
kept =
    prefix (record { hash = refl; word = refl }) refl (record { opens = refl; closes = refl; blank = refl })

pub pragma_form : HasForm Pragma (codes "#pragma prefix \"\"")
pragma_form = ∣ record { fresh = fresh; ascii = refl; form = kept; whole = refl } ∣₁
