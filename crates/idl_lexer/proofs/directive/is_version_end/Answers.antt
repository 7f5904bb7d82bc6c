use Rattle.std.proofs.Common.{◌≡◌, ℕ, List, drop}
use Rattle.idl_lexer.specs.Directives.{version_place, IsVersion, IsVersionEnd}
use Rattle.idl_lexer.proofs.directive.is_version_end.Goals as goal

number_at : (s number : List ℕ) (at : ℕ) → number ≡ drop at s → at ≡ version_place s → (v : IsVersionEnd s)
    → IsVersion number v.rest
number_at s number at cut place v = rw (cut, place) v.number

pub returns-in-None : goal.returns-in-None
returns-in-None c = (
  λ said. cc,
  λ v. absurd (c.in-None.ensures.none v.rest
      (number_at c.args.octets.now _ _ c.split_at.ensures.back c.version_at.ensures.value v)),
)
