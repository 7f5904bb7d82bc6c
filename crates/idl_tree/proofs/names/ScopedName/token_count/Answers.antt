use Rattle.std.proofs.Common.{◌≡◌, ◌∙◌, Bool, true, false, cond, length, ap, refl, arith}
use Rattle.std.specs.Int.{from_bool}
use Rattle.idl_tree.proofs.YieldLengths.{name_length}
use Rattle.idl_tree.proofs.names.ScopedName.token_count.Goals as goal

as_number : (b : Bool) → from_bool b ≡ cond b 1 0
as_number true = refl
as_number false = refl

pub returns : goal.returns
returns c =
    let rooted = c.from.ensures ∙ as_number c.is_rooted.result ∙ ap (λ b. cond b 1 0) c.is_rooted.ensures in
    omega (arith, name_length c.args.self.now, rooted, ap length c.rest.ensures)
