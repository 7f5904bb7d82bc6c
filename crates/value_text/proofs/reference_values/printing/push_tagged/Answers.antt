use Rattle.std.proofs.Common.{sym, arith}
use Rattle.value_text.proofs.OctetParts.{other_profile}
use Rattle.value_text.proofs.reference_values.printing.push_tagged.Goals as goal

pub returns-in_default : goal.returns-in_default
returns-in_default c =
    let below = c.in_default.len_below in
    sym (other_profile c.args.out.now.items c.args.parts.now (λ long. omega (arith, long, below)))

pub returns-in_default-2 : goal.returns-in_default-2
returns-in_default-2 c =
    let least = c.in_default.len_at_least in
    sym (other_profile c.args.out.now.items c.args.parts.now (λ long. omega (arith, long, least)))
