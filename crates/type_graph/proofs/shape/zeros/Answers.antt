use Rattle.std.proofs.Common.{◌≡◌, ℕ, ◌<◌, ◌^◌, length, replicate, ap, ◌∙◌, arith, rules}
use Rattle.std.proofs.Math.ListN.{length-replicate}
use Rattle.type_graph.proofs.ShapeLaws.{size_meant}
use Rattle.type_graph.proofs.shape.zeros.Goals as goal

pub returns : goal.returns
returns c = λ n fits.
    let made : c.in_ok-tape.tape.items ≡ replicate c.unwrap_or.result 0 = search rules in
    let ok = c.in_ok-tape.tape.ok in
    let cap = c.in_ok-tape.tape.small in
    let small : c.unwrap_or.result < 2 ^ 63 =
    omega (arith, ap length made, length-replicate {A = ℕ} c.unwrap_or.result 0, ok, cap) in
    made ∙ ap (λ (k : ℕ). replicate k 0) (size_meant c.args.size n c.unwrap_or.result fits c.unwrap_or.ensures small)
