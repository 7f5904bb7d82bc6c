use Rattle.std.proofs.Common.{◌≡◌, ◌++◌, ◌∷◌, [], ◌∙◌, pos, length, replicate, ap, append_assoc, arith, rules}
use Rattle.std.proofs.lemmas.Result.{on_ok_weaker}
use Rattle.type_graph.specs.declared.width.Width.TheVariants.{Four}
use Rattle.type_graph.specs.declared.width.Order.TheVariants.{Big}
use Rattle.type_graph.specs.Words.{pad, word}
use Rattle.value_text.proofs.OctetParts.{zero_more}
use Rattle.value_text.proofs.reference_values.printing.push_long.Goals as goal

pub loop-preserved : goal.loop-preserved
loop-preserved c =
    let now = c.loop.out.items in
    let pushed : c.push.new.self.items ≡ now ++ 0 ∷ [] = search rules in
    zero_more c.args.out.now.items now c.push.new.self.items c.loop.counter c.loop.invariant pushed

pub returns : goal.returns
returns c =
    let front = c.args.out.now.items in
    let end = word Big Four (pos c.args.n) in
    let counted : c.loop.counter ≡ pad (length front) 4 = omega (arith, c.loop-test.false, c.loop.auto.counter-end) in
    on_ok_weaker c.push_u32.result (λ added.
    added ∙ ap (λ l. l ++ end) (c.loop.invariant ∙ ap (λ n. front ++ replicate n 0) counted)
    ∙ append_assoc front (replicate (pad (length front) 4) 0) end)
    c.push_u32.ensures
