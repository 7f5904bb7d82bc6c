use Rattle.std.proofs.Common.{arith}
use Rattle.giop.proofs.WrittenTargets.{key_counted, key_pushed, on_ok_both, refused_weaker}
use Rattle.giop.proofs.writing.target.push_key.Goals as goal

pub returns-clause-added : goal.returns-clause-added
returns-clause-added c =
    on_ok_both c.push_octets.result _ _ _
    (λ added counted. key_pushed c.args.key.now c.args.tape.now.items c.push_u16.new.tape.items
    c.push_octets.new.tape.items
    (λ i. omega (arith, c.type_inv.key i)) counted c.in_ok-push_u16.ensures added)
    c.push_octets.ensures.added c.push_octets.ensures.counted

pub returns-clause-refused : goal.returns-clause-refused
returns-clause-refused c =
    refused_weaker c.push_octets.result _ _ (λ none fits. none (key_counted c.args.key.now fits))
    c.push_octets.ensures.refused
