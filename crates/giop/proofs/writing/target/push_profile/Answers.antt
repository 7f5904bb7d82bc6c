use Rattle.std.proofs.Common.{arith}
use Rattle.giop.proofs.WrittenTargets.{on_ok_both, profile_pushed, profile_tagged, refused_weaker}
use Rattle.giop.proofs.writing.target.push_profile.Goals as goal

pub returns-clause-added : goal.returns-clause-added
returns-clause-added c =
    on_ok_both c.push_tagged.result _ _ _
    (λ added tagged. profile_pushed (c.args.tag, c.args.octets.now) c.args.tape.now.items c.push_u16.new.tape.items
    c.push_tagged.new.tape.items (λ i. omega (arith, c.type_inv.octets i)) tagged c.in_ok-push_u16.ensures added)
    c.push_tagged.ensures.added c.push_tagged.ensures.fits

pub returns-clause-refused : goal.returns-clause-refused
returns-clause-refused c =
    refused_weaker c.push_tagged.result _ _ (λ none fits. none (profile_tagged (c.args.tag, c.args.octets.now) fits))
    c.push_tagged.ensures.refused
