use Rattle.std.proofs.Common.{sym, ◌∙◌, arith, Ok, ◌≡◌, option_map}
use Rattle.giop_messages.specs.Heads.{head_in}
use Rattle.giop_messages.proofs.HeadFacts.{head_ok, message_at}
use Rattle.giop_messages.proofs.FrontFacts.{whole_front}
use Rattle.giop_messages.proofs.frame.frame_in.Goals as goal

-- src/frame.rt:82:8
pub breaks-requires : goal.breaks-requires
breaks-requires c =
    let e : head_in c.args.octets.now ≡ Ok c.in-Ok.head = sym c.read.ensures ∙ c.in-Ok.is in
    (head_ok c.args.octets.now c.in-Ok.head e).1

-- src/frame.rt:89:8
pub is_other-requires-clause-message : goal.is_other-requires-clause-message
is_other-requires-clause-message c =
    let e : head_in c.args.octets.now ≡ Ok c.in-Ok.head = sym c.read.ensures ∙ c.in-Ok.is in
    message_at c.in-Ok.head c.args.octets.now e (omega (arith, c.if-octets-len.false))

-- src/frame.rt:72:1
pub returns : goal.returns
returns c =
    let e : head_in c.args.octets.now ≡ Ok c.in-Ok.head = sym c.read.ensures ∙ c.in-Ok.is in
    let kept = sym c.breaks.ensures ∙ c.if-breaks.false in
    let same = sym c.is_other.ensures ∙ c.if-is_other.false in
    whole_front (option_map (λ r. r.now) c.args.run) c.args.octets.now c.in-Ok.head
    (omega (arith, c.if-octets-lt-HEAD_LEN.false)) e kept (omega (arith, c.if-octets-len.false)) same
