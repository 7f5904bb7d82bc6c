use Rattle.std.proofs.Common.{◌≡◌, ◌-◌, ℕ, true, Ok, Err, nat_eq, take, set, sym, ap, ◌∙◌, refl, arith}
use Rattle.std.proofs.lemmas.Grind.{common_steps}
use Rattle.giop_messages.specs.Heads.{flags_in, goes_on, head_in}
use Rattle.giop_messages.specs.Framing.{begun}
use Rattle.giop_messages.specs.ReplyStreamsHeads.{followed}
use Rattle.giop_messages.proofs.ReplyStreamsHeadFacts.{cleared, reply_on}
use Rattle.giop_messages.proofs.reply_streams.head.reply_head.Goals as goal

pub returns-in-Ok : goal.returns-in-Ok
returns-in-Ok c =
    let octets = c.args.octets.now in
    let on : goes_on (flags_in octets) ≡ true = ap (λ (n : ℕ). nat_eq n 1) c.if-octets-ne1.false in
    let front : c.as_slice.result.now ≡ set (take 12 octets) 6 (flags_in octets - 2) = grind (arith, common_steps) in
    let there : Ok c.in-Ok.head ≡ head_in (begun octets) =
    sym c.in-Ok.is ∙ c.read-2.ensures
    ∙ cleared octets c.as_slice.result.now (flags_in octets - 2) (omega (arith, c.requires)) refl front in
    c.followed.ensures ∙ ap followed there ∙ sym (reply_on octets on)

pub returns-in-Err : goal.returns-in-Err
returns-in-Err c =
    let octets = c.args.octets.now in
    let on : goes_on (flags_in octets) ≡ true = ap (λ (n : ℕ). nat_eq n 1) c.if-octets-ne1.false in
    let front : c.as_slice.result.now ≡ set (take 12 octets) 6 (flags_in octets - 2) = grind (arith, common_steps) in
    let there : Err c.in-Err.fault ≡ head_in (begun octets) =
    sym c.in-Err.is ∙ c.read-2.ensures
    ∙ cleared octets c.as_slice.result.now (flags_in octets - 2) (omega (arith, c.requires)) refl front in
    ap followed there ∙ sym (reply_on octets on)
