use Rattle.std.proofs.Common.{◌≡◌, ◌≤◌, ◌+◌, ◌-◌, length, sym, ap, ◌∙◌, subst, arith}
use Rattle.std.proofs.lemmas.Bool.{ltb-false}
use Rattle.giop_messages.specs.Heads.{max_size}
use Rattle.giop_messages.specs.Framing.{added}
use Rattle.giop_messages.proofs.RunFacts.{added_long}
use Rattle.giop_dumps.specs.OpenRuns.{IsReadable, open_at}
use Rattle.giop_dumps.proofs.open.OpenMessage.with.Goals as goal

pub invariant_of-result : goal.invariant_of-result
invariant_of-result c =
    let run = c.self.inside.octets.items in
    let brought = length c.args.fragment.now - 16 in
    let mine : length run ≡ length c.args.self.octets = ap (λ o. length o.octets) c.self.view_is in
    let limit : length c.args.self.octets + brought ≤ 12 + max_size =
    ltb-false (12 + max_size) (length c.args.self.octets + brought) c.requires.limited in
    let long = added_long run c.args.fragment.now (omega (arith, c.self.invariant.numbered)) in
    subst IsReadable (sym c.in_ok-add_piece.ensures.added)
    (record { numbered = omega (arith, c.self.invariant.numbered, long); limited = omega (arith, long, mine, limit) })

pub returns : goal.returns
returns c =
    let mine : c.self.inside.octets.items ≡ c.args.self.octets = ap (λ o. o.octets) c.self.view_is in
    ap (open_at c.args.place)
    (c.in_ok-add_piece.ensures.added ∙ ap (λ xs. added xs c.args.fragment.now) mine)
