use Rattle.std.proofs.Common.{◌≡◌, ◌++◌, ◌∙◌, ℕ, List, ap, replicate}
use Rattle.giop_messages.specs.Written.{head_octets}
use Rattle.giop.proofs.Bodies.{all_joined, if_ok, parts_joined}
use Rattle.giop.proofs.writing.message.Writing.joined.Goals as goal

pub returns-then-len-ge-LARGE : goal.returns-then-len-ge-LARGE
returns-then-len-ge-LARGE c =
    let head = head_octets c.args.self.now.order c.args.self.now.kind c.args.size in
    let front = parts_joined c.in_ok-octets.octets.items c.push_head.new.octets.items c.extend_from_slice.new.self.items
    c.extend_from_slice-2.new.self.items head c.args.header.now c.args.gap c.requires.gap c.in_ok-octets.ensures.items
    c.in_ok-push_head.ensures c.in_ok-extend_from_slice.ensures.items c.in_ok-extend_from_slice-2.ensures.items in
    if_ok c.put_before.result (λ all. all.items ≡ c.extend_from_slice-2.new.self.items ++ c.args.body.items)
    (λ all. all.items ≡ head ++ (c.args.header.now ++ (replicate c.args.gap 0 ++ c.args.body.items)))
    (λ all e. all_joined c.extend_from_slice-2.new.self.items head c.args.header.now c.args.body.items all.items
    c.args.gap front e)
    c.put_before.ensures

pub returns : goal.returns
returns c =
    let head = head_octets c.args.self.now.order c.args.self.now.kind c.args.size in
    let front = parts_joined c.in_ok-octets.octets.items c.push_head.new.octets.items c.extend_from_slice.new.self.items
    c.extend_from_slice-2.new.self.items head c.args.header.now c.args.gap c.requires.gap c.in_ok-octets.ensures.items
    c.in_ok-push_head.ensures c.in_ok-extend_from_slice.ensures.items c.in_ok-extend_from_slice-2.ensures.items in
    all_joined c.extend_from_slice-2.new.self.items head c.args.header.now c.args.body.items
    c.extend_from_slice-3.new.self.items c.args.gap front
    (c.in_ok-extend_from_slice-3.ensures.items
    ∙ ap (λ (l : List ℕ). c.extend_from_slice-2.new.self.items ++ l) c.as_slice-2.ensures.value)
