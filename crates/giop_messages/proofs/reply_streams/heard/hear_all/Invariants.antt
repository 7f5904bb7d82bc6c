use Rattle.std.proofs.Common.{◌≡◌, ◌≤◌, ◌-◌, length, drop}
use Rattle.giop_messages.specs.Heard.{heard_from}
use Rattle.giop_messages.proofs.reply_streams.heard.hear_all.Given as goal

abbrev pub invariant-loop-at : goal.invariant-loop-at
invariant-loop-at l = record {
  within : l.at ≤ length l.octets.items;
  same : heard_from l.id l.fn.run l.octets.items ≡ heard_from l.id l.held (drop l.at l.octets.items);
}

abbrev pub decreases-loop-at : goal.decreases-loop-at
decreases-loop-at l = length l.octets.items - l.at
