-- What a run of fragments of a reply keeps.
use Rattle.std.proofs.Common.{◌≡◌, ℕ, ◌+◌, ◌-◌, ◌≤◌, Bool, true, false, List, length, refl, ◌∙◌, if◌then◌else◌, arith}
use Rattle.std.proofs.Math.ListN.{length-set}
use Rattle.giop_messages.specs.declared.head.MessageKind.TheVariants.{Reply}
use Rattle.giop_messages.specs.Heads.{flags_in, goes_on}
use Rattle.giop_messages.specs.Framing.{begun}
use Rattle.giop_messages.specs.Runs.{IsAlone}
use Rattle.giop_messages.specs.ReplyStreamsHeads.{alone}
use Rattle.giop_messages.specs.inner.Runs.{IsFirst}
use Rattle.giop_messages.proofs.ReplyStreamsHeadFacts.{limited, lone, told}

alone_long : (b : Bool) (message : List ℕ) → length (if b then begun message else message) ≡ length message
alone_long true message = length-set message 6 (flags_in message - 2)
alone_long false message = refl

-- the first piece, or a whole reply
pub first_run : (message : List ℕ) → IsFirst message → IsAlone Reply (alone message)
first_run message first =
    let head = first.head in
    let whole : length message ≡ 12 + head.size = first.is.1 in
    let le : 12 ≤ length message = omega (arith, whole) in
    let t = told message head le first.is.0 in
    let limit = limited message head le first.is.0 in
    let long : length (alone message) ≡ length message = alone_long (goes_on (flags_in message)) message in
    record {
      numbered = omega (arith, long, whole, first.numbered);
      sized = omega (arith, long, whole, limit);
      head = lone head;
      is = record { head_is = t.head_is; whole = long ∙ whole };
      kind_is = first.reply;
      alone = refl;
    }
