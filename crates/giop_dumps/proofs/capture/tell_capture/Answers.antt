use Rattle.std.proofs.Common.{subst, List, ℕ, string_bytes}
use Rattle.std.specs.Io.KnownBytes.{Appends}
use Rattle.giop_dumps.proofs.OutputLaws.{so_far_more}
use Rattle.giop_dumps.proofs.capture.tell_capture.Goals as goal

pub loop-preserved-in-Ok : goal.loop-preserved-in-Ok
loop-preserved-in-Ok g c =
    let contents = g.O.Write.contents in
    so_far_more contents c.loop.told c.args.out.now c.loop.out c.put.new.out (string_bytes c.in-Ok-Some.text)
    c.loop.invariant
    (rw c.in-Ok-Some.field-0-is at c.in-Ok-Some.ensures)
    (subst (λ (l : List ℕ). Appends (contents c.loop.out) (contents c.put.new.out) l) c.as_str.ensures.value
    c.in-Ok.ensures.put)
