use Rattle.std.proofs.Common.{◌≡◌, ◌∙◌, refl, sym, ap, length, arith}
use Rattle.giop.specs.GiopBuffersFronts.{IsTold, told_of}
use Rattle.giop.proofs.giop_buffers.front.read_message.Goals as goal

pub returns-clause-refused : goal.returns-clause-refused
returns-clause-refused c =
    let texts = c.in-Ok-texts_of.texts.items in
    let needed : c.in-Err-put.needed ≡ length texts =
    c.in-Err-put.ensures.needed ∙ ap length c.as_slice.ensures.value in
    let is : IsTold c.args.octets.now (told_of c.in-Ok.front) texts = record {
      front = c.in-Ok.front;
      found = c.in-Ok.ensures.found;
      told_is = refl;
      texts_are = c.in-Ok-texts_of.ensures;
    } in (
      omega (arith, c.in-Err-put.ensures.long, c.in-Err-put.ensures.needed),
      record { octets = texts; is = record { told = told_of c.in-Ok.front; is = is }; long = sym needed },
    )
