use Rattle.std.proofs.Common.{◌≡◌, ◌∙◌, sym, subst, length, None}
use Rattle.giop.specs.Fronts.{IsRefused}
use Rattle.giop.specs.GiopBuffersFronts.{HasTexts}
use Rattle.giop.specs.Messages.{HasLength}
use Rattle.idlc_c.specs.MessageAnswers.{number_of_buffer}
use Rattle.idlc_c.proofs.MessageLaws.{needed_of}
use Rattle.idlc_c.proofs.idlc_read_message.Goals as goal

pub returns-in-Err-clause-needed : goal.returns-in-Err-clause-needed
returns-in-Err-clause-needed c few =
    let number : number_of_buffer c.in-Err.fault ≡ 45 = sym c.buffer_number.ensures.number ∙ few in
    subst (HasLength (HasTexts c.args.octets.now)) (sym c.buffer_number.ensures.length)
    (needed_of (HasTexts c.args.octets.now) (length c.args.out.now) (IsRefused None c.args.octets.now) c.in-Err.fault
    c.args.len.now number c.in-Err.ensures.refused)
