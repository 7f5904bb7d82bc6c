use Rattle.std.proofs.Common.{◌≡◌, ◌<◌, length, get_or, sym, ap, ◌∙◌, arith}
use Rattle.std.specs.Str.{chars}
use Rattle.std.proofs.lemmas.Str.{encodes_same, encodes-chars}
use Rattle.std.proofs.lemmas.Option.{slice_get-get_or}
use Rattle.std.proofs.lemmas.Iterator.{YieldsList-from_chars}
use Rattle.std.proofs.lemmas.Iterator.Consumers.{YieldsList-turn}
use Rattle.value_text.proofs.OneNumber.{all_at}
use Rattle.value_text.proofs.words.octets_of_text.Goals as goal

pub returns-then-code-gt255-clause-none : goal.returns-then-code-gt255-clause-none
returns-then-code-gt255-clause-none c = λ octets small e.
    let text = c.args.text.now in
    let character = c.in-Some.character in
    let i = length c.loop-character.yielded in
    let turn = YieldsList-turn (YieldsList-from_chars text c.utf8.text cc) c.loop-character.yielded _
    c.loop-character.yielded_by _ _ character c.in-Some.is c.next.ensures.steps in
    let same : octets ≡ chars text = encodes_same octets (chars text) (sym e ∙ sym (encodes-chars text c.utf8.text)) in
    let long = ap length same in
    let inside : i < length octets = omega (arith, turn.0, long) in
    let low = all_at (λ octet. octet < 256) octets i (get_or octets i character) small
    (slice_get-get_or octets i character inside) in
    let is = ap (λ l. get_or l i character) same ∙ sym turn.1 in
    omega (arith, low, is, c.if-code-gt255.true, c.from-code.ensures)
