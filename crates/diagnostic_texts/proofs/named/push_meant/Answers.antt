use Rattle.std.proofs.Common.{◌≡◌, ◌++◌, add-one, string_bytes}
use Rattle.diagnostic_texts.specs.Named.{AreTexts}
use Rattle.diagnostic_texts.proofs.named.push_meant.Goals as goal

pub returns-in_ok-push_str : goal.returns-in_ok-push_str
returns-in_ok-push_str c below =
    let texts = string_bytes c.args.texts.now in
    let own = c.in-Some.text.now in
    let is : string_bytes c.push_str.new.self ≡ texts ++ own = c.in_ok-push_str.ensures.bytes in
    rw (add-one, is) (AreTexts.one c.args.number texts own below c.in-Some.ensures)

pub returns-in_default : goal.returns-in_default
returns-in_default c below = rw add-one (AreTexts.other c.args.number _ below c.in_default.ensures)
