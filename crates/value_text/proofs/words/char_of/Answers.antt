use Rattle.std.proofs.Common.{◌≡◌, ℕ, List, [], ◌∷◌, sym, ap, ◌∙◌, subst, rules}
use Rattle.std.specs.Prelude.{IfNone}
use Rattle.std.proofs.lemmas.Str.{encodes_same}
use Rattle.value_text.specs.Pieces.{characters, octet_of}
use Rattle.value_text.specs.inner.Refusing.{AreOctets}
use Rattle.value_text.proofs.OneNumber.{text_in, octet_low}
use Rattle.value_text.proofs.words.char_of.Goals as goal

pub returns-in-Some-clause-complete : goal.returns-in-Some-clause-complete
returns-in-Some-clause-complete c = λ n is_number e.
    let some : c.args.text.now ≡ characters c.in-Some.octets.items = search rules in
    c.single.ensures.complete n is_number
    (c.as_slice.ensures.value ∙ encodes_same c.in-Some.octets.items (octet_of n ∷ []) (sym some ∙ ap text_in e))

pub returns-in-None-clause-complete : goal.returns-in-None-clause-complete
returns-in-None-clause-complete c = λ n is_number e.
    let none = subst (λ o. IfNone o ((octets : List ℕ) → AreOctets octets → c.args.text.now ≡ characters octets → ⊥))
    c.in-None.is c.in_ok-octets.ensures.none in
    absurd (none (octet_of n ∷ []) (octet_low n is_number, tt) (ap text_in e))
