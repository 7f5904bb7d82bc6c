use Rattle.std.proofs.Common.{◌≡◌, sym, ap, ◌∙◌, subst, rules}
use Rattle.std.proofs.lemmas.Str.{encodes_same}
use Rattle.json.specs.Reads.{token_of}
use Rattle.type_graph.specs.Value.{Tree, IsText}
use Rattle.value_text.specs.inner.Reading.{IsString}
use Rattle.value_text.specs.Pieces.{characters}
use Rattle.value_text.proofs.OneNumber.{text_in}
use Rattle.value_text.proofs.Refusals.{refuses}
use Rattle.value_text.proofs.words.read_text.Goals as goal

pub returns-then-not-is_text-clause-refused : goal.returns-then-not-is_text-clause-refused
returns-then-not-is_text-clause-refused c =
    refuses {F = (value : Tree) → IsString c.args.bound value (token_of c.args.token) → ⊥} _ (λ value h.
    let some : c.in-String.text.now ≡ characters c.in-Some.octets.items = search rules in
    let same = encodes_same c.in-Some.octets.items h.text
    (sym some ∙ ap text_in (sym (ap token_of c.in-String.is) ∙ h.says)) in
    let is : IsText c.args.bound c.as_slice.result.now =
    subst (IsText c.args.bound) (sym (c.as_slice.ensures.value ∙ same)) h.is_text in
    absurd (search rules))
