use Rattle.std.proofs.Common.{◌≡◌, ◌++◌, ℕ, List, Ok, refl, ap, ◌∙◌}
use Rattle.std.proofs.lemmas.Iterator.Adapters.{YieldsList-from_vec, items_from_extend}
use Rattle.giop.proofs.writing.message.put_before.Goals as goal

-- what is put in front is all that the other list gives
pub returns : goal.returns
returns c =
    let spliced = c.in_ok-splice.ensures.items in
    let given = spliced.2 in
    items_from_extend {E = Unit {0}} {P = λ (front : List ℕ). c.splice.new.self.items ≡ front ++ c.args.octets.items}
    (Ok tt) (
      spliced.0,
      spliced.1,
      refl,
      spliced.4 ∙ ap (λ octets. spliced.1 ++ octets) c.in_ok-reserve_exact.ensures.items,
      spliced.3,
    )
    (YieldsList-from_vec c.args.front.items given.0 (given.1 ∙ c.args.front.ok.0))
