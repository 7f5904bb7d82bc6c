use Rattle.std.proofs.Common.{◌≡◌, ℕ, List, [], ◌∷◌, map, refl, sym, ap, ◌∙◌}
use Rattle.std.proofs.lemmas.Iterator.{YieldsList-from_chars}
use Rattle.std.proofs.lemmas.Iterator.Consumers.{YieldsList-end}
use Rattle.std.specs.Prelude.{flat_map}
use Rattle.value_text.specs.Escaped.{written}
use Rattle.value_text.proofs.escaped_json.escaping.each_written.Goals as goal

same : (cs : List ℕ) → map (λ c. c) cs ≡ cs
same [] = refl
same (c ∷ cs) = ap (λ l. c ∷ l) (same cs)

pub returns : goal.returns
returns c =
    let characters = YieldsList-from_chars c.args.text.now c.utf8.text cc in
    let seen = c.loop-character.yielded in
    let ended = YieldsList-end characters seen _ c.loop-character.yielded_by _ _ c.in-None.is c.next.ensures.steps in
    c.loop-character.invariant ∙ ap (flat_map written) (sym (same seen) ∙ ended.0)
