use Rattle.std.proofs.Common.{◌≡◌, ◌+◌, ◌++◌, ◌∷◌, [], ℕ, All, drop, drop-cons, add-one, map, append_assoc, sym, ap, ◌∙◌, subst, rules}
use Rattle.std.proofs.lemmas.List.{map-append}
use Rattle.std.proofs.lemmas.List.Elements.{All-push}
use Rattle.idl_value.specs.declared.value.Value.{Value}
use Rattle.idl_value.specs.View.{tree_of}
use Rattle.value_text.specs.Pieces.{octet_of_tree}
use Rattle.value_text.specs.inner.Reading.{IsOctet}
use Rattle.value_text.proofs.words.values_of.Goals as goal

pub loop-octet-preserved : goal.loop-octet-preserved
loop-octet-preserved c =
    let f : Value → ℕ = λ value. octet_of_tree (tree_of value) in
    let P : Value → Type 0 = λ value. IsOctet (tree_of value) in
    let octets = c.args.octets.now in
    let i = c.loop-octet.octet-index in
    let values = c.loop-octet.values.items in
    let value = c.value_of.result in
    let rest = drop (i + 1) octets in
    let pushed : c.push.new.self.items ≡ values ++ value ∷ [] = search rules in
    let next : f value ∷ rest ≡ drop i octets = search (rules, drop-cons, add-one) in (
      ap (λ l. map f l ++ rest) pushed ∙ ap (λ l. l ++ rest) (map-append f values (value ∷ []))
          ∙ append_assoc (map f values) (f value ∷ []) rest ∙ ap (λ l. map f values ++ l) next
          ∙ c.loop-octet.invariant.0,
      subst (All P) (sym pushed) (All-push P values value c.loop-octet.invariant.1 c.value_of.ensures.is_octet),
    )
