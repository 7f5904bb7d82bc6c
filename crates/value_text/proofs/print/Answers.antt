use Rattle.std.proofs.Common.{◌≡◌, ◌∙◌, ap, sym, subst, rules}
use Rattle.std.specs.Str.{IsUtf8}
use Rattle.std.specs.String.{string_bytes}
use Rattle.json.specs.Lex.{tokens}
use Rattle.json.specs.Print as json_text
use Rattle.value_text.specs.Escaped.{escaped}
use Rattle.value_text.proofs.Said.{says_the_same}
use Rattle.type_model.specs.PartNamesNames.{names_at}
use Rattle.type_graph.specs.Value.{node_at, Fits}
use Rattle.idl_value.specs.View.{tree_of}
use Rattle.value_text.specs.Texts.{text_at}
use Rattle.value_text.specs.Says.{Says}
use Rattle.value_text.proofs.PrintedTexts.{says}
use Rattle.value_text.proofs.print.Goals as goal

pub returns-in-Ok-clause-says : goal.returns-in-Ok-clause-says
returns-in-Ok-clause-says c =
    let names = c.args.names.now in
    let graph = c.args.graph.now in
    let number = c.args.node in
    let value = tree_of c.args.value.now in
    let own = text_at names graph number value in
    let fit : Fits graph (node_at graph number) value 64 = search rules in
    let plain : string_bytes c.in-Ok.text ≡ json_text.print own = search rules in
    let shown : string_bytes c.in_ok-escape-in-Ok.field-0 ≡ escaped (string_bytes c.in-Ok.text) = search rules in
    let written : c.write_value.new.out.tokens ≡ own = search rules in
    let back = ap (λ l. tokens (json_text.print l)) (sym written) ∙ c.into_inner.ensures.reads_back ∙ written in
    let utf8 = subst (λ l. IsUtf8 (json_text.print l)) written c.into_inner.ensures.utf8 in
    let same = ap tokens (shown ∙ ap escaped plain) ∙ says_the_same own utf8 back in
    record {
      fits = fit;
      says = subst (Says names graph (names_at names number) (node_at graph number) value) (sym same)
          (says names graph (names_at names number) (node_at graph number) value 64 fit);
    }
