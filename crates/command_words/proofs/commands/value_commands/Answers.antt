use Rattle.std.proofs.Common.{ap, ap₂, ◌≡◌, ◌∙◌}
use Rattle.std.proofs.lemmas.Result.{IfOk-weaker}
use Rattle.clap.specs.Words.{App, app_of, with_subcommand}
use Rattle.clap.specs.Simple.{app_of_fields}
use Rattle.clap.specs.declared.builder.value_parser.ValueParser.TheVariants.{Names}
use Rattle.command_words.specs.Commands.{decode_app, encode_app}
use Rattle.command_words.proofs.Globals.{no_globals}
use Rattle.command_words.proofs.commands.value_commands.Goals as goal

pub returns : goal.returns
returns c =
    let encode_is : app_of c.about.result ≡ encode_app (Names c.args.orders) =
    ap app_of_fields c.about.ensures ∙ c.in_ok-encode.ensures in
    let decode_is : app_of c.about-2.result ≡ decode_app (Names c.args.orders) =
    ap app_of_fields c.about-2.ensures ∙ c.in_ok-decode.ensures in
    IfOk-weaker c.subcommand-2.result _ _
    (λ program h. h.shape (no_globals _ _ _ _ (ap (λ (a : App). a.top.is_plain) decode_is))
    ∙ ap₂ with_subcommand (c.in_ok-subcommand.ensures.shape
    (no_globals _ _ _ _ (ap (λ (a : App). a.top.is_plain) encode_is))
    ∙ ap₂ with_subcommand c.in_ok-first.ensures (ap (λ (a : App). a.top) encode_is))
    (ap (λ (a : App). a.top) decode_is)) c.subcommand-2.ensures
