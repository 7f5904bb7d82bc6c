use Rattle.std.proofs.Common.{ap, ap₂, ◌≡◌, ◌∙◌}
use Rattle.std.proofs.lemmas.Result.{IfOk-weaker}
use Rattle.clap.specs.Words.{App, app_of, with_subcommand}
use Rattle.clap.specs.Simple.{app_of_fields}
use Rattle.clap.specs.declared.builder.value_parser.ValueParser.TheVariants.{Names}
use Rattle.command_words.specs.Commands.{call_app, describe_app, explain_app}
use Rattle.command_words.proofs.Globals.{no_globals}
use Rattle.command_words.proofs.commands.commands_of_calls.Goals as goal

pub returns : goal.returns
returns c =
    let explain_is : app_of c.about.result ≡ explain_app = ap app_of_fields c.about.ensures ∙ c.in_ok-explain.ensures in
    let describe_is : app_of c.about-2.result ≡ describe_app = ap app_of_fields c.about-2.ensures
    ∙ c.in_ok-describe.ensures in
    let call_is : app_of c.about-3.result ≡ call_app (Names c.args.orders) =
    ap app_of_fields c.about-3.ensures ∙ c.in_ok-call.ensures in
    IfOk-weaker c.subcommand-3.result _ _
    (λ program h. h.shape (no_globals _ _ _ _ (ap (λ (a : App). a.top.is_plain) call_is))
    ∙ ap₂ with_subcommand (c.in_ok-describes.ensures.shape
    (no_globals _ _ _ _ (ap (λ (a : App). a.top.is_plain) describe_is))
    ∙ ap₂ with_subcommand (c.in_ok-explains.ensures.shape
    (no_globals _ _ _ _ (ap (λ (a : App). a.top.is_plain) explain_is))
    ∙ ap₂ with_subcommand c.in_ok-objects.ensures (ap (λ (a : App). a.top) explain_is))
    (ap (λ (a : App). a.top) describe_is))
    (ap (λ (a : App). a.top) call_is)) c.subcommand-3.ensures
