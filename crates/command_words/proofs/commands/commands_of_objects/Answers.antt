use Rattle.std.proofs.Common.{ap, ap₂, ◌≡◌, ◌∙◌}
use Rattle.std.proofs.lemmas.Result.{IfOk-weaker}
use Rattle.clap.specs.Words.{App, app_of, with_subcommand}
use Rattle.clap.specs.Simple.{app_of_fields}
use Rattle.command_words.specs.Commands.{reference_app, serve_app}
use Rattle.command_words.proofs.Globals.{no_globals}
use Rattle.command_words.proofs.commands.commands_of_objects.Goals as goal

pub returns : goal.returns
returns c =
    let reference_is : app_of c.about.result ≡ reference_app =
    ap app_of_fields c.about.ensures ∙ c.in_ok-reference.ensures in
    let serve_is : app_of c.about-2.result ≡ serve_app = ap app_of_fields c.about-2.ensures ∙ c.in_ok-serve.ensures in
    IfOk-weaker c.subcommand-2.result _ _
    (λ program h. h.shape (no_globals _ _ _ _ (ap (λ (a : App). a.top.is_plain) serve_is))
    ∙ ap₂ with_subcommand (c.in_ok-refers.ensures.shape
    (no_globals _ _ _ _ (ap (λ (a : App). a.top.is_plain) reference_is))
    ∙ ap₂ with_subcommand c.in_ok-tables.ensures (ap (λ (a : App). a.top) reference_is))
    (ap (λ (a : App). a.top) serve_is)) c.subcommand-2.ensures
