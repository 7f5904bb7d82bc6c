use Rattle.std.proofs.Common.{ap, ap₂, ◌≡◌, ◌∙◌}
use Rattle.std.proofs.lemmas.Result.{IfOk-weaker}
use Rattle.clap.specs.Words.{App, app_of, with_subcommand}
use Rattle.clap.specs.Simple.{app_of_fields}
use Rattle.command_words.specs.Commands.{dump_app}
use Rattle.command_words.proofs.Globals.{no_globals}
use Rattle.command_words.proofs.commands.program.Goals as goal

pub returns : goal.returns
returns c =
    let dump_is : app_of c.about.result ≡ dump_app = ap app_of_fields c.about.ensures ∙ c.in_ok-dump.ensures in
    IfOk-weaker c.subcommand.result _ _
    (λ program h. h.shape (no_globals _ _ _ _ (ap (λ (a : App). a.top.is_plain) dump_is))
    ∙ ap₂ with_subcommand c.in_ok-calls.ensures (ap (λ (a : App). a.top) dump_is)) c.subcommand.ensures
