use Rattle.std.proofs.Common.{codes, true, ap, ap₂, ◌≡◌, ◌∙◌}
use Rattle.std.proofs.lemmas.Result.{IfOk-weaker}
use Rattle.clap.specs.Words.{App, app_of, new_app, with_subcommand}
use Rattle.clap.specs.Simple.{app_of_fields}
use Rattle.command_words.specs.Commands.{compile_app}
use Rattle.command_words.proofs.Globals.{no_globals}
use Rattle.command_words.proofs.commands.first_command.Goals as goal

abbrev versioned : App → App
versioned app = record app { top = record app.top { has_version = true } }

abbrev required : App → App
required app = record app { top = record app.top { subcommand_required = true } }

pub returns : goal.returns
returns c =
    let compile_is : app_of c.after_help.result ≡ compile_app =
    ap app_of_fields c.after_help.ensures ∙ (ap app_of_fields c.about-2.ensures ∙ c.in_ok-compile.ensures) in
    let none_is : app_of c.subcommand_required.result ≡ required (versioned (new_app (codes "idlc"))) =
    ap app_of_fields c.subcommand_required.ensures
    ∙ ap required (ap app_of_fields c.version.ensures
    ∙ ap versioned (ap app_of_fields c.about.ensures ∙ c.new.ensures.app)) in
    IfOk-weaker c.subcommand.result _ _
    (λ program h. h.shape (no_globals _ _ _ _ (ap (λ (a : App). a.top.is_plain) compile_is))
    ∙ ap₂ with_subcommand none_is (ap (λ (a : App). a.top) compile_is)) c.subcommand.ensures
