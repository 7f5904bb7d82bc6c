use Rattle.std.proofs.Common.{codes, ap, ap₂, ◌≡◌, ◌∙◌}
use Rattle.std.proofs.lemmas.Result.{IfOk-weaker}
use Rattle.clap.specs.Words.{App, app_of, with_subcommand}
use Rattle.clap.specs.Simple.{app_of_fields}
use Rattle.command_words.specs.Commands.{show_app, table_app, upgrade_app}
use Rattle.command_words.proofs.Globals.{no_globals}
use Rattle.command_words.proofs.commands.commands_of_tables.Goals as goal

pub returns : goal.returns
returns c =
    let check_is : app_of c.about.result ≡ table_app (codes "check") =
    ap app_of_fields c.about.ensures ∙ c.in_ok-check.ensures in
    let show_is : app_of c.about-2.result ≡ show_app = ap app_of_fields c.about-2.ensures ∙ c.in_ok-show.ensures in
    let upgrade_is : app_of c.about-3.result ≡ upgrade_app = ap app_of_fields c.about-3.ensures
    ∙ c.in_ok-upgrade.ensures in
    IfOk-weaker c.subcommand-3.result _ _
    (λ program h. h.shape (no_globals _ _ _ _ (ap (λ (a : App). a.top.is_plain) upgrade_is))
    ∙ ap₂ with_subcommand (c.in_ok-lists.ensures.shape (no_globals _ _ _ _ (ap (λ (a : App). a.top.is_plain) show_is))
    ∙ ap₂ with_subcommand (c.in_ok-checks.ensures.shape (no_globals _ _ _ _ (ap (λ (a : App). a.top.is_plain) check_is))
    ∙ ap₂ with_subcommand c.in_ok-marshals.ensures (ap (λ (a : App). a.top) check_is))
    (ap (λ (a : App). a.top) show_is))
    (ap (λ (a : App). a.top) upgrade_is)) c.subcommand-3.ensures
