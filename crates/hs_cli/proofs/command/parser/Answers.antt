use Rattle.std.proofs.Common.{◌≡◌, ◌∙◌, ap, codes, true}
use Rattle.std.proofs.lemmas.Result.{IfOk-weaker}
use Rattle.clap.specs.Words.{Shape, app_of, new_app}
use Rattle.clap.specs.Simple.{app_of_fields, on_top}
use Rattle.hs_cli.specs.Commands.{with_words, with_flags}
use Rattle.hs_cli.proofs.command.parser.Goals as goal

pub returns : goal.returns
returns c =
    let bare : app_of c.disable_help_flag-bare.result ≡ on_top (λ (top : Shape). record top { disable_help_flag = true }) (new_app (codes "hindsight")) =
    ap app_of_fields c.disable_help_flag-bare.ensures ∙ ap (on_top (λ (top : Shape). record top { disable_help_flag = true })) c.new.ensures.app in
    IfOk-weaker c.with_flags.result _ _ (λ p is. is ∙ ap with_flags (c.in_ok-with_words.ensures ∙ ap with_words bare)) c.with_flags.ensures
