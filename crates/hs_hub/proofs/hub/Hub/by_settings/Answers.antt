use Rattle.std.proofs.Common.{sym, ap, ◌∙◌, true≢false}
use Rattle.hs_hub.specs.Hub.{are_out}
use Rattle.hs_hub.proofs.ByService.{settings_fit}
use Rattle.hs_hub.proofs.hub.Hub.by_settings.Goals as goal

pub returns-clause-valid : goal.returns-clause-valid
returns-clause-valid c valid fault = true≢false (sym (c.make.ensures.limits.0 fault) ∙ ap are_out c.hub_limits.ensures ∙ settings_fit _ valid)
