-- The settings of a service make a hub.
use Rattle.std.proofs.Common.{◌≡◌, ℕ, ◌≤◌, false, arith}
use Rattle.std.specs.Prelude.{nat_lt, ◌||◌, ◌==◌}
use Rattle.hs_settings.specs.declared.setting.ServiceSetting.TheVariants as settings
use Rattle.hs_settings.specs.Settings.{PlainService, IsServiceSettings}
use Rattle.hs_hub.specs.Hub.{are_out}
use Rattle.hs_hub.specs.ByService.{limits_by}

within : (nodes groups hold bytes : ℕ) → nodes ≤ 128 → 1 ≤ groups → 1 ≤ hold → 65536 ≤ bytes → (nat_lt 128 nodes || (groups == 0 || (hold == 0 || nat_lt bytes 32776))) ≡ false
within nodes groups hold bytes a b c d = grind (arith, a, b, c, d)

pub settings_fit : (s : PlainService) → IsServiceSettings s → are_out (limits_by s) ≡ false
settings_fit s valid =
    let nodes = valid.each settings.Nodes in
    let groups = valid.each settings.Groups in
    let hold = valid.each settings.Hold in
    let bytes = valid.each settings.Bytes in
    within s.nodes s.groups s.hold s.bytes nodes.1 groups.0 hold.0 bytes.0
