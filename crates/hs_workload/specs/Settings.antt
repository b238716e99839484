-- The nine settings at the head of a workload's text. Each stands on a line of its own, in a fixed order. A head is the list of
-- their values in that order.
use Rattle.std.specs.Prelude.{◌≡◌, ℕ, List, [], ◌∷◌, slice_index, codes, refl}
use Rattle.hs_records.specs.declared.setting.Setting.{Setting}
use Rattle.hs_records.specs.declared.setting.Setting.TheVariants as settings
use Rattle.hs_records.specs.Settings.{setting_place}

-- in the order of their lines
abbrev pub all_settings : List Setting
all_settings =
    settings.Version ∷ settings.Nodes ∷ settings.Clients ∷ settings.Buffers ∷ settings.Size ∷ settings.Threshold ∷ settings.Traces ∷ settings.Pins
    ∷ settings.Stride ∷ []

abbrev pub setting_text : Setting → List ℕ
setting_text settings.Version = codes "hindsight"
setting_text settings.Nodes = codes "nodes"
setting_text settings.Clients = codes "clients"
setting_text settings.Buffers = codes "buffers"
setting_text settings.Size = codes "size"
setting_text settings.Threshold = codes "threshold"
setting_text settings.Traces = codes "traces"
setting_text settings.Pins = codes "pins"
setting_text settings.Stride = codes "stride"

-- a setting of a head, 0 where the head has not come to it
abbrev pub setting_in : List ℕ → Setting → ℕ
setting_in head setting = slice_index head (setting_place setting)

-- worked examples
third_line : (setting_in (2 ∷ 3 ∷ 4 ∷ []) settings.Clients ≡ 4) × (setting_in (2 ∷ 3 ∷ 4 ∷ []) settings.Size ≡ 0)
third_line = (refl, refl)
