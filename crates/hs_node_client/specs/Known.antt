-- What a client knows of the settings: which trigger ids are declared, and which of them its autotriggers fire.
use Rattle.std.specs.Prelude.{◌≡◌, ℕ, ◌<◌, Bool, List, map, slice_get, Some}
use Rattle.hs_auto.specs.Watching.{Watch}
use Rattle.hs_base.specs.Rules.{is_declared}
use Rattle.hs_base.specs.declared.settings.AutoRule.{AutoRule}
use Rattle.hs_base.specs.declared.settings.TriggerRule.{TriggerRule}
use Rattle.hs_live.specs.Live.{PlainClient}

-- The table says of each id of eight bits whether it is declared.
abbrev pub AreDeclared : List TriggerRule → List Bool → Type 0
AreDeclared rules table = (id : ℕ) → id < 256 → slice_get table id ≡ Some (is_declared rules (record { 0 = id }))

-- the rules of the autotriggers
abbrev pub rules_in : PlainClient → List AutoRule
rules_in client = map (λ (watch : Watch). watch.rule) client.autos
