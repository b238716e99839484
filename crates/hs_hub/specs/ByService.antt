-- The limits of a hub by the settings of a service: its own nodes, groups, traces and bytes, and for each trace that it may hold so many
-- standings and messages.
use Rattle.std.specs.Prelude.{ℕ, ◌*◌, ◌-◌, ◌^◌, min}
use Rattle.hs_settings.specs.Settings.{PlainService}
use Rattle.hs_hub.specs.declared.answers.HubLimits.{HubLimits}
use Rattle.hs_hub.specs.declared.limits.TheConstants.{STANDINGS_OF_A_TRACE, MESSAGES_OF_A_TRACE, DEFAULT_WAIT, DEFAULT_TRIES, DEFAULT_AGE}

-- so many for each trace that may be held
abbrev pub for_each : PlainService → ℕ → ℕ
for_each s count = min (s.hold * count) (2 ^ 32 - 1)

abbrev pub limits_by : PlainService → HubLimits
limits_by s = record {
  nodes = s.nodes;
  groups = s.groups;
  hold = s.hold;
  bytes = s.bytes;
  standings = for_each s STANDINGS_OF_A_TRACE;
  messages = for_each s MESSAGES_OF_A_TRACE;
  wait = DEFAULT_WAIT;
  tries = DEFAULT_TRIES;
  age = DEFAULT_AGE;
}
