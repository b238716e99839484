-- The numbers among a service's settings: the range of each, and its value where no line says it. Those that go with `buffers`
-- follow what is said of it. The settings of a service are all of them with the rules of trigger ids and autotriggers, and are
-- valid where each is in its range and buffers are left beside those that threshold, pins and clients may keep.
use Rattle.std.specs.Prelude.{◌≡◌, ℕ, ◌+◌, ◌*◌, ◌/◌, ◌-◌, ◌<◌, ◌==◌, nat_lt, Bool, List, [], ◌∷◌, Option, option_map, unwrap_or, refl}
use Rattle.std.specs.List.{find}
use Rattle.hs_base.specs.Ranges.{Within}
use Rattle.hs_base.specs.Rules.{AreRules, AreAutoRules}
use Rattle.hs_base.specs.declared.settings.TriggerRule.{TriggerRule}
use Rattle.hs_base.specs.declared.settings.AutoRule.{AutoRule}
use Rattle.hs_base.specs.declared.limits.TheConstants.{MOST_NODES, MOST_CLIENTS, MOST_BUFFERS, MIN_SIZE, MAX_SIZE}
use Rattle.hs_settings.specs.declared.limits.TheConstants.{MOST_PLACES, LEAST_BYTES, MOST_BYTES, DEFAULT_CLIENTS, DEFAULT_BUFFERS, DEFAULT_SIZE, DEFAULT_BACKLOG, DEFAULT_CLAIMS, DEFAULT_REMEMBER, DEFAULT_GROUPS, DEFAULT_HOLD, DEFAULT_BYTES}
use Rattle.hs_settings.specs.declared.setting.ServiceSetting.{ServiceSetting}
use Rattle.hs_settings.specs.declared.setting.ServiceSetting.TheVariants as settings
use Rattle.hs_settings.specs.declared.setting.GivenNumber.{GivenNumber}
use Rattle.hs_settings.specs.declared.settings.ServiceSettings.{ServiceSettings}

abbrev pub place_of : ServiceSetting → ℕ
place_of settings.Nodes = 0
place_of settings.Clients = 1
place_of settings.Buffers = 2
place_of settings.Size = 3
place_of settings.Threshold = 4
place_of settings.Traces = 5
place_of settings.Pins = 6
place_of settings.Backlog = 7
place_of settings.Claims = 8
place_of settings.Remember = 9
place_of settings.Groups = 10
place_of settings.Hold = 11
place_of settings.Bytes = 12

abbrev pub least_of : ServiceSetting → ℕ
least_of settings.Size = MIN_SIZE
least_of settings.Threshold = 0
least_of settings.Pins = 0
least_of settings.Bytes = LEAST_BYTES
least_of _ = 1

abbrev pub most_of : ServiceSetting → ℕ
most_of settings.Nodes = MOST_NODES
most_of settings.Clients = MOST_CLIENTS
most_of settings.Buffers = MOST_BUFFERS
most_of settings.Size = MAX_SIZE
most_of settings.Threshold = MOST_BUFFERS
most_of settings.Traces = MOST_BUFFERS
most_of settings.Pins = MOST_BUFFERS
most_of settings.Bytes = MOST_BYTES
most_of _ = MOST_PLACES

-- the value where no line says it, for so many buffers
abbrev pub default_of : ServiceSetting → ℕ → ℕ
default_of settings.Nodes buffers = MOST_NODES
default_of settings.Clients buffers = DEFAULT_CLIENTS
default_of settings.Buffers buffers = DEFAULT_BUFFERS
default_of settings.Size buffers = DEFAULT_SIZE
default_of settings.Threshold buffers = buffers / 2
default_of settings.Traces buffers = buffers
default_of settings.Pins buffers = buffers / 16
default_of settings.Backlog buffers = DEFAULT_BACKLOG
default_of settings.Claims buffers = DEFAULT_CLAIMS
default_of settings.Remember buffers = DEFAULT_REMEMBER
default_of settings.Groups buffers = DEFAULT_GROUPS
default_of settings.Hold buffers = DEFAULT_HOLD
default_of settings.Bytes buffers = DEFAULT_BYTES

-- ---- what lines give

abbrev pub is_of : ServiceSetting → GivenNumber → Bool
is_of setting given = place_of given.setting == place_of setting

-- the number that is given of a setting
abbrev pub said_of : List GivenNumber → ServiceSetting → Option ℕ
said_of givens setting = option_map (λ (given : GivenNumber). given.number) (find (is_of setting) givens)

abbrev pub buffers_of : List GivenNumber → ℕ
buffers_of givens = unwrap_or (said_of givens settings.Buffers) DEFAULT_BUFFERS

-- the value of a setting
abbrev pub value_of : List GivenNumber → ServiceSetting → ℕ
value_of givens setting = unwrap_or (said_of givens setting) (default_of setting (buffers_of givens))

-- ---- settings as plain data

pub record PlainService : Type 0 where
  pub nodes : ℕ
  pub clients : ℕ
  pub buffers : ℕ
  pub size : ℕ
  pub threshold : ℕ
  pub traces : ℕ
  pub pins : ℕ
  pub backlog : ℕ
  pub claims : ℕ
  pub remember : ℕ
  pub groups : ℕ
  pub hold : ℕ
  pub bytes : ℕ
  pub triggers : List TriggerRule
  pub autos : List AutoRule

abbrev pub service_of : ServiceSettings → PlainService
service_of s =
    record {
      nodes = s.nodes;
      clients = s.clients;
      buffers = s.buffers;
      size = s.size;
      threshold = s.threshold;
      traces = s.traces;
      pins = s.pins;
      backlog = s.backlog;
      claims = s.claims;
      remember = s.remember;
      groups = s.groups;
      hold = s.hold;
      bytes = s.bytes;
      triggers = s.triggers.items;
      autos = s.autos.items;
    }

abbrev pub number_in : PlainService → ServiceSetting → ℕ
number_in s settings.Nodes = s.nodes
number_in s settings.Clients = s.clients
number_in s settings.Buffers = s.buffers
number_in s settings.Size = s.size
number_in s settings.Threshold = s.threshold
number_in s settings.Traces = s.traces
number_in s settings.Pins = s.pins
number_in s settings.Backlog = s.backlog
number_in s settings.Claims = s.claims
number_in s settings.Remember = s.remember
number_in s settings.Groups = s.groups
number_in s settings.Hold = s.hold
number_in s settings.Bytes = s.bytes

-- Chunks of the index and of pins, and the page that each client has open, do not take all buffers.
abbrev pub has_room : PlainService → Bool
has_room s = nat_lt (s.threshold + s.pins + s.clients) s.buffers

pub record IsServiceSettings (s : PlainService) : Type 0 where
  pub each : (setting : ServiceSetting) → Within (least_of setting) (most_of setting) (number_in s setting)
  pub rules : AreRules s.triggers
  pub autos : AreAutoRules s.triggers s.autos
  pub room : s.threshold + s.pins + s.clients < s.buffers

-- worked examples
abbrev buffers_given : List GivenNumber
buffers_given = record { setting = settings.Pins; number = 7 } ∷ record { setting = settings.Buffers; number = 1000 } ∷ []

values_given : (value_of buffers_given settings.Buffers ≡ 1000) × (value_of buffers_given settings.Pins ≡ 7) × (value_of buffers_given settings.Threshold ≡ 500)
    × (value_of buffers_given settings.Traces ≡ 1000) × (value_of buffers_given settings.Clients ≡ 64)
values_given = (refl, refl, refl, refl, refl)

-- 16,384 buffers of 4,096 bytes are 64 MiB. Of them 7,104 are left for what 64 clients have under way, 111 each.
defaults : (value_of [] settings.Threshold ≡ 8192) × (value_of [] settings.Pins ≡ 1024) × (value_of [] settings.Traces ≡ 16384) × (value_of [] settings.Buffers ≡ 16384)
    × (DEFAULT_BUFFERS * (DEFAULT_SIZE + 8) ≡ 67108864) × (16384 - 8192 - 1024 - 64 ≡ 64 * 111)
defaults = (refl, refl, refl, refl, refl, refl)
