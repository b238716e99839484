-- What the lines so far say, found by looking back over them. Lists of lines and of what they say stand here with the
-- newest first; what is found stands in the order of the lines.
use Rattle.std.specs.Prelude.{◌≡◌, ℕ, List, [], ◌∷◌, ◌++◌, codes, refl}
use Rattle.std.specs.List.{cons_option}
use Rattle.hs_base.specs.declared.settings.TriggerRule.{TriggerRule}
use Rattle.hs_base.specs.declared.settings.AutoRule.{AutoRule}
use Rattle.hs_settings.specs.declared.setting.ServiceSetting.TheVariants as settings
use Rattle.hs_settings.specs.declared.setting.GivenNumber.{GivenNumber}
use Rattle.hs_settings.specs.Settings.{PlainService, value_of}
use Rattle.hs_settings.specs.Statements.{Statement, Put, Declare, Watch, statement_of}

-- what lines say
abbrev pub said : List (List ℕ) → List Statement
said [] = []
said (line ∷ earlier) = cons_option (statement_of line) (said earlier)

-- the numbers given so far
abbrev pub givens_said : List Statement → List GivenNumber
givens_said [] = []
givens_said (Put given ∷ earlier) = givens_said earlier ++ given ∷ []
givens_said (_ ∷ earlier) = givens_said earlier

-- the trigger ids declared so far
abbrev pub rules_said : List Statement → List TriggerRule
rules_said [] = []
rules_said (Declare rule ∷ earlier) = rules_said earlier ++ rule ∷ []
rules_said (_ ∷ earlier) = rules_said earlier

-- the autotriggers declared so far
abbrev pub autos_said : List Statement → List AutoRule
autos_said [] = []
autos_said (Watch number rule ∷ earlier) = autos_said earlier ++ rule ∷ []
autos_said (_ ∷ earlier) = autos_said earlier

-- all that the faults of the next line ask of the lines so far
pub record Past : Type 0 where
  pub givens : List GivenNumber
  pub rules : List TriggerRule
  pub autos : List AutoRule

abbrev pub past_said : List Statement → Past
past_said earlier = record { givens = givens_said earlier; rules = rules_said earlier; autos = autos_said earlier }

-- the settings that this makes
abbrev pub settings_said : Past → PlainService
settings_said past =
    record {
      nodes = value_of past.givens settings.Nodes;
      clients = value_of past.givens settings.Clients;
      buffers = value_of past.givens settings.Buffers;
      size = value_of past.givens settings.Size;
      threshold = value_of past.givens settings.Threshold;
      traces = value_of past.givens settings.Traces;
      pins = value_of past.givens settings.Pins;
      backlog = value_of past.givens settings.Backlog;
      claims = value_of past.givens settings.Claims;
      remember = value_of past.givens settings.Remember;
      groups = value_of past.givens settings.Groups;
      hold = value_of past.givens settings.Hold;
      bytes = value_of past.givens settings.Bytes;
      triggers = past.rules;
      autos = past.autos;
    }

-- worked example
looked_back : past_said (said (codes "triggerid 4" ∷ codes "pins 9" ∷ [] ∷ codes "size 64" ∷ []))
    ≡ record {
      givens = record { setting = settings.Size; number = 64 } ∷ record { setting = settings.Pins; number = 9 } ∷ [];
      rules = record { id = record { 0 = 4 }; weight = 1; burst = 10; rate = 1 } ∷ [];
      autos = [];
    }
unfolding Rattle.hs_text.specs.Spelling.spelled
looked_back = refl
