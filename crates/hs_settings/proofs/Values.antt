-- The value of each setting is in its range, where the numbers that were given are.
use Rattle.std.proofs.Common.{◌≡◌, ℕ, zero, suc, ◌≤◌, List, Option, Some, None, refl, sym, ap, subst, ◌∙◌, find, arith}
use Rattle.std.specs.Prelude.{option_map, unwrap_or}
use borrow.Author.Tests.{eqb-true}
use Rattle.hs_base.proofs.Filters.{find_passes}
use Rattle.hs_base.proofs.Alls.{all_find}
use Rattle.hs_base.specs.Ranges.{Within}
use Rattle.hs_base.specs.declared.limits.TheConstants.{MOST_BUFFERS}
use Rattle.hs_settings.specs.declared.setting.ServiceSetting.{ServiceSetting}
use Rattle.hs_settings.specs.declared.setting.ServiceSetting.TheVariants as settings
use Rattle.hs_settings.specs.declared.setting.GivenNumber.{GivenNumber}
use Rattle.hs_settings.specs.declared.limits.TheConstants.{DEFAULT_BUFFERS}
use Rattle.hs_settings.specs.Settings.{place_of, least_of, most_of, default_of, is_of, said_of, buffers_of, value_of, number_in}
use Rattle.hs_settings.specs.LookBack.{Past, settings_said}
use Rattle.hs_settings.specs.Forward.{AreWithin}

setting_at : ℕ → ServiceSetting
setting_at zero = settings.Nodes
setting_at (suc zero) = settings.Clients
setting_at (suc (suc zero)) = settings.Buffers
setting_at (suc (suc (suc zero))) = settings.Size
setting_at (suc (suc (suc (suc zero)))) = settings.Threshold
setting_at (suc (suc (suc (suc (suc zero))))) = settings.Traces
setting_at (suc (suc (suc (suc (suc (suc zero)))))) = settings.Pins
setting_at (suc (suc (suc (suc (suc (suc (suc zero))))))) = settings.Backlog
setting_at (suc (suc (suc (suc (suc (suc (suc (suc zero)))))))) = settings.Claims
setting_at (suc (suc (suc (suc (suc (suc (suc (suc (suc zero))))))))) = settings.Remember
setting_at (suc (suc (suc (suc (suc (suc (suc (suc (suc (suc zero)))))))))) = settings.Groups
setting_at (suc (suc (suc (suc (suc (suc (suc (suc (suc (suc (suc zero))))))))))) = settings.Hold
setting_at (suc (suc (suc (suc (suc (suc (suc (suc (suc (suc (suc (suc n)))))))))))) = settings.Bytes

setting_again : (s : ServiceSetting) → setting_at (place_of s) ≡ s
unfolding setting_at
setting_again settings.Nodes = refl
setting_again settings.Clients = refl
setting_again settings.Buffers = refl
setting_again settings.Size = refl
setting_again settings.Threshold = refl
setting_again settings.Traces = refl
setting_again settings.Pins = refl
setting_again settings.Backlog = refl
setting_again settings.Claims = refl
setting_again settings.Remember = refl
setting_again settings.Groups = refl
setting_again settings.Hold = refl
setting_again settings.Bytes = refl

same_setting : (a b : ServiceSetting) → place_of a ≡ place_of b → a ≡ b
same_setting a b e = sym (setting_again a) ∙ ap setting_at e ∙ setting_again b

abbrev InRange : ServiceSetting → ℕ → Type 0
InRange s n = Within (least_of s) (most_of s) n

default_within : (s : ServiceSetting) (buffers : ℕ) → 1 ≤ buffers → buffers ≤ MOST_BUFFERS → InRange s (default_of s buffers)
default_within settings.Nodes b low high = (omega arith, omega arith)
default_within settings.Clients b low high = (omega arith, omega arith)
default_within settings.Buffers b low high = (omega arith, omega arith)
default_within settings.Size b low high = (omega arith, omega arith)
default_within settings.Threshold b low high = (omega arith, omega (arith, high))
default_within settings.Traces b low high = (low, high)
default_within settings.Pins b low high = (omega arith, omega (arith, high))
default_within settings.Backlog b low high = (omega arith, omega arith)
default_within settings.Claims b low high = (omega arith, omega arith)
default_within settings.Remember b low high = (omega arith, omega arith)
default_within settings.Groups b low high = (omega arith, omega arith)
default_within settings.Hold b low high = (omega arith, omega arith)
default_within settings.Bytes b low high = (omega arith, omega arith)

found_within : (givens : List GivenNumber) (s : ServiceSetting) (d : ℕ) (o : Option GivenNumber) → AreWithin givens → InRange s d → find (is_of s) givens ≡ o → InRange s (unwrap_or (option_map (λ (given : GivenNumber). given.number) o) d)
found_within givens s d None all here e = here
found_within givens s d (Some given) all here e =
    let same : given.setting ≡ s = same_setting given.setting s (eqb-true (place_of given.setting) (place_of s) (find_passes (is_of s) givens given e)) in
    let in_range = all_find (λ (g : GivenNumber). InRange g.setting g.number) (is_of s) givens given all e in
    subst (λ (t : ServiceSetting). InRange t given.number) same in_range

said_within : (givens : List GivenNumber) (s : ServiceSetting) (d : ℕ) → AreWithin givens → InRange s d → InRange s (unwrap_or (said_of givens s) d)
said_within givens s d all here = found_within givens s d (find (is_of s) givens) all here refl

pub value_within : (givens : List GivenNumber) (s : ServiceSetting) → AreWithin givens → Within (least_of s) (most_of s) (value_of givens s)
value_within givens s all =
    let buffers = said_within givens settings.Buffers DEFAULT_BUFFERS all (omega arith, omega arith) in
    said_within givens s (default_of s (buffers_of givens)) all (default_within s (buffers_of givens) buffers.0 buffers.1)

pub number_within : (p : Past) (s : ServiceSetting) → AreWithin p.givens → Within (least_of s) (most_of s) (number_in (settings_said p) s)
number_within p settings.Nodes all = value_within p.givens settings.Nodes all
number_within p settings.Clients all = value_within p.givens settings.Clients all
number_within p settings.Buffers all = value_within p.givens settings.Buffers all
number_within p settings.Size all = value_within p.givens settings.Size all
number_within p settings.Threshold all = value_within p.givens settings.Threshold all
number_within p settings.Traces all = value_within p.givens settings.Traces all
number_within p settings.Pins all = value_within p.givens settings.Pins all
number_within p settings.Backlog all = value_within p.givens settings.Backlog all
number_within p settings.Claims all = value_within p.givens settings.Claims all
number_within p settings.Remember all = value_within p.givens settings.Remember all
number_within p settings.Groups all = value_within p.givens settings.Groups all
number_within p settings.Hold all = value_within p.givens settings.Hold all
number_within p settings.Bytes all = value_within p.givens settings.Bytes all
