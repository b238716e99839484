-- A made workload is valid.
use Rattle.std.proofs.Common.{◌≡◌, ℕ, zero, suc, ◌<◌, ◌≤◌, true, List, [], ◌∷◌, arith, refl, sym, subst, lit≤, lit<}
use Rattle.std.proofs.lemmas.List.Elements.{All-cons, All-nil}
use Rattle.std.proofs.lemmas.List.Kept.{AllPairs-cons}
use Rattle.std.proofs.Math.Nat.{mod-lt}
use Rattle.std.specs.List.{AllByRecursion}
use Rattle.hs_base.specs.declared.settings.TriggerRule.{TriggerRule}
use Rattle.hs_base.specs.declared.settings.AutoRule.{AutoRule}
use Rattle.hs_base.specs.declared.settings.AutoRule.TheVariants.{Exception, Percentile}
use Rattle.hs_base.specs.declared.limits.TheConstants.{MAX_REQUESTS}
use Rattle.hs_base.specs.Rules.{IsRule, AreRules, IsAutoRule, AreAutoRules, is_declared, fired_by}
use Rattle.hs_base.specs.Ranges.{Within}
use Rattle.hs_records.specs.Plain.{Operation, PlainSettings}
use Rattle.hs_records.specs.declared.setting.Setting.{Setting}
use Rattle.hs_records.specs.declared.setting.Setting.TheVariants as settings
use Rattle.hs_records.specs.Settings.{least, most, setting_of}
use Rattle.hs_records.specs.Validity.{IsClient, IsValid}
use Rattle.rand_xoshiro.specs.Xoshiro256.{plus_plus}
use Rattle.hs_base.proofs.Alls.{all_append}
use Rattle.hs_make.specs.Words.{Words, words_from, seeded_words, each_below}
use Rattle.hs_make.specs.Made.{made_settings, made_workload, client_at, clients_at}
use Rattle.hs_make.proofs.Sequences.{each_below-suc, length-each_below}
use Rattle.hs_make.proofs.Kept.{AreWords, client_is_valid}
use Rattle.hs_make.proofs.Counted.{few_operations}

drawn_below : (state : List ℕ) → AreWords (words_from state)
unfolding words_from
drawn_below state zero = mod-lt _ (lit< tt)
drawn_below state (suc n) = drawn_below (plus_plus state).1 n

seeded_below : (seed : ℕ) → AreWords (seeded_words seed)
unfolding seeded_words
seeded_below seed n = drawn_below _ n

head : (seed size : ℕ) (setting : Setting) → Within (least setting) (most setting) (setting_of (made_workload seed size) setting)
unfolding made_workload
head seed size settings.Version = (lit≤ tt, lit≤ tt)
head seed size settings.Nodes = (lit≤ tt, lit≤ tt)
head seed size settings.Clients = (lit≤ tt, lit≤ tt)
head seed size settings.Buffers = (lit≤ tt, lit≤ tt)
head seed size settings.Size = (lit≤ tt, lit≤ tt)
head seed size settings.Threshold = (lit≤ tt, lit≤ tt)
head seed size settings.Traces = (lit≤ tt, lit≤ tt)
head seed size settings.Pins = (lit≤ tt, lit≤ tt)
head seed size settings.Stride = (lit≤ tt, lit≤ tt)

rules : AreRules made_settings.triggers
rules =
    let less : TriggerRule → TriggerRule → Type 0 = λ a b. a.id.0 < b.id.0 in
    let first : TriggerRule = record { id = record { 0 = 1 }; weight = 2; burst = 4; rate = 10 } in
    let second : TriggerRule = record { id = record { 0 = 2 }; weight = 1; burst = 8; rate = 100 } in
    record {
      rising =
          AllPairs-cons less first (second ∷ []) (All-cons (less first) second [] (lit< tt) (All-nil (less first)))
          (AllPairs-cons less second [] (All-nil (less second)) (λ i j d h k. absurd (omega arith)));
      each =
          All-cons IsRule first (second ∷ []) (record { id = (lit≤ tt, lit≤ tt); weight = (lit≤ tt, lit≤ tt); burst = (lit≤ tt, lit≤ tt); rate = lit≤ tt })
          (
          All-cons IsRule second [] (record { id = (lit≤ tt, lit≤ tt); weight = (lit≤ tt, lit≤ tt); burst = (lit≤ tt, lit≤ tt); rate = lit≤ tt })
          (All-nil IsRule)
          );
    }

autos : AreAutoRules made_settings.triggers made_settings.autos
autos =
    let failure : AutoRule = Exception (record { 0 = 1 }) in
    let slow : AutoRule = Percentile (record { 0 = 2 }) 64 9800 in
    let is : AutoRule → Type 0 = λ auto. is_declared made_settings.triggers (fired_by auto) ≡ true in
    record {
      few = lit≤ tt;
      each = All-cons IsAutoRule failure (slow ∷ []) tt (All-cons IsAutoRule slow [] ((lit≤ tt, lit≤ tt), (lit≤ tt, lit< tt)) (All-nil IsAutoRule));
      declared = All-cons is failure (slow ∷ []) refl (All-cons is slow [] refl (All-nil is));
    }

all_below : {X : Type 0} (P : X → Type 0) (n : ℕ) (item : ℕ → X) → ((k : ℕ) → P (item k)) → AllByRecursion P (each_below n item)
unfolding each_below
all_below P zero item each = tt
all_below P (suc n) item each = subst (AllByRecursion P) (sym (each_below-suc n item)) (all_append P (each_below n item) (item n ∷ []) (all_below P n item each) (each n, tt))

-- settings and clients that are a made workload's
pub is_made : (seed size : ℕ) (settings : PlainSettings) (clients : List (List Operation)) → settings ≡ made_settings → clients ≡ clients_at size (seeded_words seed)
    → record { version = 1; settings = settings; clients = clients } ≡ made_workload seed size
unfolding made_workload
is_made seed size settings clients of_settings of_clients = λ i. record { version = 1; settings = of_settings i; clients = of_clients i }

pub is_valid : (seed size : ℕ) → size ≤ MAX_REQUESTS → IsValid (made_workload seed size)
unfolding made_workload
is_valid seed size few =
    let words : Words = seeded_words seed in
    record {
      head = head seed size;
      rules = rules;
      autos = autos;
      count = length-each_below 12 (client_at size words);
      each = all_below (IsClient 1 made_settings) 12 (client_at size words) (λ place. client_is_valid size words place (omega arith) (seeded_below seed));
      few = let h = few_operations size words in omega (arith, h);
    }
