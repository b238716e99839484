-- The lines of a valid workload are taken one after another, up to that workload.
use Rattle.std.proofs.Common.{◌≡◌, ℕ, ◌+◌, ◌^◌, ◌<◌, ◌≤◌, true, false, not, nat_eq, nat_lt, nat_le, ◌||◌, ◌&&◌, List, [], ◌∷◌, ◌++◌, length, map, get_or, Ok, refl, sym, ap, subst, ◌∙◌, append_assoc, append-nil, length-append, arith, eq-eqb}
use Rattle.hs_workload.proofs.Prelude.{AllByRecursion, get_or-append, get_or-append_seam, list_any_none, le-ltb, or_from, and_from, eqb-true, nat_le_false, MAX_TRIGGER, MAX_WEIGHT, MAX_BURST, MAX_RATE, MIN_WINDOW, MAX_WINDOW, WHOLE_SHARE, MAX_LATERALS, MAX_AUTOS, TriggerRule, AutoRule, Exception, Percentile, Category, Queue, IsRule, IsAutoRule, AreRules, AreAutoRules, is_declared, fired_by, Within, is_out, ◌>>=◌, run, PlainWorkload, Setting, setting_place, least, most, Statement, Put, Declare, Watch, auto_numbers, statement_line, head_statements, auto_statements, IsValid, Past, is_rule_out, is_window_out, is_auto_out, Draft, fresh, past_of, after, line_step}
use Rattle.std.proofs.lemmas.List.Folds.{Any-from_list_any}
use Rattle.hs_records.specs.declared.setting.Setting.TheVariants as settings
use Rattle.hs_workload.proofs.Spelled.{IsSmall, Form}
use Rattle.hs_workload.proofs.Clear.{Allowed, statement_taken}
use Rattle.hs_workload.proofs.Keeps.{version_in}

abbrev pub after_all : Draft → List Statement → Draft
after_all d [] = d
after_all d (s ∷ more) = after_all (after d s) more

-- statements that are allowed one after another in a text of this version
abbrev pub AllowedFrom : ℕ → Draft → List Statement → Type 0
AllowedFrom version d [] = Unit {0}
AllowedFrom version d (s ∷ more) =
    (statement_line version s ≡ statement_line (version_in d) s) × Form (version_in d) s × Allowed (past_of d) s × AllowedFrom version (after d s) more

pub lines_run : (version : ℕ) (d : Draft) (ss : List Statement) → AllowedFrom version d ss → run line_step d (map (statement_line version) ss) ≡ Ok (after_all d ss)
lines_run version d [] a = refl
lines_run version d (s ∷ more) a =
    ap (λ r. r >>= λ next. run line_step next (map (statement_line version) more)) (ap (line_step d) a.0 ∙ statement_taken d s a.1 a.2) ∙ lines_run version (after d s) more a.3

pub after_all-append : (d : Draft) (xs ys : List Statement) → after_all d (xs ++ ys) ≡ after_all (after_all d xs) ys
after_all-append d [] ys = refl
after_all-append d (s ∷ xs) ys = after_all-append (after d s) xs ys

pub allowed_join : (version : ℕ) (d : Draft) (xs ys : List Statement) → AllowedFrom version d xs → AllowedFrom version (after_all d xs) ys → AllowedFrom version d (xs ++ ys)
allowed_join version d [] ys a b = b
allowed_join version d (s ∷ xs) ys a b = (a.0, a.1, a.2, allowed_join version (after d s) xs ys a.3 b)

inside : (low high n : ℕ) → low ≤ n → n ≤ high → is_out low high n ≡ false
inside low high n p q = or_from (nat_lt n low) (nat_lt high n) (le-ltb n low p) (le-ltb high n q)

-- ---- the head

most_small : (setting : Setting) → most setting < 2 ^ 64
most_small settings.Version = omega arith
most_small settings.Nodes = omega arith
most_small settings.Clients = omega arith
most_small settings.Buffers = omega arith
most_small settings.Size = omega arith
most_small settings.Threshold = omega arith
most_small settings.Traces = omega arith
most_small settings.Pins = omega arith
most_small settings.Stride = omega arith

small : (s : Setting) (n : ℕ) → Within (least s) (most s) n → AllByRecursion IsSmall (n ∷ [])
small s n w = (omega (arith, w.1, most_small s), tt)

put_allowed : (past : Past) (s : Setting) (n : ℕ) → length past.head ≡ setting_place s → Within (least s) (most s) n → Allowed past (Put s n)
put_allowed past s n place w =
    record { stands = eq-eqb (length past.head) (setting_place s) place; range = inside (least s) (most s) n w.0 w.1; order = refl; known = refl; opens = refl; trace = refl; left = refl; few = refl }

abbrev pub head_of : PlainWorkload → List ℕ
head_of W =
    W.version ∷ W.settings.nodes ∷ W.settings.clients ∷ W.settings.buffers ∷ W.settings.size ∷ W.settings.threshold ∷ W.settings.traces ∷ W.settings.pins ∷ W.settings.stride ∷ []

-- the draft behind the head
abbrev pub headed : PlainWorkload → Draft
headed W = record fresh { lines = 9; head = head_of W }

pub head_allowed : (W : PlainWorkload) → IsValid W → AllowedFrom W.version fresh (head_statements W)
head_allowed W v = (
  refl,
  small settings.Version _ (v.head settings.Version),
  put_allowed _ settings.Version _ refl (v.head settings.Version),
  (
    refl,
    small settings.Nodes _ (v.head settings.Nodes),
    put_allowed _ settings.Nodes _ refl (v.head settings.Nodes),
    (
      refl,
      small settings.Clients _ (v.head settings.Clients),
      put_allowed _ settings.Clients _ refl (v.head settings.Clients),
      (
        refl,
        small settings.Buffers _ (v.head settings.Buffers),
        put_allowed _ settings.Buffers _ refl (v.head settings.Buffers),
        (
          refl,
          small settings.Size _ (v.head settings.Size),
          put_allowed _ settings.Size _ refl (v.head settings.Size),
          (
            refl,
            small settings.Threshold _ (v.head settings.Threshold),
            put_allowed _ settings.Threshold _ refl (v.head settings.Threshold),
            (
              refl,
              small settings.Traces _ (v.head settings.Traces),
              put_allowed _ settings.Traces _ refl (v.head settings.Traces),
              (
                refl,
                small settings.Pins _ (v.head settings.Pins),
                put_allowed _ settings.Pins _ refl (v.head settings.Pins),
                (refl, small settings.Stride _ (v.head settings.Stride), put_allowed _ settings.Stride _ refl (v.head settings.Stride), tt),
              ),
            ),
          ),
        ),
      ),
    ),
  ),
)

-- ---- declarations

abbrev pub with_rules : Draft → List TriggerRule → Draft
with_rules d more = record d { lines = d.lines + length more; rules = d.rules ++ more }

pub after_rules : (d : Draft) (more : List TriggerRule) → after_all d (map Declare more) ≡ with_rules d more
after_rules d [] =
    let lines : d.lines ≡ d.lines + 0 = omega arith in
    let rules = append-nil d.rules in
    λ i. record d { lines = lines i; rules = sym rules i }
after_rules d (rule ∷ more) =
    let lines : d.lines + 1 + length more ≡ d.lines + length (rule ∷ more) = omega arith in
    let rules : (d.rules ++ rule ∷ []) ++ more ≡ d.rules ++ rule ∷ more = append_assoc d.rules (rule ∷ []) more in
    after_rules (after d (Declare rule)) more ∙ (λ i. record d { lines = lines i; rules = rules i })

rule_inside : (rule : TriggerRule) → IsRule rule → is_rule_out rule ≡ false
rule_inside rule r =
    or_from ((is_out 1 MAX_TRIGGER rule.id.0 || is_out 1 MAX_WEIGHT rule.weight) || is_out 1 MAX_BURST rule.burst) (nat_lt MAX_RATE rule.rate)
    (or_from (is_out 1 MAX_TRIGGER rule.id.0 || is_out 1 MAX_WEIGHT rule.weight) (is_out 1 MAX_BURST rule.burst)
    (or_from (is_out 1 MAX_TRIGGER rule.id.0) (is_out 1 MAX_WEIGHT rule.weight) (inside 1 MAX_TRIGGER rule.id.0 r.id.0 r.id.1) (inside 1 MAX_WEIGHT rule.weight r.weight.0 r.weight.1))
    (inside 1 MAX_BURST rule.burst r.burst.0 r.burst.1))
    (le-ltb MAX_RATE rule.rate r.rate)

pub rules_allowed : (version : ℕ) (d : Draft) (more : List TriggerRule) → version_in d ≡ version → length d.head ≡ 9 → d.autos ≡ [] → d.started ≡ 0 → AreRules (d.rules ++ more) → AllowedFrom version d (map Declare more)
rules_allowed version d [] same head autos none are = tt
rules_allowed version d (rule ∷ more) same head autos none are =
    let size : length (d.rules ++ rule ∷ more) ≡ length d.rules + length (rule ∷ more) = length-append d.rules (rule ∷ more) in
    let below : length d.rules < length (d.rules ++ rule ∷ more) = omega (arith, size) in
    let here : get_or (d.rules ++ rule ∷ more) (length d.rules) rule ≡ rule = get_or-append_seam d.rules rule more rule in
    let is : IsRule rule = subst IsRule here (are.each (length d.rules) rule below) in
    let a = is.id.1 in
    let b = is.weight.1 in
    let c = is.burst.1 in
    let e = is.rate in
    let no_autos : length d.autos ≡ 0 = ap length autos in (
      refl,
      (omega (arith, a), (omega (arith, b), (omega (arith, c), (omega (arith, e), tt)))),
      record {
        stands = and_from (nat_eq (length d.head) 9 && nat_eq (length d.autos) 0) (nat_eq d.started 0) (and_from (nat_eq (length d.head) 9) (nat_eq (length d.autos) 0) (eq-eqb (length d.head) 9 head) (eq-eqb (length d.autos) 0 no_autos)) (eq-eqb d.started 0 none);
        range = rule_inside rule is;
        order = list_any_none (λ (earlier : TriggerRule). nat_le rule.id.0 earlier.id.0) d.rules (λ k x within.
            nat_le_false rule.id.0 (get_or d.rules k x).id.0
            (subst (λ (r : TriggerRule). (get_or d.rules k x).id.0 < r.id.0) (get_or-append_seam d.rules rule more x)
            (subst (λ (r : TriggerRule). r.id.0 < (get_or (d.rules ++ rule ∷ more) (length d.rules) x).id.0) (get_or-append d.rules (rule ∷ more) x k within) (are.rising k (length d.rules) x within below))));
        known = refl;
        opens = refl;
        trace = refl;
        left = refl;
        few = refl;
      },
      rules_allowed version (after d (Declare rule)) more same head autos none (subst AreRules (sym (append_assoc d.rules (rule ∷ []) more)) are),
    )

abbrev pub with_autos : Draft → List AutoRule → Draft
with_autos d more = record d { lines = d.lines + length more; autos = d.autos ++ more }

pub after_autos : (d : Draft) (number : ℕ) (more : List AutoRule) → after_all d (auto_statements number more) ≡ with_autos d more
after_autos d number [] =
    let lines : d.lines ≡ d.lines + 0 = omega arith in
    let autos = append-nil d.autos in
    λ i. record d { lines = lines i; autos = sym autos i }
after_autos d number (rule ∷ more) =
    let lines : d.lines + 1 + length more ≡ d.lines + length (rule ∷ more) = omega arith in
    let autos : (d.autos ++ rule ∷ []) ++ more ≡ d.autos ++ rule ∷ more = append_assoc d.autos (rule ∷ []) more in
    after_autos (after d (Watch number rule)) (number + 1) more ∙ (λ i. record d { lines = lines i; autos = autos i })

window_inside : (window share : ℕ) → MIN_WINDOW ≤ window → window ≤ MAX_WINDOW → 1 ≤ share → share < WHOLE_SHARE → is_window_out window share ≡ false
window_inside window share a b c e =
    or_from (is_out MIN_WINDOW MAX_WINDOW window || nat_lt share 1) (nat_le WHOLE_SHARE share) (or_from (is_out MIN_WINDOW MAX_WINDOW window) (nat_lt share 1) (inside MIN_WINDOW MAX_WINDOW window a b) (le-ltb share 1 c)) (nat_le_false WHOLE_SHARE share e)

auto_inside : (rule : AutoRule) → IsAutoRule rule → is_auto_out rule ≡ false
auto_inside (Exception t) r = refl
auto_inside (Percentile t w s) r = window_inside w s r.0.0 r.0.1 r.1.0 r.1.1
auto_inside (Category t w s) r = window_inside w s r.0.0 r.0.1 r.1.0 r.1.1
auto_inside (Queue t w s l) r = or_from (is_window_out w s) (is_out 1 MAX_LATERALS l) (window_inside w s r.0.0 r.0.1 r.1.0 r.1.1) (inside 1 MAX_LATERALS l r.2.0 r.2.1)

-- a declared id is small
pub declared_small : (rules : List TriggerRule) (id : ℕ) → AreRules rules → is_declared rules (record { 0 = id }) ≡ true → IsSmall id
declared_small rules id are known =
    let any = Any-from_list_any (λ (rule : TriggerRule). nat_eq rule.id.0 id) rules known in
    let is : IsRule any.1 = subst IsRule any.3 (are.each any.0 any.1 any.2) in
    let same : any.1.id.0 ≡ id = eqb-true any.1.id.0 id any.4 in
    let top = is.id.1 in
    omega (arith, top, same)

auto_small : (rules : List TriggerRule) (rule : AutoRule) → IsAutoRule rule → AreRules rules → is_declared rules (fired_by rule) ≡ true → AllByRecursion IsSmall (auto_numbers rule)
auto_small rules (Exception t) r are known = (declared_small rules t.0 are known, tt)
auto_small rules (Percentile t w s) r are known = let a = r.0.1 in let b = r.1.1 in (declared_small rules t.0 are known, (omega (arith, a), (omega (arith, b), tt)))
auto_small rules (Category t w s) r are known = let a = r.0.1 in let b = r.1.1 in (declared_small rules t.0 are known, (omega (arith, a), (omega (arith, b), tt)))
auto_small rules (Queue t w s l) r are known =
    let a = r.0.1 in
    let b = r.1.1 in
    let c = r.2.1 in
    (declared_small rules t.0 are known, (omega (arith, a), (omega (arith, b), (omega (arith, c), tt))))

pub autos_allowed : (version : ℕ) (d : Draft) (number : ℕ) (more : List AutoRule) → version_in d ≡ version → length d.head ≡ 9 → d.started ≡ 0 → number ≡ length d.autos → AreRules d.rules
    → AreAutoRules d.rules (d.autos ++ more) → AllowedFrom version d (auto_statements number more)
autos_allowed version d number [] same head none turn rules are = tt
autos_allowed version d number (rule ∷ more) same head none turn rules are =
    let size : length (d.autos ++ rule ∷ more) ≡ length d.autos + length (rule ∷ more) = length-append d.autos (rule ∷ more) in
    let size' : length (d.autos ++ rule ∷ []) ≡ length d.autos + 1 = length-append d.autos (rule ∷ []) in
    let below : length d.autos < length (d.autos ++ rule ∷ more) = omega (arith, size) in
    let here : get_or (d.autos ++ rule ∷ more) (length d.autos) rule ≡ rule = get_or-append_seam d.autos rule more rule in
    let is : IsAutoRule rule = subst IsAutoRule here (are.each (length d.autos) rule below) in
    let known : is_declared d.rules (fired_by rule) ≡ true = subst (λ (r : AutoRule). is_declared d.rules (fired_by r) ≡ true) here (are.declared (length d.autos) rule below) in
    let few = are.few in (
      refl,
      (omega (arith, turn, few, size), auto_small d.rules rule is rules known),
      record {
        stands = and_from (nat_eq (length d.head) 9) (nat_eq d.started 0) (eq-eqb (length d.head) 9 head) (eq-eqb d.started 0 none);
        range = or_from (nat_le MAX_AUTOS number) (is_auto_out rule) (nat_le_false MAX_AUTOS number (omega (arith, turn, few, size))) (auto_inside rule is);
        order = ap not (eq-eqb number (length d.autos) turn);
        known = ap not known;
        opens = refl;
        trace = refl;
        left = refl;
        few = refl;
      },
      autos_allowed version (after d (Watch number rule)) (number + 1) more same head none (omega (arith, turn, size')) rules (subst (AreAutoRules d.rules) (sym (append_assoc d.autos (rule ∷ []) more)) are),
    )
