-- Each line that is taken keeps what was read, and adds what it says.
use Rattle.std.proofs.Common.{◌≡◌, ℕ, zero, suc, ◌+◌, ◌*◌, ◌/◌, ◌%◌, ◌<◌, ◌≤◌, Bool, true, false, not, cond, nat_eq, nat_lt, nat_le, ◌&&◌, ◌||◌, List, [], ◌∷◌, ◌++◌, length, map, get_or, refl, sym, ap, subst, ◌∙◌, append_assoc, append-nil, length-append, arith}
use Rattle.hs_workload.proofs.Prelude.{AllByRecursion, get_or-append, get_or-eq_default, get_or-append_seam, ltb-false, not-false, map_push, nil_from_length, ltb-true, leb-true, eqb-true, ne_eqb, nat_eq_from, MAX_TRIGGER, MAX_WEIGHT, MAX_BURST, MAX_RATE, MIN_WINDOW, MAX_WINDOW, WHOLE_SHARE, MAX_LATERALS, MAX_AUTOS, MAX_PAYLOAD, MAX_OPERATIONS, TriggerRule, AutoRule, Exception, Percentile, Category, Queue, IsRule, IsAutoRule, AreAutoRules, is_declared, fired_by, is_out, Operation, Begin, Point, Crumb, End, Fire, Sample, AreBracketed, Setting, setting_place, setting_in, least, most, Statement, Put, Declare, Watch, Start, Operate, Finish, auto_statements, client_statements, IsOperation, IsClient, client_pieces, workload_pieces, is_rule_out, is_window_out, is_auto_out, operation_pieces, Draft, past_of, closed, open_after, after}
use Rattle.std.specs.List.{list_any}
use Rattle.std.proofs.lemmas.List.Elements.{All-push}
use Rattle.std.proofs.lemmas.List.Quantifiers.{all_pairs_push}
use Rattle.std.proofs.lemmas.Bool.{and_parts, or_parts, not-true}
use Rattle.hs_base.proofs.Numbers.{nat_le_past}
use Rattle.hs_base.proofs.Alls.{all_push}
use Rattle.hs_records.specs.declared.setting.Setting.TheVariants as settings
use Rattle.hs_workload.proofs.Spelled.{Form}
use Rattle.hs_workload.proofs.Clear.{Allowed}
use Rattle.hs_workload.proofs.Keeps.{setting_at, setting_again, nine_places, puts, ending, behind_autos, behind_rules, behind_head, last_of, deeper, puts_more, autos_more, clients_more, clients_operated, workload_more, version_in, settings_in, size_in, IsBare, Keeps, Kept, no_autos, headed}
use Rattle.hs_records.proofs.Sizes.{client_more}

-- ---- a number of the head

same_setting : (a b : Setting) → setting_place a ≡ setting_place b → a ≡ b
same_setting a b e = sym (setting_again a) ∙ ap setting_at e ∙ setting_again b

pub set_before : (head : List ℕ) (n : ℕ) (t : Setting) → setting_place t < length head → setting_in (head ++ n ∷ []) t ≡ setting_in head t
set_before head n t below = get_or-append head (n ∷ []) 0 (setting_place t) below

set_here : (head : List ℕ) (n : ℕ) (t : Setting) → setting_place t ≡ length head → setting_in (head ++ n ∷ []) t ≡ n
set_here head n t at = ap (λ (k : ℕ). get_or (head ++ n ∷ []) k 0) at ∙ get_or-append_seam head n [] 0

set_later : (head : List ℕ) (n : ℕ) (t : Setting) → length head < setting_place t → setting_in (head ++ n ∷ []) t ≡ 0
set_later head n t above =
    let size = length-append head (n ∷ []) in
    get_or-eq_default (head ++ n ∷ []) 0 {n = setting_place t} (omega (arith, size, above))

-- what holds of a setting of the longer head
set_more : (head : List ℕ) (n : ℕ) (t : Setting) (P : ℕ → Type 0) → (setting_place t < length head → P (setting_in head t)) → (setting_place t ≡ length head → P n)
    → (length head < setting_place t → P 0) → P (setting_in (head ++ n ∷ []) t)
set_more head n t P before here later = by_place (nat_lt (setting_place t) (length head)) (nat_lt (length head) (setting_place t)) refl refl
  where
    by_place : (a b : Bool) → nat_lt (setting_place t) (length head) ≡ a → nat_lt (length head) (setting_place t) ≡ b → P (setting_in (head ++ n ∷ []) t)
    by_place true b p q = let below = ltb-true (setting_place t) (length head) p in subst P (sym (set_before head n t below)) (before below)
    by_place false true p q = let above = ltb-true (length head) (setting_place t) q in subst P (sym (set_later head n t above)) (later above)
    by_place false false p q =
        let at : setting_place t ≡ length head = omega (arith, ltb-false (setting_place t) (length head) p, ltb-false (length head) (setting_place t) q) in
        subst P (sym (set_here head n t at)) (here at)

closed_bare : (d : Draft) → d.started ≡ 0 → IsBare d → closed d ≡ []
closed_bare d none bare = ap (λ (k : ℕ). cond (nat_eq k 0) d.finished (d.finished ++ d.current ∷ [])) none ∙ bare.finished

nothing_behind_autos : (d : Draft) → d.started ≡ 0 → IsBare d → behind_autos d ≡ []
nothing_behind_autos d none bare =
    ap (λ cs. client_statements (setting_in d.head settings.Clients) 0 cs ++ ending d.is_done) (closed_bare d none bare) ∙ ap ending bare.undone

nothing_behind_rules : (d : Draft) → d.autos ≡ [] → d.started ≡ 0 → IsBare d → behind_rules d ≡ []
nothing_behind_rules d autos none bare = ap (λ rules. auto_statements 0 rules ++ behind_autos d) autos ∙ nothing_behind_autos d none bare

pub nothing_behind_head : (d : Draft) → d.rules ≡ [] → d.autos ≡ [] → d.started ≡ 0 → IsBare d → behind_head d ≡ []
nothing_behind_head d rules autos none bare = ap (λ declared. map Declare declared ++ behind_rules d) rules ∙ nothing_behind_rules d autos none bare

put_kept : (d : Draft) (s : Setting) (n : ℕ) → Keeps d → Allowed (past_of d) (Put s n) → Kept d (after d (Put s n)) (Put s n)
put_kept d s n keeps a =
    let next : Draft = after d (Put s n) in
    let place : length d.head ≡ setting_place s = eqb-true (length d.head) (setting_place s) a.stands in
    let nine = nine_places s in
    let none = keeps.undeclared (omega (arith, place, nine)) in
    let bare : IsBare d = keeps.bare none.2 in
    let bare' : IsBare next = record { finished = bare.finished; current = bare.current; shut = bare.shut; none = bare.none; undone = bare.undone } in
    let range = or_parts (nat_lt n (least s)) (nat_lt (most s) n) a.range in
    let low : least s ≤ n = ltb-false n (least s) range.0 in
    let high : n ≤ most s = ltb-false (most s) n range.1 in
    let size : length (d.head ++ n ∷ []) ≡ length d.head + 1 = length-append d.head (n ∷ []) in
    let said_here : (t : Setting) → setting_place t ≡ length d.head → s ≡ t = λ (t : Setting) (at : setting_place t ≡ length d.head). same_setting s t (sym place ∙ sym at) in
    let lines = keeps.undone bare.undone in
    record {
      keeps = record {
        short = omega (arith, size, place, nine);
        least = λ t below. set_more d.head n t (λ (v : ℕ). least t ≤ v) (keeps.least t) (λ at. subst (λ (x : Setting). least x ≤ n) (said_here t at) low) (λ above. absurd (omega (arith, above, below, size)));
        most = λ t. set_more d.head n t (λ (v : ℕ). v ≤ most t) (λ _. keeps.most t) (λ at. subst (λ (x : Setting). n ≤ most x) (said_here t at) high) (λ above. omega arith);
        undeclared = λ _. none;
        rules = keeps.rules;
        autos = keeps.autos;
        bare = λ _. bare';
        begun = keeps.begun;
        within = omega (arith, none.2);
        finished = subst (λ cs. AllByRecursion (IsClient (version_in next) (settings_in next)) cs) (sym bare.finished) tt;
        words = subst (λ ops. AllByRecursion (IsOperation (version_in next) (settings_in next)) ops) (sym bare.current) tt;
        bracketed = keeps.bracketed;
        pieces = rw (bare.finished, bare.current) bare.none;
        few = keeps.few;
        ended = λ z. absurd (let undone = bare.undone in cc);
        undone = λ z. omega (arith, size, lines);
        lines = omega (arith, place, nine, lines);
      };
      said = last_of (puts 0 d.head) (puts 0 next.head) (behind_head d) (behind_head next) (Put s n) (nothing_behind_head d none.0 none.1 none.2 bare) (nothing_behind_head next none.0 none.1 none.2 bare')
          (puts_more 0 d.head n s (omega (arith, place)));
    }

-- ---- declarations

none_at : {X : Type 0} (p : X → Bool) (xs : List X) (k : ℕ) (d : X) → list_any p xs ≡ false → k < length xs → p (get_or xs k d) ≡ false
none_at p [] k d e below = absurd (omega (arith, below))
none_at p (x ∷ xs) zero d e below = (or_parts (p x) (list_any p xs) e).0
none_at p (x ∷ xs) (suc k) d e below = none_at p xs k d (or_parts (p x) (list_any p xs) e).1 (omega (arith, below))

within : (low high n : ℕ) → is_out low high n ≡ false → (low ≤ n) × (n ≤ high)
within low high n e =
    let parts = or_parts (nat_lt n low) (nat_lt high n) e in
    (ltb-false n low parts.0, ltb-false high n parts.1)

is_rule : (rule : TriggerRule) → is_rule_out rule ≡ false → IsRule rule
is_rule rule e =
    let a = or_parts ((is_out 1 MAX_TRIGGER rule.id.0 || is_out 1 MAX_WEIGHT rule.weight) || is_out 1 MAX_BURST rule.burst) (nat_lt MAX_RATE rule.rate) e in
    let b = or_parts (is_out 1 MAX_TRIGGER rule.id.0 || is_out 1 MAX_WEIGHT rule.weight) (is_out 1 MAX_BURST rule.burst) a.0 in
    let c = or_parts (is_out 1 MAX_TRIGGER rule.id.0) (is_out 1 MAX_WEIGHT rule.weight) b.0 in
    record { id = within 1 MAX_TRIGGER rule.id.0 c.0; weight = within 1 MAX_WEIGHT rule.weight c.1; burst = within 1 MAX_BURST rule.burst b.1; rate = ltb-false MAX_RATE rule.rate a.1 }

rule_kept : (d : Draft) (rule : TriggerRule) → Keeps d → Allowed (past_of d) (Declare rule) → Kept d (after d (Declare rule)) (Declare rule)
rule_kept d rule keeps a =
    let next : Draft = after d (Declare rule) in
    let p = and_parts (nat_eq (length d.head) 9 && nat_eq (length d.autos) 0) (nat_eq d.started 0) a.stands in
    let q = and_parts (nat_eq (length d.head) 9) (nat_eq (length d.autos) 0) p.0 in
    let head : length d.head ≡ 9 = eqb-true (length d.head) 9 q.0 in
    let autos : d.autos ≡ [] = nil_from_length d.autos (eqb-true (length d.autos) 0 q.1) in
    let none : d.started ≡ 0 = eqb-true d.started 0 p.1 in
    let bare : IsBare d = keeps.bare none in
    let bare' : IsBare next = record { finished = bare.finished; current = bare.current; shut = bare.shut; none = bare.none; undone = bare.undone } in
    let size : length (d.rules ++ rule ∷ []) ≡ length d.rules + 1 = length-append d.rules (rule ∷ []) in
    let lines = keeps.undone bare.undone in
    record {
      keeps = record {
        short = keeps.short;
        least = keeps.least;
        most = keeps.most;
        undeclared = λ below. absurd (omega (arith, below, head));
        rules = record {
          rising = all_pairs_push (λ (x y : TriggerRule). x.id.0 < y.id.0) d.rules rule keeps.rules.rising
              (λ k x below. nat_le_past rule.id.0 (get_or d.rules k x).id.0 (none_at (λ (earlier : TriggerRule). nat_le rule.id.0 earlier.id.0) d.rules k x a.order below));
          each = All-push IsRule d.rules rule keeps.rules.each (is_rule rule a.range);
        };
        autos = subst (λ (autos : List AutoRule). AreAutoRules (d.rules ++ rule ∷ []) autos) (sym autos) (no_autos (d.rules ++ rule ∷ []));
        bare = λ _. bare';
        begun = keeps.begun;
        within = keeps.within;
        finished = subst (λ cs. AllByRecursion (IsClient (version_in next) (settings_in next)) cs) (sym bare.finished) tt;
        words = subst (λ ops. AllByRecursion (IsOperation (version_in next) (settings_in next)) ops) (sym bare.current) tt;
        bracketed = keeps.bracketed;
        pieces = keeps.pieces;
        few = keeps.few;
        ended = λ z. absurd (let undone = bare.undone in cc);
        undone = λ z. omega (arith, size, lines);
        lines = omega (arith, head, size, lines);
      };
      said = deeper (puts 0 d.head) (behind_head d) (behind_head next) (Declare rule)
          (last_of (map Declare d.rules) (map Declare next.rules) (behind_rules d) (behind_rules next) (Declare rule) (nothing_behind_rules d autos none bare) (nothing_behind_rules next autos none bare') (map_push Declare d.rules rule));
    }

window_within : (window share : ℕ) → is_window_out window share ≡ false → ((MIN_WINDOW ≤ window) × (window ≤ MAX_WINDOW)) × ((1 ≤ share) × (share < WHOLE_SHARE))
window_within window share e =
    let a = or_parts (is_out MIN_WINDOW MAX_WINDOW window || nat_lt share 1) (nat_le WHOLE_SHARE share) e in
    let b = or_parts (is_out MIN_WINDOW MAX_WINDOW window) (nat_lt share 1) a.0 in
    (within MIN_WINDOW MAX_WINDOW window b.0, (ltb-false share 1 b.1, nat_le_past WHOLE_SHARE share a.1))

is_auto_rule : (rule : AutoRule) → is_auto_out rule ≡ false → IsAutoRule rule
is_auto_rule (Exception t) e = tt
is_auto_rule (Percentile t w s) e = window_within w s e
is_auto_rule (Category t w s) e = window_within w s e
is_auto_rule (Queue t w s l) e =
    let a = or_parts (is_window_out w s) (is_out 1 MAX_LATERALS l) e in
    let b = window_within w s a.0 in
    (b.0, b.1, within 1 MAX_LATERALS l a.1)

auto_kept : (d : Draft) (number : ℕ) (rule : AutoRule) → Keeps d → Allowed (past_of d) (Watch number rule) → Kept d (after d (Watch number rule)) (Watch number rule)
auto_kept d number rule keeps a =
    let next : Draft = after d (Watch number rule) in
    let p = and_parts (nat_eq (length d.head) 9) (nat_eq d.started 0) a.stands in
    let head : length d.head ≡ 9 = eqb-true (length d.head) 9 p.0 in
    let none : d.started ≡ 0 = eqb-true d.started 0 p.1 in
    let bare : IsBare d = keeps.bare none in
    let bare' : IsBare next = record { finished = bare.finished; current = bare.current; shut = bare.shut; none = bare.none; undone = bare.undone } in
    let range = or_parts (nat_le MAX_AUTOS number) (is_auto_out rule) a.range in
    let turn : number ≡ length d.autos = nat_eq_from number (length d.autos) a.order in
    let few : number < MAX_AUTOS = nat_le_past MAX_AUTOS number range.0 in
    let size : length (d.autos ++ rule ∷ []) ≡ length d.autos + 1 = length-append d.autos (rule ∷ []) in
    let lines = keeps.undone bare.undone in
    record {
      keeps = record {
        short = keeps.short;
        least = keeps.least;
        most = keeps.most;
        undeclared = λ below. absurd (omega (arith, below, head));
        rules = keeps.rules;
        autos = record {
          few = omega (arith, size, turn, few);
          each = All-push IsAutoRule d.autos rule keeps.autos.each (is_auto_rule rule range.1);
          declared = All-push (λ (auto : AutoRule). is_declared d.rules (fired_by auto) ≡ true) d.autos rule keeps.autos.declared (not-false (is_declared d.rules (fired_by rule)) a.known);
        };
        bare = λ _. bare';
        begun = keeps.begun;
        within = keeps.within;
        finished = subst (λ cs. AllByRecursion (IsClient (version_in next) (settings_in next)) cs) (sym bare.finished) tt;
        words = subst (λ ops. AllByRecursion (IsOperation (version_in next) (settings_in next)) ops) (sym bare.current) tt;
        bracketed = keeps.bracketed;
        pieces = keeps.pieces;
        few = keeps.few;
        ended = λ z. absurd (let undone = bare.undone in cc);
        undone = λ z. omega (arith, size, lines);
        lines = omega (arith, head, size, lines);
      };
      said = deeper (puts 0 d.head) (behind_head d) (behind_head next) (Watch number rule) (deeper (map Declare d.rules) (behind_rules d) (behind_rules next) (Watch number rule)
          (last_of (auto_statements 0 d.autos) (auto_statements 0 next.autos) (behind_autos d) (behind_autos next) (Watch number rule) (nothing_behind_autos d none bare) (nothing_behind_autos next none bare')
          (autos_more 0 d.autos rule ∙ ap (λ (n : ℕ). auto_statements 0 d.autos ++ Watch n rule ∷ []) (let same : 0 + length d.autos ≡ number = omega (arith, turn) in same))));
    }

-- ---- clients

closed_next : (d : Draft) → cond (nat_eq (d.started + 1) 0) (closed d) (closed d ++ [] ∷ []) ≡ closed d ++ [] ∷ []
closed_next d = ap (λ (b : Bool). cond b (closed d) (closed d ++ [] ∷ [])) (ne_eqb (d.started + 1) 0 (λ e. omega arith))

pub closed_begun : (d : Draft) → 0 < d.started → closed d ≡ d.finished ++ d.current ∷ []
closed_begun d some = ap (λ (b : Bool). cond b d.finished (d.finished ++ d.current ∷ [])) (ne_eqb d.started 0 (λ e. omega (arith, e, some)))

-- the clients with the last one, which leaves no trace open
pub clients_closed : (d : Draft) → Keeps d → d.is_open ≡ false → AllByRecursion (IsClient (version_in d) (settings_in d)) (closed d)
clients_closed d keeps shut = by_start (nat_eq d.started 0)
  where
    by_start : (b : Bool) → AllByRecursion (IsClient (version_in d) (settings_in d)) (cond b d.finished (d.finished ++ d.current ∷ []))
    by_start true = keeps.finished
    by_start false = all_push (IsClient (version_in d) (settings_in d)) d.finished d.current keeps.finished
        (record { words = keeps.words; bracketed = subst (AreBracketed false) (append-nil d.current) (keeps.bracketed [] shut) })

pub pieces_closed : (d : Draft) → Keeps d → d.pieces ≡ workload_pieces (size_in d) (closed d)
pieces_closed d keeps = by_start (nat_eq d.started 0) refl
  where
    by_start : (b : Bool) → nat_eq d.started 0 ≡ b → d.pieces ≡ workload_pieces (size_in d) (cond b d.finished (d.finished ++ d.current ∷ []))
    by_start true e =
        let bare : IsBare d = keeps.bare (eqb-true d.started 0 e) in
        let current = ap (client_pieces (size_in d)) bare.current in
        omega (arith, keeps.pieces, current)
    by_start false e = omega (arith, keeps.pieces, workload_more (size_in d) d.finished d.current)

start_kept : (d : Draft) (v n : ℕ) → Keeps d → Allowed (past_of d) (Start v n) → Kept d (after d (Start v n)) (Start v n)
start_kept d v n keeps a =
    let next : Draft = after d (Start v n) in
    let nodes : ℕ = setting_in d.head settings.Nodes in
    let each : ℕ = setting_in d.head settings.Clients in
    let p = and_parts (nat_eq (length d.head) 9 && nat_lt d.started (nodes * each)) (not d.is_done) a.stands in
    let q = and_parts (nat_eq (length d.head) 9) (nat_lt d.started (nodes * each)) p.0 in
    let head : length d.head ≡ 9 = eqb-true (length d.head) 9 q.0 in
    let left : d.started < nodes * each = ltb-true d.started (nodes * each) q.1 in
    let undone : d.is_done ≡ false = not-true d.is_done p.1 in
    let order = or_parts (not (nat_eq v (d.started / each))) (not (nat_eq n (d.started % each))) a.order in
    let v-is : v ≡ d.started / each = nat_eq_from v (d.started / each) order.0 in
    let n-is : n ≡ d.started % each = nat_eq_from n (d.started % each) order.1 in
    let one_more : closed next ≡ closed d ++ [] ∷ [] = closed_next d in
    let size : length (closed d ++ [] ∷ []) ≡ length (closed d) + 1 = length-append (closed d) ([] ∷ []) in
    let lines = keeps.undone undone in
    let turn : 0 + length (closed d) ≡ d.started = omega (arith, keeps.begun) in
    let tail : behind_autos next ≡ behind_autos d ++ Start v n ∷ [] =
    last_of (client_statements each 0 (closed d)) (client_statements each 0 (closed next)) (ending d.is_done) (ending next.is_done) (Start v n) (ap ending undone) (ap ending undone)
    (ap (client_statements each 0) one_more ∙ clients_more each 0 (closed d) ∙ ap (λ (k : ℕ). client_statements each 0 (closed d) ++ Start (k / each) (k % each) ∷ []) turn
    ∙ ap (λ (x : ℕ). client_statements each 0 (closed d) ++ Start x (d.started % each) ∷ []) (sym v-is) ∙ ap (λ (x : ℕ). client_statements each 0 (closed d) ++ Start v x ∷ []) (sym n-is)) in
    record {
      keeps = record {
        short = keeps.short;
        least = keeps.least;
        most = keeps.most;
        undeclared = λ below. absurd (omega (arith, below, head));
        rules = keeps.rules;
        autos = keeps.autos;
        bare = λ z. absurd (omega (arith, z));
        begun = ap length one_more ∙ size ∙ (let same : length (closed d) + 1 ≡ d.started + 1 = omega (arith, keeps.begun) in same);
        within = omega (arith, left);
        finished = clients_closed d keeps a.left;
        words = tt;
        bracketed = λ rest b. subst (λ (o : Bool). AreBracketed o rest) a.left b;
        pieces = (let all = pieces_closed d keeps in omega (arith, all));
        few = keeps.few;
        ended = λ z. absurd cc;
        undone = λ z. omega (arith, lines);
        lines = omega (arith, head, lines);
      };
      said = deeper (puts 0 d.head) (behind_head d) (behind_head next) (Start v n) (deeper (map Declare d.rules) (behind_rules d) (behind_rules next) (Start v n)
          (deeper (auto_statements 0 d.autos) (behind_autos d) (behind_autos next) (Start v n) tail));
    }

-- an operation that may stand here
record Fits (d : Draft) (op : Operation) : Type 0 where
  started : 0 < d.started
  undone : d.is_done ≡ false
  is : IsOperation (version_in d) (settings_in d) op
  leads : (rest : List Operation) → AreBracketed (open_after d.is_open op) rest → AreBracketed d.is_open (op ∷ rest)
  few : d.pieces + operation_pieces (size_in d) op ≤ MAX_OPERATIONS
  once : 0 < operation_pieces (size_in d) op

operation_kept : (d : Draft) (op : Operation) → Keeps d → Fits d op → Kept d (after d (Operate op)) (Operate op)
operation_kept d op keeps fits =
    let next : Draft = after d (Operate op) in
    let each : ℕ = setting_in d.head settings.Clients in
    let before = closed_begun d fits.started in
    let behind = closed_begun next fits.started in
    let head = headed d keeps fits.started in
    let some = fits.started in
    let once = fits.once in
    let lines = keeps.undone fits.undone in
    let begun = keeps.begun in
    let many = ap length before in
    let size_a = length-append d.finished (d.current ∷ []) in
    let size_b = length-append d.finished ((d.current ++ op ∷ []) ∷ []) in
    let many' = ap length behind in
    let tail : behind_autos next ≡ behind_autos d ++ Operate op ∷ [] =
    last_of (client_statements each 0 (closed d)) (client_statements each 0 (closed next)) (ending d.is_done) (ending next.is_done) (Operate op) (ap ending fits.undone) (ap ending fits.undone)
    (ap (client_statements each 0) behind ∙ clients_operated each 0 d.finished d.current op ∙ ap (λ cs. client_statements each 0 cs ++ Operate op ∷ []) (sym before)) in
    record {
      keeps = record {
        short = keeps.short;
        least = keeps.least;
        most = keeps.most;
        undeclared = λ below. absurd (omega (arith, below, head));
        rules = keeps.rules;
        autos = keeps.autos;
        bare = λ z. absurd (omega (arith, z, some));
        begun = many' ∙ size_b ∙ sym size_a ∙ sym many ∙ begun;
        within = keeps.within;
        finished = keeps.finished;
        words = all_push (IsOperation (version_in d) (settings_in d)) d.current op keeps.words fits.is;
        bracketed = λ rest b. subst (AreBracketed false) (sym (append_assoc d.current (op ∷ []) rest)) (keeps.bracketed (op ∷ rest) (fits.leads rest b));
        pieces = (let all = client_more (size_in d) d.current op in let sum = keeps.pieces in omega (arith, all, sum));
        few = fits.few;
        ended = λ z. absurd (let undone = fits.undone in cc);
        undone = λ z. omega (arith, lines, once);
        lines = omega (arith, lines, once, head);
      };
      said = deeper (puts 0 d.head) (behind_head d) (behind_head next) (Operate op) (deeper (map Declare d.rules) (behind_rules d) (behind_rules next) (Operate op)
          (deeper (auto_statements 0 d.autos) (behind_autos d) (behind_autos next) (Operate op) tail));
    }

behind_start : (d : Draft) → (nat_lt 0 d.started && not d.is_done) ≡ true → (0 < d.started) × (d.is_done ≡ false)
behind_start d e = let p = and_parts (nat_lt 0 d.started) (not d.is_done) e in (ltb-true 0 d.started p.0, not-true d.is_done p.1)

few_enough : (d : Draft) (op : Operation) → nat_lt MAX_OPERATIONS (d.pieces + operation_pieces (size_in d) op) ≡ false → d.pieces + operation_pieces (size_in d) op ≤ MAX_OPERATIONS
few_enough d op e = ltb-false MAX_OPERATIONS (d.pieces + operation_pieces (size_in d) op) e

fits : (d : Draft) (op : Operation) → Form (version_in d) (Operate op) → Allowed (past_of d) (Operate op) → Fits d op
fits d (Begin t) form a =
    let s = behind_start d a.stands in
    record { started = s.0; undone = s.1; is = form; leads = λ rest b. (a.opens, b); few = few_enough d (Begin t) a.few; once = omega arith }
fits d (Point m bytes) form a =
    let s = behind_start d a.stands in
    record {
      started = s.0;
      undone = s.1;
      is = (form.0, ltb-false MAX_PAYLOAD (length bytes) a.range, form.1);
      leads = λ rest b. (not-false d.is_open a.trace, b);
      few = few_enough d (Point m bytes) a.few;
      once = omega arith;
    }
fits d (Crumb node) form a =
    let s = behind_start d a.stands in
    record {
      started = s.0;
      undone = s.1;
      is = nat_le_past (setting_in d.head settings.Nodes) node.0 a.range;
      leads = λ rest b. (not-false d.is_open a.trace, b);
      few = few_enough d (Crumb node) a.few;
      once = omega arith;
    }
fits d End form a =
    let s = behind_start d a.stands in
    record { started = s.0; undone = s.1; is = tt; leads = λ rest b. (not-false d.is_open a.trace, b); few = few_enough d End a.few; once = omega arith }
fits d (Fire t) form a =
    let s = behind_start d a.stands in
    record {
      started = s.0;
      undone = s.1;
      is = (form.0, not-false (is_declared d.rules t.trigger) a.known, form.2, form.3, form.4);
      leads = λ rest b. b;
      few = few_enough d (Fire t) a.few;
      once = omega arith;
    }
fits d (Sample m auto v) form a =
    let s = behind_start d a.stands in
    record {
      started = s.0;
      undone = s.1;
      is = (form.0, nat_le_past (length d.autos) auto a.known, form.1.1.0);
      leads = λ rest b. (not-false d.is_open a.trace, b);
      few = few_enough d (Sample m auto v) a.few;
      once = omega arith;
    }

finish_kept : (d : Draft) → Keeps d → Allowed (past_of d) Finish → Kept d (after d Finish) Finish
finish_kept d keeps a =
    let next : Draft = after d Finish in
    let nodes : ℕ = setting_in d.head settings.Nodes in
    let each : ℕ = setting_in d.head settings.Clients in
    let p = and_parts (nat_lt 0 d.started && nat_le (nodes * each) d.started) (not d.is_done) a.stands in
    let q = and_parts (nat_lt 0 d.started) (nat_le (nodes * each) d.started) p.0 in
    let some : 0 < d.started = ltb-true 0 d.started q.0 in
    let all : nodes * each ≤ d.started = leb-true (nodes * each) d.started q.1 in
    let undone : d.is_done ≡ false = not-true d.is_done p.1 in
    let head = headed d keeps some in
    let lines = keeps.undone undone in
    let ended : ending true ≡ ending d.is_done ++ Finish ∷ [] = ap (λ (b : Bool). ending b ++ Finish ∷ []) (sym undone) in
    record {
      keeps = record {
        short = keeps.short;
        least = keeps.least;
        most = keeps.most;
        undeclared = λ below. absurd (omega (arith, below, head));
        rules = keeps.rules;
        autos = keeps.autos;
        bare = λ z. absurd (omega (arith, z, some));
        begun = keeps.begun;
        within = keeps.within;
        finished = keeps.finished;
        words = keeps.words;
        bracketed = keeps.bracketed;
        pieces = keeps.pieces;
        few = keeps.few;
        ended = λ z. (a.left, all, some);
        undone = λ z. absurd cc;
        lines = omega (arith, lines, head);
      };
      said = deeper (puts 0 d.head) (behind_head d) (behind_head next) Finish (deeper (map Declare d.rules) (behind_rules d) (behind_rules next) Finish
          (deeper (auto_statements 0 d.autos) (behind_autos d) (behind_autos next) Finish (deeper (client_statements each 0 (closed d)) (ending d.is_done) (ending true) Finish ended)));
    }

pub statement_kept : (d : Draft) (s : Statement) → Keeps d → Form (version_in d) s → Allowed (past_of d) s → Kept d (after d s) s
statement_kept d (Put s n) keeps form a = put_kept d s n keeps a
statement_kept d (Declare rule) keeps form a = rule_kept d rule keeps a
statement_kept d (Watch number rule) keeps form a = auto_kept d number rule keeps a
statement_kept d (Start v n) keeps form a = start_kept d v n keeps a
statement_kept d (Operate op) keeps form a = operation_kept d op keeps (fits d op form a)
statement_kept d Finish keeps form a = finish_kept d keeps a
