-- The statements of a valid workload are allowed, each after those before it, and lead to that workload.
use Rattle.std.proofs.Common.{◌≡◌, ℕ, ◌+◌, ◌*◌, ◌/◌, ◌%◌, ◌<◌, ◌≤◌, Bool, true, false, not, cond, nat_eq, nat_lt, nat_le, ◌&&◌, List, [], ◌∷◌, ◌++◌, length, map, refl, sym, ap, subst, ◌∙◌, append_assoc, append-nil, arith, eq-eqb, lt-ltb, le-leb}
use Rattle.hs_workload.proofs.Prelude.{AllByRecursion, le-ltb, or_from, and_from, ne_eqb, mul-le-mul, nat_le_false, MAX_NODES, MAX_CLIENTS, MAX_AUTOS, MAX_PAYLOAD, MAX_OPERATIONS, AreRules, AreBracketed, Operation, Begin, Point, Crumb, End, Fire, Sample, PlainWorkload, setting_in, Statement, Declare, Start, Operate, Finish, statement_line, head_statements, auto_statements, client_statements, workload_statements, IsOperation, IsClient, client_pieces, workload_pieces, IsValid, operation_pieces, Draft, fresh, past_of, open_after, after, closed, workload_drafted}
use Rattle.std.proofs.Math.Nat.{div-le_self, mod-le}
use Rattle.hs_records.specs.declared.setting.Setting.TheVariants as settings
use Rattle.hs_workload.proofs.Spelled.{Form}
use Rattle.hs_workload.proofs.Clear.{Allowed}
use Rattle.hs_workload.proofs.Keeps.{version_in, settings_in, size_in}
use Rattle.hs_workload.proofs.Runs.{after_all, AllowedFrom, after_all-append, allowed_join, declared_small, headed, head_allowed, with_rules, after_rules, rules_allowed, with_autos, after_autos, autos_allowed}

-- ---- the operations of a client

abbrev opened : Bool → List Operation → Bool
opened is_open [] = is_open
opened is_open (op ∷ ops) = opened (open_after is_open op) ops

abbrev operated : Draft → List Operation → Draft
operated d ops =
    record d {
      lines = d.lines + length ops;
      current = d.current ++ ops;
      pieces = d.pieces + client_pieces (size_in d) ops;
      is_open = opened d.is_open ops;
    }

after_operations : (d : Draft) (ops : List Operation) → after_all d (map Operate ops) ≡ operated d ops
after_operations d [] =
    let current = append-nil d.current in
    let lines : d.lines ≡ d.lines + 0 = omega arith in
    let pieces : d.pieces ≡ d.pieces + 0 = omega arith in
    λ i. record d { lines = lines i; current = sym current i; pieces = pieces i }
after_operations d (op ∷ ops) =
    let next : Draft = after d (Operate op) in
    let lines : d.lines + 1 + length ops ≡ d.lines + length (op ∷ ops) = omega arith in
    let current : (d.current ++ op ∷ []) ++ ops ≡ d.current ++ op ∷ ops = append_assoc d.current (op ∷ []) ops in
    let pieces : next.pieces + client_pieces (size_in d) ops ≡ d.pieces + client_pieces (size_in d) (op ∷ ops) = omega arith in
    after_operations next ops ∙ (λ i. record d { lines = lines i; current = current i; pieces = pieces i; is_open = opened d.is_open (op ∷ ops) })

bracketed_behind : (is_open : Bool) (op : Operation) (ops : List Operation) → AreBracketed is_open (op ∷ ops) → AreBracketed (open_after is_open op) ops
bracketed_behind is_open (Begin t) ops b = b.1
bracketed_behind is_open (Point m bytes) ops b = b.1
bracketed_behind is_open (Crumb node) ops b = b.1
bracketed_behind is_open End ops b = b.1
bracketed_behind is_open (Fire t) ops b = b
bracketed_behind is_open (Sample m a v) ops b = b.1

-- a client leaves no trace open
opened_shut : (is_open : Bool) (ops : List Operation) → AreBracketed is_open ops → opened is_open ops ≡ false
opened_shut is_open [] b = b
opened_shut is_open (op ∷ ops) b = opened_shut (open_after is_open op) ops (bracketed_behind is_open op ops b)

-- a draft behind which operations may stand
record Operates (d : Draft) : Type 0 where
  started : 0 < d.started
  undone : d.is_done ≡ false
  nodes : setting_in d.head settings.Nodes ≤ MAX_NODES
  autos : length d.autos ≤ MAX_AUTOS
  rules : AreRules d.rules

stood : (d : Draft) → Operates d → (nat_lt 0 d.started && not d.is_done) ≡ true
stood d w = and_from (nat_lt 0 d.started) (not d.is_done) (lt-ltb 0 d.started w.started) (ap not w.undone)

operation_form : (d : Draft) (op : Operation) → Operates d → IsOperation (version_in d) (settings_in d) op → Form (version_in d) (Operate op)
operation_form d (Begin t) w is = is
operation_form d (Point m bytes) w is = (is.0, is.2)
operation_form d (Crumb node) w is =
    let most = w.nodes in
    (omega (arith, is, most), tt)
operation_form d End w is = tt
operation_form d (Fire t) w is = (is.0, declared_small d.rules t.trigger.0 w.rules is.1, is.2, is.3, is.4)
operation_form d (Sample m a v) w is =
    let few = w.autos in
    let below = is.1 in
    (is.0, (omega (arith, below, few), (is.2, tt)))

operation_allowed : (d : Draft) (op : Operation) (ops : List Operation) → Operates d → IsOperation (version_in d) (settings_in d) op → AreBracketed d.is_open (op ∷ ops)
    → d.pieces + operation_pieces (size_in d) op ≤ MAX_OPERATIONS → Allowed (past_of d) (Operate op)
operation_allowed d (Begin t) ops w is b few =
    record { stands = stood d w; range = refl; order = refl; known = refl; opens = b.0; trace = refl; left = refl; few = le-ltb MAX_OPERATIONS (d.pieces + 1) few }
operation_allowed d (Point m bytes) ops w is b few =
    record {
      stands = stood d w;
      range = le-ltb MAX_PAYLOAD (length bytes) is.1;
      order = refl;
      known = refl;
      opens = refl;
      trace = ap not b.0;
      left = refl;
      few = le-ltb MAX_OPERATIONS (d.pieces + operation_pieces (size_in d) (Point m bytes)) few;
    }
operation_allowed d (Crumb node) ops w is b few =
    record {
      stands = stood d w;
      range = nat_le_false (setting_in d.head settings.Nodes) node.0 is;
      order = refl;
      known = refl;
      opens = refl;
      trace = ap not b.0;
      left = refl;
      few = le-ltb MAX_OPERATIONS (d.pieces + 1) few;
    }
operation_allowed d End ops w is b few =
    record { stands = stood d w; range = refl; order = refl; known = refl; opens = refl; trace = ap not b.0; left = refl; few = le-ltb MAX_OPERATIONS (d.pieces + 1) few }
operation_allowed d (Fire t) ops w is b few =
    record { stands = stood d w; range = refl; order = refl; known = ap not is.1; opens = refl; trace = refl; left = refl; few = le-ltb MAX_OPERATIONS (d.pieces + 1) few }
operation_allowed d (Sample m a v) ops w is b few =
    record {
      stands = stood d w;
      range = refl;
      order = refl;
      known = nat_le_false (length d.autos) a is.1;
      opens = refl;
      trace = ap not b.0;
      left = refl;
      few = le-ltb MAX_OPERATIONS (d.pieces + 1) few;
    }

operations_allowed : (version : ℕ) (d : Draft) (ops : List Operation) (tail : List Statement) → version_in d ≡ version → Operates d → AllByRecursion (IsOperation (version_in d) (settings_in d)) ops
    → AreBracketed d.is_open ops → d.pieces + client_pieces (size_in d) ops ≤ MAX_OPERATIONS → AllowedFrom version (after_all d (map Operate ops)) tail → AllowedFrom version d (map Operate ops ++ tail)
operations_allowed version d [] tail same w words b few rest = rest
operations_allowed version d (op ∷ ops) tail same w words b few rest = (
  ap (λ (v : ℕ). statement_line v (Operate op)) (sym same),
  operation_form d op w words.0,
  operation_allowed d op ops w words.0 b (omega (arith, few)),
  operations_allowed version (after d (Operate op)) ops tail same
      (record { started = w.started; undone = w.undone; nodes = w.nodes; autos = w.autos; rules = w.rules }) words.1 (bracketed_behind d.is_open op ops b) (omega (arith, few)) rest,
)

-- ---- the clients and the end

-- a draft behind which these clients and the end may stand
record Awaits (d : Draft) (clients : List (List Operation)) : Type 0 where
  head : length d.head ≡ 9
  undone : d.is_done ≡ false
  shut : d.is_open ≡ false
  some : 0 < d.started + length clients
  all : d.started + length clients ≡ setting_in d.head settings.Nodes * setting_in d.head settings.Clients
  small : d.started + length clients ≤ MAX_NODES * MAX_CLIENTS
  nodes : setting_in d.head settings.Nodes ≤ MAX_NODES
  autos : length d.autos ≤ MAX_AUTOS
  rules : AreRules d.rules
  each : AllByRecursion (IsClient (version_in d) (settings_in d)) clients
  few : d.pieces + workload_pieces (size_in d) clients ≤ MAX_OPERATIONS

clients_allowed : (version : ℕ) (d : Draft) (clients : List (List Operation)) → version_in d ≡ version → Awaits d clients
    → AllowedFrom version d (client_statements (setting_in d.head settings.Clients) d.started clients ++ Finish ∷ [])
clients_allowed version d [] same w =
    let count : ℕ = setting_in d.head settings.Nodes * setting_in d.head settings.Clients in
    let some = w.some in
    let all = w.all in (
      refl,
      tt,
      record {
        stands = and_from (nat_lt 0 d.started && nat_le count d.started) (not d.is_done)
            (and_from (nat_lt 0 d.started) (nat_le count d.started) (lt-ltb 0 d.started (omega (arith, some))) (le-leb count d.started (omega (arith, all)))) (ap not w.undone);
        range = refl;
        order = refl;
        known = refl;
        opens = refl;
        trace = refl;
        left = w.shut;
        few = refl;
      },
      tt,
    )
clients_allowed version d (ops ∷ clients) same w =
    let each : ℕ = setting_in d.head settings.Clients in
    let count : ℕ = setting_in d.head settings.Nodes * each in
    let v : ℕ = d.started / each in
    let n : ℕ = d.started % each in
    let next : Draft = after d (Start v n) in
    let tail : List Statement = client_statements each (d.started + 1) clients ++ Finish ∷ [] in
    let behind : Draft = operated next ops in
    let client : IsClient (version_in d) (settings_in d) ops = w.each.0 in
    let brackets : AreBracketed d.is_open ops = subst (λ (b : Bool). AreBracketed b ops) (sym w.shut) client.bracketed in
    let all = w.all in
    let small = w.small in
    let few = w.few in
    let more : AllowedFrom version behind tail =
    clients_allowed version behind clients same
    (record {
      head = w.head;
      undone = w.undone;
      shut = opened_shut d.is_open ops brackets;
      some = omega arith;
      all = omega (arith, all);
      small = omega (arith, small);
      nodes = w.nodes;
      autos = w.autos;
      rules = w.rules;
      each = w.each.1;
      few = omega (arith, few);
    }) in
    let operates : Operates next = record { started = omega arith; undone = w.undone; nodes = w.nodes; autos = w.autos; rules = w.rules } in
    let rest : AllowedFrom version next (map Operate ops ++ tail) =
    operations_allowed version next ops tail same operates client.words brackets (omega (arith, few)) (subst (λ (x : Draft). AllowedFrom version x tail) (sym (after_operations next ops)) more) in (
      refl,
      (omega (arith, div-le_self d.started each, small), (omega (arith, mod-le d.started each, small), tt)),
      record {
        stands = and_from (nat_eq (length d.head) 9 && nat_lt d.started count) (not d.is_done)
            (and_from (nat_eq (length d.head) 9) (nat_lt d.started count) (eq-eqb (length d.head) 9 w.head) (lt-ltb d.started count (omega (arith, all)))) (ap not w.undone);
        range = refl;
        order = or_from (not (nat_eq v v)) (not (nat_eq n n)) (ap not (eq-eqb v v refl)) (ap not (eq-eqb n n refl));
        known = refl;
        opens = refl;
        trace = refl;
        left = w.shut;
        few = refl;
      },
      subst (λ (xs : List Statement). AllowedFrom version next xs) (sym (append_assoc (map Operate ops) (client_statements each (d.started + 1) clients) (Finish ∷ []))) rest,
    )

-- ---- whole workloads

-- the drafts behind the trigger ids, and behind the autotriggers
abbrev ruled : PlainWorkload → Draft
ruled W = with_rules (headed W) W.settings.triggers

abbrev body : PlainWorkload → Draft
body W = with_autos (ruled W) W.settings.autos

product_few : (a b k : ℕ) → 1 ≤ a → a ≤ MAX_NODES → 1 ≤ b → b ≤ MAX_CLIENTS → k ≡ a * b → (0 < k) × (k ≤ MAX_NODES * MAX_CLIENTS)
product_few a b k p q r s e = let least = mul-le-mul p r in let most = mul-le-mul q s in (omega (arith, e, least), omega (arith, e, most))

body_awaits : (W : PlainWorkload) → IsValid W → Awaits (body W) W.clients
body_awaits W v =
    let nodes = v.head settings.Nodes in
    let clients = v.head settings.Clients in
    let count = product_few W.settings.nodes W.settings.clients (length W.clients) nodes.0 nodes.1 clients.0 clients.1 v.count in
    let all = v.count in
    let some = count.0 in
    let small = count.1 in
    let few = v.few in
    record {
      head = refl;
      undone = refl;
      shut = refl;
      some = omega (arith, some);
      all = omega (arith, all);
      small = omega (arith, small);
      nodes = nodes.1;
      autos = v.autos.few;
      rules = v.rules;
      each = v.each;
      few = omega (arith, few);
    }

pub allowed : (W : PlainWorkload) → IsValid W → AllowedFrom W.version fresh (workload_statements W)
allowed W v =
    let clients : List Statement = client_statements W.settings.clients 0 W.clients ++ Finish ∷ [] in
    let autos : List Statement = auto_statements 0 W.settings.autos in
    let behind_autos : AllowedFrom W.version (body W) clients = clients_allowed W.version (body W) W.clients refl (body_awaits W v) in
    let behind_rules : AllowedFrom W.version (ruled W) (autos ++ clients) =
    allowed_join W.version (ruled W) autos clients (autos_allowed W.version (ruled W) 0 W.settings.autos refl refl refl refl v.rules v.autos)
    (subst (λ (x : Draft). AllowedFrom W.version x clients) (sym (after_autos (ruled W) 0 W.settings.autos)) behind_autos) in
    let behind_head : AllowedFrom W.version (headed W) (map Declare W.settings.triggers ++ (autos ++ clients)) =
    allowed_join W.version (headed W) (map Declare W.settings.triggers) (autos ++ clients) (rules_allowed W.version (headed W) W.settings.triggers refl refl refl refl v.rules)
    (subst (λ (x : Draft). AllowedFrom W.version x (autos ++ clients)) (sym (after_rules (headed W) W.settings.triggers)) behind_rules) in
    allowed_join W.version fresh (head_statements W) (map Declare W.settings.triggers ++ (autos ++ clients)) (head_allowed W v) behind_head

-- the draft behind the lines of a workload
abbrev pub whole_draft : PlainWorkload → Draft
whole_draft W = after_all fresh (workload_statements W)

ended : (W : PlainWorkload) → whole_draft W ≡ after (after_all (body W) (client_statements W.settings.clients 0 W.clients)) Finish
ended W =
    let clients : List Statement = client_statements W.settings.clients 0 W.clients in
    let autos : List Statement = auto_statements 0 W.settings.autos in
    let rules : List Statement = map Declare W.settings.triggers in
    after_all-append fresh (head_statements W) (rules ++ (autos ++ (clients ++ Finish ∷ []))) ∙ after_all-append (headed W) rules (autos ++ (clients ++ Finish ∷ []))
    ∙ ap (λ (x : Draft). after_all x (autos ++ (clients ++ Finish ∷ []))) (after_rules (headed W) W.settings.triggers) ∙ after_all-append (ruled W) autos (clients ++ Finish ∷ [])
    ∙ ap (λ (x : Draft). after_all x (clients ++ Finish ∷ [])) (after_autos (ruled W) 0 W.settings.autos) ∙ after_all-append (body W) clients (Finish ∷ [])

closed_with : (d : Draft) (ops : List Operation) → cond (nat_eq (d.started + 1) 0) (closed d) (closed d ++ ops ∷ []) ≡ closed d ++ ops ∷ []
closed_with d ops = ap (λ (b : Bool). cond b (closed d) (closed d ++ ops ∷ [])) (ne_eqb (d.started + 1) 0 (λ e. omega arith))

clients_drafted : (d : Draft) (clients : List (List Operation))
    → workload_drafted (after_all d (client_statements (setting_in d.head settings.Clients) d.started clients)) ≡ record (workload_drafted d) { clients = closed d ++ clients }
clients_drafted d [] = ap (λ (cs : List (List Operation)). record (workload_drafted d) { clients = cs }) (sym (append-nil (closed d)))
clients_drafted d (ops ∷ clients) =
    let each : ℕ = setting_in d.head settings.Clients in
    let next : Draft = after d (Start (d.started / each) (d.started % each)) in
    let behind : Draft = operated next ops in
    let tail : List Statement = client_statements each (d.started + 1) clients in
    let runs : after_all next (map Operate ops ++ tail) ≡ after_all behind tail = after_all-append next (map Operate ops) tail ∙ ap (λ (x : Draft). after_all x tail) (after_operations next ops) in
    let both : closed behind ++ clients ≡ closed d ++ ops ∷ clients = ap (λ (cs : List (List Operation)). cs ++ clients) (closed_with d ops) ∙ append_assoc (closed d) (ops ∷ []) clients in
    ap workload_drafted runs ∙ clients_drafted behind clients ∙ ap (λ (cs : List (List Operation)). record (workload_drafted d) { clients = cs }) both

pub drafted : (W : PlainWorkload) → workload_drafted (whole_draft W) ≡ W
drafted W = ap workload_drafted (ended W) ∙ clients_drafted (body W) W.clients

pub done_last : (W : PlainWorkload) → (whole_draft W).is_done ≡ true
done_last W = ap (λ (d : Draft). d.is_done) (ended W)
