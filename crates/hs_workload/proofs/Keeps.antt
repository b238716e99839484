-- What is read so far says the lines so far, and stays within the limits of workloads.
use Rattle.std.proofs.Common.{◌≡◌, ℕ, zero, suc, ◌+◌, ◌*◌, ◌/◌, ◌%◌, ◌<◌, ◌≤◌, Bool, true, false, nat_lt, List, [], ◌∷◌, ◌++◌, length, map, get_or, refl, sym, ap, ◌∙◌, append_assoc, append-nil, arith}
use Rattle.hs_workload.proofs.Prelude.{AllByRecursion, get_or-eq_default, ltb-false, map_push, ltb-true, mul-le-mul, MAX_NODES, MAX_CLIENTS, MAX_OPERATIONS, MAX_TRIGGER, TriggerRule, AutoRule, AreRules, AreAutoRules, Operation, PlainSettings, AreBracketed, Setting, setting_place, setting_in, least, most, Statement, Put, Declare, Watch, Start, Operate, Finish, auto_statements, client_statements, IsOperation, IsClient, client_pieces, workload_pieces, Draft, fresh, closed, workload_drafted, IsSound}
use Rattle.hs_records.specs.declared.setting.Setting.TheVariants as settings

-- ---- the statements of a draft

unfoldable pub setting_at : ℕ → Setting
setting_at zero = settings.Version
setting_at (suc zero) = settings.Nodes
setting_at (suc (suc zero)) = settings.Clients
setting_at (suc (suc (suc zero))) = settings.Buffers
setting_at (suc (suc (suc (suc zero)))) = settings.Size
setting_at (suc (suc (suc (suc (suc zero))))) = settings.Threshold
setting_at (suc (suc (suc (suc (suc (suc zero)))))) = settings.Traces
setting_at (suc (suc (suc (suc (suc (suc (suc zero))))))) = settings.Pins
setting_at (suc (suc (suc (suc (suc (suc (suc (suc n)))))))) = settings.Stride

pub setting_again : (s : Setting) → setting_at (setting_place s) ≡ s
unfolding setting_at
setting_again settings.Version = refl
setting_again settings.Nodes = refl
setting_again settings.Clients = refl
setting_again settings.Buffers = refl
setting_again settings.Size = refl
setting_again settings.Threshold = refl
setting_again settings.Traces = refl
setting_again settings.Pins = refl
setting_again settings.Stride = refl

pub nine_places : (s : Setting) → setting_place s < 9
nine_places settings.Version = omega arith
nine_places settings.Nodes = omega arith
nine_places settings.Clients = omega arith
nine_places settings.Buffers = omega arith
nine_places settings.Size = omega arith
nine_places settings.Threshold = omega arith
nine_places settings.Traces = omega arith
nine_places settings.Pins = omega arith
nine_places settings.Stride = omega arith

-- the settings from a place on
abbrev pub puts : ℕ → List ℕ → List Statement
puts place [] = []
puts place (n ∷ ns) = Put (setting_at place) n ∷ puts (suc place) ns

abbrev pub ending : Bool → List Statement
ending true = Finish ∷ []
ending false = []

abbrev pub behind_autos : Draft → List Statement
behind_autos d = client_statements (setting_in d.head settings.Clients) 0 (closed d) ++ ending d.is_done

abbrev pub behind_rules : Draft → List Statement
behind_rules d = auto_statements 0 d.autos ++ behind_autos d

abbrev pub behind_head : Draft → List Statement
behind_head d = map Declare d.rules ++ behind_rules d

-- what the lines so far say
abbrev pub draft_statements : Draft → List Statement
draft_statements d = puts 0 d.head ++ behind_head d

-- ---- one statement more

pub last_of : (A A' rest rest' : List Statement) (s : Statement) → rest ≡ [] → rest' ≡ [] → A' ≡ A ++ s ∷ [] → A' ++ rest' ≡ (A ++ rest) ++ s ∷ []
last_of A A' rest rest' s none none' is = rw (none, none', is) (append-nil (A ++ s ∷ []) ∙ ap (λ x. x ++ s ∷ []) (sym (append-nil A)))

pub deeper : (A B B' : List Statement) (s : Statement) → B' ≡ B ++ s ∷ [] → A ++ B' ≡ (A ++ B) ++ s ∷ []
deeper A B B' s is = ap (λ b. A ++ b) is ∙ sym (append_assoc A B (s ∷ []))

pub puts_more : (place : ℕ) (ns : List ℕ) (n : ℕ) (s : Setting) → place + length ns ≡ setting_place s → puts place (ns ++ n ∷ []) ≡ puts place ns ++ Put s n ∷ []
puts_more place [] n s at =
    let here : place ≡ setting_place s = omega (arith, at) in
    ap (λ (x : Setting). Put x n ∷ []) (ap setting_at here ∙ setting_again s)
puts_more place (m ∷ ns) n s at = ap (λ rest. Put (setting_at place) m ∷ rest) (puts_more (suc place) ns n s (omega (arith, at)))

pub autos_more : (number : ℕ) (rules : List AutoRule) (rule : AutoRule) → auto_statements number (rules ++ rule ∷ []) ≡ auto_statements number rules ++ Watch (number + length rules) rule ∷ []
autos_more number [] rule = ap (λ (n : ℕ). Watch n rule ∷ []) (omega arith)
autos_more number (r ∷ rules) rule =
    let same : number + 1 + length rules ≡ number + length (r ∷ rules) = omega arith in
    ap (λ rest. Watch number r ∷ rest) (autos_more (number + 1) rules rule ∙ ap (λ (n : ℕ). auto_statements (number + 1) rules ++ Watch n rule ∷ []) same)

pub clients_more : (each client : ℕ) (xs : List (List Operation))
    → client_statements each client (xs ++ [] ∷ []) ≡ client_statements each client xs ++ Start ((client + length xs) / each) ((client + length xs) % each) ∷ []
clients_more each client [] = ap (λ (n : ℕ). Start (n / each) (n % each) ∷ []) (omega arith)
clients_more each client (x ∷ xs) =
    let same : client + 1 + length xs ≡ client + length (x ∷ xs) = omega arith in
    let k : ℕ = client + length (x ∷ xs) in
    let last : List Statement = Start (k / each) (k % each) ∷ [] in
    ap (λ rest. Start (client / each) (client % each) ∷ (map Operate x ++ rest))
    (clients_more each (client + 1) xs ∙ ap (λ (n : ℕ). client_statements each (client + 1) xs ++ Start (n / each) (n % each) ∷ []) same)
    ∙ ap (λ rest. Start (client / each) (client % each) ∷ rest) (sym (append_assoc (map Operate x) (client_statements each (client + 1) xs) last))

pub clients_operated : (each client : ℕ) (xs : List (List Operation)) (current : List Operation) (op : Operation)
    → client_statements each client (xs ++ (current ++ op ∷ []) ∷ []) ≡ client_statements each client (xs ++ current ∷ []) ++ Operate op ∷ []
clients_operated each client [] current op =
    ap (λ rest. Start (client / each) (client % each) ∷ rest)
    (append-nil (map Operate (current ++ op ∷ [])) ∙ map_push Operate current op ∙ ap (λ rest. rest ++ Operate op ∷ []) (sym (append-nil (map Operate current))))
clients_operated each client (x ∷ xs) current op =
    ap (λ rest. Start (client / each) (client % each) ∷ (map Operate x ++ rest)) (clients_operated each (client + 1) xs current op)
    ∙ ap (λ rest. Start (client / each) (client % each) ∷ rest) (sym (append_assoc (map Operate x) (client_statements each (client + 1) (xs ++ current ∷ [])) (Operate op ∷ [])))

-- ---- lists with one item more

pub workload_more : (size : ℕ) (clients : List (List Operation)) (ops : List Operation) → workload_pieces size (clients ++ ops ∷ []) ≡ workload_pieces size clients + client_pieces size ops
workload_more size [] ops = omega arith
workload_more size (c ∷ clients) ops = omega (arith, workload_more size clients ops)

-- ---- what holds of a draft

-- operations that lead from a bracket to another: what may follow the other may follow them
abbrev pub Leads : Bool → List Operation → Bool → Type 0
Leads before ops behind = (rest : List Operation) → AreBracketed behind rest → AreBracketed before (ops ++ rest)

abbrev pub version_in : Draft → ℕ
version_in d = setting_in d.head settings.Version

abbrev pub settings_in : Draft → PlainSettings
settings_in d = (workload_drafted d).settings

abbrev pub size_in : Draft → ℕ
size_in d = setting_in d.head settings.Size

-- no client has begun
pub record IsBare (d : Draft) : Type 0 where
  pub finished : d.finished ≡ []
  pub current : d.current ≡ []
  pub shut : d.is_open ≡ false
  pub none : d.pieces ≡ 0
  pub undone : d.is_done ≡ false

pub record Keeps (d : Draft) : Type 0 where
  pub short : length d.head ≤ 9
  pub least : (setting : Setting) → setting_place setting < length d.head → least setting ≤ setting_in d.head setting
  pub most : (setting : Setting) → setting_in d.head setting ≤ most setting
  pub undeclared : length d.head < 9 → (d.rules ≡ []) × (d.autos ≡ []) × (d.started ≡ 0)
  pub rules : AreRules d.rules
  pub autos : AreAutoRules d.rules d.autos
  pub bare : d.started ≡ 0 → IsBare d
  pub begun : length (closed d) ≡ d.started
  pub within : d.started ≤ setting_in d.head settings.Nodes * setting_in d.head settings.Clients
  pub finished : AllByRecursion (IsClient (version_in d) (settings_in d)) d.finished
  pub words : AllByRecursion (IsOperation (version_in d) (settings_in d)) d.current
  pub bracketed : Leads false d.current d.is_open
  pub pieces : d.pieces ≡ workload_pieces (size_in d) d.finished + client_pieces (size_in d) d.current
  pub few : d.pieces ≤ MAX_OPERATIONS
  pub ended : d.is_done ≡ true → (d.is_open ≡ false) × (setting_in d.head settings.Nodes * setting_in d.head settings.Clients ≤ d.started) × (0 < d.started)
  pub undone : d.is_done ≡ false → d.lines ≤ length d.head + length d.rules + length d.autos + d.started + d.pieces
  pub lines : d.lines ≤ 10 + length d.rules + length d.autos + d.started + d.pieces

-- the next draft keeps all that, and says one thing more
pub record Kept (d next : Draft) (s : Statement) : Type 0 where
  pub keeps : Keeps next
  pub said : draft_statements next ≡ draft_statements d ++ s ∷ []

no_rules : AreRules []
no_rules = record { rising = λ i j d below within. absurd (omega (arith, within)); each = λ k d within. absurd (omega (arith, within)) }

pub no_autos : (rules : List TriggerRule) → AreAutoRules rules []
no_autos rules = record { few = omega arith; each = λ k d within. absurd (omega (arith, within)); declared = λ k d within. absurd (omega (arith, within)) }

unset : (setting : Setting) → setting_in [] setting ≡ 0
unset setting = get_or-eq_default [] 0 {n = setting_place setting} (omega arith)

pub keeps_fresh : Keeps fresh
keeps_fresh =
    record {
      short = omega arith;
      least = λ setting below. absurd (omega (arith, below));
      most = λ setting. omega (arith, unset setting);
      undeclared = λ _. (refl, refl, refl);
      rules = no_rules;
      autos = no_autos [];
      bare = λ _. record { finished = refl; current = refl; shut = refl; none = refl; undone = refl };
      begun = refl;
      within = omega arith;
      finished = tt;
      words = tt;
      bracketed = λ rest b. b;
      pieces = refl;
      few = omega arith;
      ended = λ z. cc;
      undone = λ z. omega arith;
      lines = omega arith;
    }

-- ids that rise from 1 on are at least as many as they count
rising_id : (rules : List TriggerRule) → AreRules rules → (d : TriggerRule) (i : ℕ) → i < length rules → i + 1 ≤ (get_or rules i d).id.0
rising_id rules are d zero below = let first = are.each zero d below in omega (arith, first.id.0)
rising_id rules are d (suc i) below =
    let before = rising_id rules are d i (omega (arith, below)) in
    let next = are.rising i (suc i) d (omega arith) below in
    omega (arith, before, next)

few_rules : (rules : List TriggerRule) → AreRules rules → length rules ≤ MAX_TRIGGER
few_rules [] are = omega arith
few_rules (rule ∷ rules) are =
    let below : length rules < length (rule ∷ rules) = omega arith in
    let last = rising_id (rule ∷ rules) are rule (length rules) below in
    let each = are.each (length rules) rule below in
    omega (arith, last, each.id.1)

pub product_small : (a b k : ℕ) → a ≤ MAX_NODES → b ≤ MAX_CLIENTS → k ≤ a * b → k ≤ MAX_NODES * MAX_CLIENTS
product_small a b k p q r = let most = mul-le-mul p q in omega (arith, most, r)

pub headed : (d : Draft) → Keeps d → 0 < d.started → length d.head ≡ 9
headed d keeps some = at_nine (nat_lt (length d.head) 9) refl
  where
    at_nine : (b : Bool) → nat_lt (length d.head) 9 ≡ b → length d.head ≡ 9
    at_nine true is = let none = keeps.undeclared (ltb-true (length d.head) 9 is) in absurd (omega (arith, none.2, some))
    at_nine false is = omega (arith, keeps.short, ltb-false (length d.head) 9 is)

pub sound : (d : Draft) → Keeps d → IsSound d
sound d keeps =
    record {
      short = keeps.short;
      least = keeps.least;
      most = keeps.most;
      rules = few_rules d.rules keeps.rules;
      autos = keeps.autos.few;
      started = product_small (setting_in d.head settings.Nodes) (setting_in d.head settings.Clients) d.started (keeps.most settings.Nodes) (keeps.most settings.Clients) keeps.within;
      pieces = keeps.few;
      body = headed d keeps;
      undone = keeps.undone;
      lines = keeps.lines;
    }
