-- The text of what is said, a line after the other.
use Rattle.std.proofs.Common.{◌≡◌, ℕ, ◌+◌, ◌*◌, ◌≤◌, List, [], ◌∷◌, ◌++◌, length, map, drop, refl, sym, ap, ◌∙◌, append_assoc, arith}
use Rattle.hs_workload.proofs.Prelude.{MAX_NODES, MAX_CLIENTS, TriggerRule, AutoRule, PlainWorkload, Statement, Declare, Watch, Finish, statement_line, IsValid, head_statements, auto_statements, client_statements, statements_text}
use Rattle.std.proofs.lemmas.List.{append-nil, drop_all}
use Rattle.hs_records.specs.declared.setting.Setting.TheVariants as settings
use Rattle.hs_workload.proofs.Keeps.{product_small}
use Rattle.hs_workload.specs.Grammar.{workload_text}

pub statements_text-append : (version : ℕ) (ss ts : List Statement) → statements_text version (ss ++ ts) ≡ statements_text version ss ++ statements_text version ts
statements_text-append version [] ts = refl
statements_text-append version (s ∷ ss) ts =
    let line : List ℕ = statement_line version s ++ 10 ∷ [] in
    ap (λ text. line ++ text) (statements_text-append version ss ts) ∙ sym (append_assoc line (statements_text version ss) (statements_text version ts))

-- nothing is left
pub no_line : {A : Type 0} (version : ℕ) (f : List A → List Statement) (out whole : List ℕ) (items : List A) (i : ℕ) → f [] ≡ [] → length items ≤ i
    → out ++ statements_text version (f (drop i items)) ≡ whole → out ≡ whole
no_line version f out whole items i none past so_far =
    sym (append-nil out) ∙ ap (λ t. out ++ t) (sym (ap (statements_text version) none) ∙ ap (λ rest. statements_text version (f rest)) (sym (drop_all i items past))) ∙ so_far

-- one more line of those that are left, with the lines that go with it
pub next_lines : (version : ℕ) (first : Statement) (these more : List Statement) (out text new whole : List ℕ)
    → out ++ statements_text version (first ∷ (these ++ more)) ≡ whole → text ≡ out ++ (statement_line version first ++ 10 ∷ []) → new ≡ text ++ statements_text version these
    → new ++ statements_text version more ≡ whole
next_lines version first these more out text new whole so_far begun is =
    let line = statement_line version first ++ 10 ∷ [] in
    ap (λ t. t ++ statements_text version more) (is ∙ ap (λ t. t ++ statements_text version these) begun)
    ∙ append_assoc (out ++ line) (statements_text version these) (statements_text version more)
    ∙ append_assoc out line (statements_text version these ++ statements_text version more)
    ∙ ap (λ t. out ++ (line ++ t)) (sym (statements_text-append version these more))
    ∙ so_far

pub next_line : (version : ℕ) (first : Statement) (more : List Statement) (out new whole : List ℕ) → out ++ statements_text version (first ∷ more) ≡ whole
    → new ≡ out ++ (statement_line version first ++ 10 ∷ []) → new ++ statements_text version more ≡ whole
next_line version first more out new whole so_far is = next_lines version first [] more out new new whole so_far is (sym (append-nil new))

-- ---- declarations are the same in each version

rules_alike : (version : ℕ) (rules : List TriggerRule) → statements_text 1 (map Declare rules) ≡ statements_text version (map Declare rules)
rules_alike version [] = refl
rules_alike version (rule ∷ rules) = ap (λ text. (statement_line version (Declare rule) ++ 10 ∷ []) ++ text) (rules_alike version rules)

autos_alike : (version number : ℕ) (autos : List AutoRule) → statements_text 1 (auto_statements number autos) ≡ statements_text version (auto_statements number autos)
autos_alike version number [] = refl
autos_alike version number (rule ∷ autos) = ap (λ text. (statement_line version (Watch number rule) ++ 10 ∷ []) ++ text) (autos_alike version (number + 1) autos)

-- ---- the parts of a workload, one behind the other

regroup : (h r a c e : List ℕ) → (((h ++ r) ++ a) ++ c) ++ e ≡ h ++ (r ++ (a ++ (c ++ e)))
regroup h r a c e = simp append_assoc

pub written : (W : PlainWorkload) (a b d e f g : List ℕ) → a ≡ [] → b ≡ a ++ statements_text W.version (head_statements W)
    → d ≡ b ++ statements_text 1 (map Declare W.settings.triggers) → e ≡ d ++ statements_text 1 (auto_statements 0 W.settings.autos)
    → f ≡ e ++ statements_text W.version (client_statements W.settings.clients 0 W.clients) → g ≡ f ++ (statement_line W.version Finish ++ 10 ∷ []) → g ≡ workload_text W
written W a b d e f g a_is b_is d_is e_is f_is g_is =
    let v : ℕ = W.version in
    let H : List Statement = head_statements W in
    let R : List Statement = map Declare W.settings.triggers in
    let A : List Statement = auto_statements 0 W.settings.autos in
    let C : List Statement = client_statements W.settings.clients 0 W.clients in
    let last : List ℕ = statement_line v Finish ++ 10 ∷ [] in
    let from_clients : statements_text v (C ++ Finish ∷ []) ≡ statements_text v C ++ last = statements_text-append v C (Finish ∷ []) ∙ ap (λ t. statements_text v C ++ t) (append-nil last) in
    let from_autos : statements_text v (A ++ (C ++ Finish ∷ [])) ≡ statements_text v A ++ (statements_text v C ++ last) =
    statements_text-append v A (C ++ Finish ∷ []) ∙ ap (λ t. statements_text v A ++ t) from_clients in
    let from_rules : statements_text v (R ++ (A ++ (C ++ Finish ∷ []))) ≡ statements_text v R ++ (statements_text v A ++ (statements_text v C ++ last)) =
    statements_text-append v R (A ++ (C ++ Finish ∷ [])) ∙ ap (λ t. statements_text v R ++ t) from_autos in
    let from_head : workload_text W ≡ statements_text v H ++ (statements_text v R ++ (statements_text v A ++ (statements_text v C ++ last))) =
    statements_text-append v H (R ++ (A ++ (C ++ Finish ∷ []))) ∙ ap (λ t. statements_text v H ++ t) from_rules in
    let rules : d ≡ b ++ statements_text v R = d_is ∙ ap (λ t. b ++ t) (rules_alike v W.settings.triggers) in
    let autos : e ≡ d ++ statements_text v A = e_is ∙ ap (λ t. d ++ t) (autos_alike v 0 W.settings.autos) in
    let text : g ≡ (((statements_text v H ++ statements_text v R) ++ statements_text v A) ++ statements_text v C) ++ last =
    g_is ∙ ap (λ t. t ++ last) (f_is ∙ ap (λ t. t ++ statements_text v C) (autos ∙ ap (λ t. t ++ statements_text v A) (rules ∙ ap (λ t. t ++ statements_text v R)
    (b_is ∙ ap (λ t. t ++ statements_text v H) a_is)))) in
    text ∙ regroup (statements_text v H) (statements_text v R) (statements_text v A) (statements_text v C) last ∙ sym from_head

-- a valid workload has few clients
pub few_clients : (W : PlainWorkload) → IsValid W → length W.clients ≤ MAX_NODES * MAX_CLIENTS
few_clients W v =
    let count = v.count in
    product_small W.settings.nodes W.settings.clients (length W.clients) (v.head settings.Nodes).1 (v.head settings.Clients).1 (omega (arith, count))
