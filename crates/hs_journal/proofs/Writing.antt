-- The text of what is said, a line after the other.
use Rattle.std.proofs.Common.{◌≡◌, ℕ, ◌≤◌, List, [], ◌∷◌, ◌++◌, length, drop, refl, sym, ap, ◌∙◌, append_assoc}
use Rattle.std.proofs.lemmas.List.{append-nil, drop_all}
use Rattle.hs_journal.specs.Statements.{Statement, statement_line}
use Rattle.hs_journal.specs.Grammar.{statements_text, head_statement, coordinator_statement, end_statement}

pub statements_text-append : (ss ts : List Statement) → statements_text (ss ++ ts) ≡ statements_text ss ++ statements_text ts
statements_text-append [] ts = refl
statements_text-append (s ∷ ss) ts =
    ap (λ text. (statement_line s ++ 10 ∷ []) ++ text) (statements_text-append ss ts) ∙ sym (append_assoc (statement_line s ++ 10 ∷ []) (statements_text ss) (statements_text ts))

-- nothing is left
pub no_line : {A : Type 0} (f : List A → List Statement) (out whole : List ℕ) (items : List A) (i : ℕ) → f [] ≡ [] → length items ≤ i
    → out ++ statements_text (f (drop i items)) ≡ whole → out ≡ whole
no_line f out whole items i none past so_far =
    sym (append-nil out) ∙ ap (λ t. out ++ t) (sym (ap statements_text none) ∙ ap (λ rest. statements_text (f rest)) (sym (drop_all i items past))) ∙ so_far

-- the lines of one more list of those that are left
pub next_lines : (first : Statement) (these more : List Statement) (out text new whole : List ℕ)
    → out ++ statements_text (first ∷ (these ++ more)) ≡ whole → text ≡ out ++ (statement_line first ++ 10 ∷ []) → new ≡ text ++ statements_text these
    → new ++ statements_text more ≡ whole
next_lines first these more out text new whole so_far begun is =
    let line = statement_line first ++ 10 ∷ [] in
    ap (λ t. t ++ statements_text more) (is ∙ ap (λ t. t ++ statements_text these) begun)
    ∙ append_assoc (out ++ line) (statements_text these) (statements_text more)
    ∙ append_assoc out line (statements_text these ++ statements_text more)
    ∙ ap (λ t. out ++ (line ++ t)) (sym (statements_text-append these more))
    ∙ so_far

regroup : (h d l c t e : List ℕ) → ((((h ++ d) ++ l) ++ c) ++ t) ++ e ≡ h ++ (d ++ (l ++ (c ++ (t ++ e))))
regroup h d l c t e = simp append_assoc

-- the parts of a journal, one behind the other
pub written : (nodes clients : ℕ) (D L T : List Statement) (a b d e f g h : List ℕ) → a ≡ []
    → b ≡ a ++ (statement_line (head_statement nodes clients) ++ 10 ∷ []) → d ≡ b ++ statements_text D → e ≡ d ++ statements_text L
    → f ≡ e ++ (statement_line coordinator_statement ++ 10 ∷ []) → g ≡ f ++ statements_text T → h ≡ g ++ (statement_line end_statement ++ 10 ∷ [])
    → h ≡ statements_text (head_statement nodes clients ∷ (D ++ (L ++ (coordinator_statement ∷ (T ++ end_statement ∷ [])))))
written nodes clients D L T a b d e f g h a_is b_is d_is e_is f_is g_is h_is =
    let head = statement_line (head_statement nodes clients) ++ 10 ∷ [] in
    let middle = statement_line coordinator_statement ++ 10 ∷ [] in
    let last = statement_line end_statement ++ 10 ∷ [] in
    let from_told : statements_text (T ++ end_statement ∷ []) ≡ statements_text T ++ last =
    statements_text-append T (end_statement ∷ []) ∙ ap (λ t. statements_text T ++ t) (append-nil last) in
    let from_middle : statements_text (coordinator_statement ∷ (T ++ end_statement ∷ [])) ≡ middle ++ (statements_text T ++ last) =
    ap (λ t. middle ++ t) from_told in
    let from_logs : statements_text (L ++ (coordinator_statement ∷ (T ++ end_statement ∷ []))) ≡ statements_text L ++ (middle ++ (statements_text T ++ last)) =
    statements_text-append L (coordinator_statement ∷ (T ++ end_statement ∷ [])) ∙ ap (λ t. statements_text L ++ t) from_middle in
    let from_draws : statements_text (D ++ (L ++ (coordinator_statement ∷ (T ++ end_statement ∷ [])))) ≡ statements_text D ++ (statements_text L ++ (middle ++ (statements_text T ++ last))) =
    statements_text-append D (L ++ (coordinator_statement ∷ (T ++ end_statement ∷ []))) ∙ ap (λ t. statements_text D ++ t) from_logs in
    let text : h ≡ ((((head ++ statements_text D) ++ statements_text L) ++ middle) ++ statements_text T) ++ last =
    h_is ∙ ap (λ t. t ++ last) (g_is ∙ ap (λ t. t ++ statements_text T) (f_is ∙ ap (λ t. t ++ middle) (e_is ∙ ap (λ t. t ++ statements_text L)
    (d_is ∙ ap (λ t. t ++ statements_text D) (b_is ∙ ap (λ t. t ++ head) a_is))))) in
    text ∙ regroup head (statements_text D) (statements_text L) middle (statements_text T) last
    ∙ sym (ap (λ t. head ++ t) from_draws)
