-- Lines of a ledger by the words that were appended.
use Rattle.std.proofs.Common.{◌≡◌, ℕ, List, [], ◌∷◌, ◌++◌, decimal, codes, sym, ap, ◌∙◌, append_assoc}
use Rattle.hs_report.proofs.Prelude.{Fate, line_of, hex_text, trace_word, line_written, spaced_one, Entry, fate_words, entry_line}
use Rattle.hs_base.specs.declared.told.Fate.TheVariants.{Null, Live, Reported, Evicted, Abandoned}
use Rattle.hs_text.specs.Writing.{spaced, line_of-spaced, spaced_more}
use Rattle.hs_ledger.specs.declared.ledger.Totals.{Totals}
use Rattle.hs_report.specs.OutcomeText.{total_line}

-- two words, each behind a space
pub spaced_two : (out first both a b : List ℕ) → first ≡ out ++ 32 ∷ a → both ≡ first ++ 32 ∷ b → both ≡ out ++ spaced (a ∷ b ∷ [])
spaced_two out first both a b begun is = spaced_more out first both (a ∷ []) (b ∷ []) (spaced_one out first a begun) (spaced_one first both b is)

pub entry_written : (version : ℕ) (e : Entry) (o node client number trace fate all : List ℕ) → node ≡ o ++ decimal e.id.client.node → client ≡ node ++ 32 ∷ decimal e.id.client.number
    → number ≡ client ++ 32 ∷ decimal e.id.number → trace ≡ number ++ 32 ∷ trace_word version e.trace → fate ≡ trace ++ spaced (fate_words version e.fate) → all ≡ fate ++ 10 ∷ []
    → all ≡ o ++ (entry_line version e ++ 10 ∷ [])
entry_written version e o node client number trace fate all e1 e2 e3 e4 e5 e6 =
    let a = decimal e.id.client.number in
    let b = decimal e.id.number in
    let c = trace_word version e.trace in
    let numbers = spaced_two node client number a b e2 e3 in
    let traces = spaced_more node number trace (a ∷ b ∷ []) (c ∷ []) numbers (spaced_one number trace c e4) in
    line_written o (decimal e.id.client.node) (a ∷ b ∷ c ∷ fate_words version e.fate) node fate all e1 (spaced_more node trace fate (a ∷ b ∷ c ∷ []) (fate_words version e.fate) traces e5) e6

pub total_written : (t : Totals) (o total records live reported null evicted abandoned all : List ℕ) → total ≡ o ++ codes "total" → records ≡ total ++ 32 ∷ decimal t.records
    → live ≡ records ++ spaced (codes "live" ∷ decimal t.live ∷ []) → reported ≡ live ++ spaced (codes "reported" ∷ decimal t.reported ∷ [])
    → null ≡ reported ++ spaced (codes "null" ∷ decimal t.null ∷ []) → evicted ≡ null ++ spaced (codes "evicted" ∷ decimal t.evicted ∷ [])
    → abandoned ≡ evicted ++ spaced (codes "abandoned" ∷ decimal t.abandoned ∷ []) → all ≡ abandoned ++ 10 ∷ [] → all ≡ o ++ (total_line t ++ 10 ∷ [])
total_written t o total records live reported null evicted abandoned all e0 e1 e2 e3 e4 e5 e6 e7 =
    let w1 = decimal t.records ∷ [] in
    let w2 = w1 ++ codes "live" ∷ decimal t.live ∷ [] in
    let w3 = w2 ++ codes "reported" ∷ decimal t.reported ∷ [] in
    let w4 = w3 ++ codes "null" ∷ decimal t.null ∷ [] in
    let w5 = w4 ++ codes "evicted" ∷ decimal t.evicted ∷ [] in
    let one = spaced_one total records (decimal t.records) e1 in
    let two = spaced_more total records live w1 (codes "live" ∷ decimal t.live ∷ []) one e2 in
    let three = spaced_more total live reported w2 (codes "reported" ∷ decimal t.reported ∷ []) two e3 in
    let four = spaced_more total reported null w3 (codes "null" ∷ decimal t.null ∷ []) three e4 in
    let five = spaced_more total null evicted w4 (codes "evicted" ∷ decimal t.evicted ∷ []) four e5 in
    let six = spaced_more total evicted abandoned w5 (codes "abandoned" ∷ decimal t.abandoned ∷ []) five e6 in
    line_written o (codes "total") (w5 ++ codes "abandoned" ∷ decimal t.abandoned ∷ []) total abandoned all e0 six e7

pub abandoned_written : (o word claim all trigger lead rank : List ℕ) → word ≡ o ++ codes "abandoned" → claim ≡ word ++ spaced (trigger ∷ lead ∷ []) → all ≡ claim ++ 32 ∷ rank
    → all ≡ o ++ line_of (codes "abandoned" ∷ trigger ∷ lead ∷ rank ∷ [])
abandoned_written o word claim all trigger lead rank first second third =
    let more = spaced_more word claim all (trigger ∷ lead ∷ []) (rank ∷ []) second (spaced_one claim all rank third) in
    more ∙ ap (λ t. t ++ spaced (trigger ∷ lead ∷ rank ∷ [])) first ∙ append_assoc o (codes "abandoned") (spaced (trigger ∷ lead ∷ rank ∷ []))
    ∙ ap (λ t. o ++ t) (sym (line_of-spaced (codes "abandoned") (trigger ∷ lead ∷ rank ∷ [])))

-- the words of a fate behind a space
pub spaced_fate : (version : ℕ) (fate : Fate) → 32 ∷ line_of (fate_words version fate) ≡ spaced (fate_words version fate)
spaced_fate version (Null stamp) = ap (λ t. 32 ∷ t) (line_of-spaced (codes "null") (decimal stamp ∷ []))
spaced_fate version Live = ap (λ t. 32 ∷ t) (line_of-spaced (codes "live") [])
spaced_fate version (Reported trigger lead) = ap (λ t. 32 ∷ t) (line_of-spaced (codes "reported") (decimal trigger.0 ∷ trace_word version lead ∷ []))
spaced_fate version (Evicted chunks traces) = ap (λ t. 32 ∷ t) (line_of-spaced (codes "evicted") (decimal chunks ∷ decimal traces ∷ []))
spaced_fate version (Abandoned trigger lead rank) =
    ap (λ t. 32 ∷ t) (line_of-spaced (codes "abandoned") (decimal trigger.0 ∷ trace_word version lead ∷ hex_text 16 rank.word ∷ []))

-- a space and then the words of a fate
pub fate_behind : (version : ℕ) (fate : Fate) (out space all : List ℕ) → space ≡ out ++ codes " " → all ≡ space ++ line_of (fate_words version fate) → all ≡ out ++ spaced (fate_words version fate)
fate_behind version fate out space all first second =
    second ∙ ap (λ t. t ++ line_of (fate_words version fate)) first ∙ append_assoc out (codes " ") (line_of (fate_words version fate)) ∙ ap (λ t. out ++ t) (spaced_fate version fate)
