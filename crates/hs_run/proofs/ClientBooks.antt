-- The books of clients that have done all, in the order of node and number.
use Rattle.std.proofs.Common.{◌≡◌, ℕ, suc, ◌+◌, ◌*◌, ◌/◌, ◌<◌, ◌≤◌, List, [], ◌∷◌, ◌++◌, length, map, Some, refl, sym, ap, ◌∙◌, subst, arith}
use Rattle.hs_run.proofs.Prelude.{map-append, slice_get, range_with_len, ClientId, client_of, PlainClientBook, PlainJournal, client_book, PlainWorkload, operations_at, PlainClientActor, IsNoted, books_of, first_books}
use Rattle.std.proofs.Math.Nat.{mul-add-mod_self_right, mod-eq_of_lt}
use Rattle.std.proofs.lemmas.Nat.{div-mul-add}
use Rattle.hs_base.proofs.Ranges.{range_append}
use Rattle.hs_client.specs.Calls.{note_of}
use Rattle.hs_law_outcome.specs.Outcomes.{client_at}
use Rattle.hs_records.specs.Pages.{pages_of}
use Rattle.hs_client.specs.Sending.{ops_of}
use Rattle.hs_run_actors.specs.Nodes.{AreNotes}

-- the client at the place of a node's client
client_is : (each node number : ℕ) → number < each → client_of node number ≡ client_at each (node * each + number)
client_is each node number low =
    ap (λ n. let c : ClientId = record { node = n; number = number } in c) (sym (div-mul-add node each number low))
    ∙ ap (λ k. let c : ClientId = record { node = (node * each + number) / each; number = k } in c) (sym (mul-add-mod_self_right node each number ∙ mod-eq_of_lt low))

one_book : (W : PlainWorkload) (J : PlainJournal) (node number : ℕ) (caller : PlainClientActor) (book : PlainClientBook) → number < W.settings.clients → IsNoted W J node number caller
    → book ≡ record { client = client_of node number; draws = caller.client.core.draws; pages = map note_of (pages_of W.settings.size (ops_of W node number)) } → book ≡ client_book W J (node * W.settings.clients + number)
one_book W J node number caller book low noted is =
    let place = node * W.settings.clients + number in
    let client = client_is W.settings.clients node number low in
    is ∙ (λ i. record { client = client i; draws = sym noted.draws i; pages = map note_of (pages_of W.settings.size (operations_at W place)) })

from_on : (W : PlainWorkload) (J : PlainJournal) (node from : ℕ) (callers : List PlainClientActor) (books : List PlainClientBook) → from + length callers ≤ W.settings.clients
    → ((place : ℕ) (caller : PlainClientActor) → slice_get callers place ≡ Some caller → IsNoted W J node (from + place) caller) → AreNotes callers books
    → books ≡ map (client_book W J) (range_with_len (node * W.settings.clients + from) (length callers))
from_on W J node from [] [] low noted are = refl
from_on W J node from [] (book ∷ books) low noted are = absurd are
from_on W J node from (caller ∷ callers) [] low noted are = absurd are
from_on W J node from (caller ∷ callers) (book ∷ books) low noted are =
    let each = W.settings.clients in
    let here : from + 0 ≡ from = omega arith in
    let first = subst (λ n. IsNoted W J node n caller) here (noted 0 caller refl) in
    let below : from < each = omega (arith, low) in
    let one = one_book W J node from caller book below first (are.0 W.settings (client_of node from) (ops_of W node from) first.at first.all) in
    let rest =
    from_on W J node (from + 1) callers books (omega (arith, low))
    (λ place c found.
    let on : from + suc place ≡ (from + 1) + place = omega arith in
    subst (λ n. IsNoted W J node n c) on (noted (suc place) c found))
    are.1 in
    let next : node * each + (from + 1) ≡ (node * each + from) + 1 = omega arith in
    (λ i. one i ∷ rest i) ∙ ap (λ n. client_book W J (node * each + from) ∷ map (client_book W J) (range_with_len n (length callers))) next

pub node_books : (W : PlainWorkload) (J : PlainJournal) (node : ℕ) (callers : List PlainClientActor) (books : List PlainClientBook) → length callers ≡ W.settings.clients
    → ((number : ℕ) (caller : PlainClientActor) → slice_get callers number ≡ Some caller → IsNoted W J node number caller) → AreNotes callers books → books ≡ books_of W J node
node_books W J node callers books count noted are =
    let each = W.settings.clients in
    let none : node * each + 0 ≡ node * each = omega arith in
    let all = from_on W J node 0 callers books (omega (arith, count)) (λ place caller found. let same : place ≡ 0 + place = omega arith in subst (λ n. IsNoted W J node n caller) same (noted place caller found)) are in
    all ∙ ap (λ n. map (client_book W J) (range_with_len n (length callers))) none ∙ ap (λ n. map (client_book W J) (range_with_len (node * each) n)) count

pub books_more : (W : PlainWorkload) (J : PlainJournal) (nodes : ℕ) → first_books W J (suc nodes) ≡ first_books W J nodes ++ books_of W J nodes
books_more W J nodes =
    let each = W.settings.clients in
    let f = client_book W J in
    let row : suc nodes * each ≡ nodes * each + each = omega arith in
    let zero_on : 0 + nodes * each ≡ nodes * each = omega arith in
    ap (λ n. map f (range_with_len 0 n)) row ∙ ap (map f) (range_append 0 (nodes * each) each ∙ ap (λ s. range_with_len 0 (nodes * each) ++ range_with_len s each) zero_on)
    ∙ map-append f (range_with_len 0 (nodes * each)) (range_with_len (nodes * each) each)
