use Rattle.std.proofs.Common.{◌≡◌, ℕ, ◌≤◌, ◌<◌, false, List, length, map, get_or, drop, subst, sym, ap, ◌∙◌, arith, refl}
use Rattle.hs_check_follow.proofs.Prelude.{eq-eqb, ne_eqb, Listing, Draw, pages_of, AreBracketed, MAX_OPERATIONS, Op, client_pieces, operation_of, operations_of, workload_of}
use Rattle.hs_records.specs.declared.setting.Setting.TheVariants as settings
use Rattle.hs_check_follow.proofs.Counts.{have_drawn, other_count, counts_more, counts_fail, counts_done}
use Rattle.hs_check_follow.proofs.Valid.{client_is, client_is_few, get_of_map}
use Rattle.hs_check_follow.proofs.shape.have_draws.Goals as goal

-- the same over the lists as the code has them
same_drawn : (size : ℕ) (draws items : List (Listing Draw)) (clients others : List (Listing Op)) → draws ≡ items → clients ≡ others → have_drawn size draws clients ≡ have_drawn size items others
same_drawn size draws items clients others a b = ap (λ (l : List (Listing Draw)). have_drawn size l clients) a ∙ ap (λ (l : List (Listing Op)). have_drawn size items l) b

pub loop-client-init : goal.loop-client-init
loop-client-init c = same_drawn c.args.workload.now.settings.size _ _ _ _ c.as_slice-draws.ensures c.as_slice-clients.ensures

pub returns-then-draws-clients : goal.returns-then-draws-clients
returns-then-draws-clients c =
    other_count c.args.workload.now.settings.size c.as_slice-draws.result.now c.as_slice-clients.result.now c.if-draws-clients.true
    ∙ same_drawn c.args.workload.now.settings.size _ _ _ _ c.as_slice-draws.ensures c.as_slice-clients.ensures

pub count_pages-pages-requires-clause-least : goal.count_pages-pages-requires-clause-least
count_pages-pages-requires-clause-least c = let size = c.requires.head settings.Size in size.0

pub count_pages-pages-requires-clause-bracketed : goal.count_pages-pages-requires-clause-bracketed
count_pages-pages-requires-clause-bracketed c =
    let items = c.args.workload.now.clients.items in
    let i = c.loop-client.client in
    let x = c.index-clients-client.result in
    let at = get_of_map operations_of items i x (omega (arith, ap length c.as_slice-clients.ensures)) (c.index-clients-client.is ∙ ap (λ (l : List (Listing Op)). get_or l i x) c.as_slice-clients.ensures) in
    subst (λ (l : List Op). AreBracketed false (map operation_of l)) (sym c.as_slice.ensures) (client_is (workload_of c.args.workload.now) c.requires i (operations_of x) at).bracketed

pub count_pages-pages-requires-clause-few : goal.count_pages-pages-requires-clause-few
count_pages-pages-requires-clause-few c =
    let items = c.args.workload.now.clients.items in
    let i = c.loop-client.client in
    let x = c.index-clients-client.result in
    let at = get_of_map operations_of items i x (omega (arith, ap length c.as_slice-clients.ensures)) (c.index-clients-client.is ∙ ap (λ (l : List (Listing Op)). get_or l i x) c.as_slice-clients.ensures) in
    subst (λ (l : List Op). client_pieces c.args.workload.now.settings.size (map operation_of l) ≤ MAX_OPERATIONS) (sym c.as_slice.ensures) (client_is_few (workload_of c.args.workload.now) c.requires i (operations_of x) at)

pub bounds-draws-client : goal.bounds-draws-client
bounds-draws-client c = omega arith

-- what was counted is what the client has
counted : (size : ℕ) (ops : List Op) (x : Listing Op) (pages : ℕ) → pages ≡ length (pages_of size (map operation_of ops)) → ops ≡ x.items → pages ≡ length (pages_of size (operations_of x))
counted size ops x pages count same = count ∙ ap (λ (l : List Op). length (pages_of size (map operation_of l))) same

pub returns-then-len-pages : goal.returns-then-len-pages
returns-then-len-pages c =
    let size = c.args.workload.now.settings.size in
    let x = c.index-clients-client.result in
    let pages = counted size c.as_slice.result.now x c.count_pages-pages.result c.count_pages-pages.ensures c.as_slice.ensures in
    counts_fail size c.as_slice-draws.result.now c.as_slice-clients.result.now c.loop-client.client c.index-draws-client.result x (omega arith) c.loop-client-test.true c.index-draws-client.is c.index-clients-client.is _
    (ne_eqb (length c.index-draws-client.result.items) (length (pages_of size (operations_of x))) (λ e. c.if-len-pages.true (c.len.ensures ∙ e ∙ sym pages))) c.loop-client.invariant

pub loop-client-preserved : goal.loop-client-preserved
loop-client-preserved c =
    let size = c.args.workload.now.settings.size in
    let x = c.index-clients-client.result in
    let pages = counted size c.as_slice.result.now x c.count_pages-pages.result c.count_pages-pages.ensures c.as_slice.ensures in
    counts_more size c.as_slice-draws.result.now c.as_slice-clients.result.now c.loop-client.client c.index-draws-client.result x (omega arith) c.loop-client-test.true c.index-draws-client.is c.index-clients-client.is _
    (eq-eqb (length c.index-draws-client.result.items) (length (pages_of size (operations_of x))) (sym c.len.ensures ∙ c.if-len-pages.false ∙ pages)) c.loop-client.invariant

pub returns : goal.returns
returns c =
    counts_done c.args.workload.now.settings.size c.as_slice-draws.result.now c.as_slice-clients.result.now c.loop-client.client (omega arith) c.loop-client-test.false _ c.loop-client.invariant
