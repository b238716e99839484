-- What the counts behind a round come to.
use Rattle.std.proofs.Common.{◌≡◌, ℕ, zero, suc, ◌+◌, ◌/◌, ◌%◌, ◌<◌, ◌≤◌, not, List, length, map, take, Option, Some, unwrap_or, [], refl, sym, ap, subst, ◌∙◌, arith, slice_get, sum_by, count_by, div-lt_iff_lt-mul, div-add-mod'}
use Rattle.hs_run.proofs.Prelude.{mod-lt, range_with_len, get_there, Progress, is_null, PlainJournal, Draw, Step, is_point, is_chunk, is_given, done_after, points_after, nulls_after, steps_after, progress_after, Operation, PlainWorkload, NotesRounds, RunState, RunStands, Came, has_buffer, operations_at, place_of, IsValid, ClientCount, LogCount, PlainRunTally, AreCounts, log_count, progress_of}
use Rattle.hs_base.proofs.Counts.{count_alike}
use Rattle.hs_records.specs.declared.journal.Draw.TheVariants as draws
use Rattle.hs_run.specs.Progress.{draws_after}
use Rattle.hs_records.specs.declared.setting.Setting.TheVariants as settings
use Rattle.hs_run.specs.CountLaws.{CountsAreProgress}
use Rattle.hs_run.proofs.Sums.{by_places, sum_mapped, sum_same}

null_so : (draw : Draw) → is_null draw ≡ not (has_buffer draw)
null_so (draws.Got buffer stamp) = refl
null_so (draws.Empty stamp) = refl

pub progress_so : (rounds a a' b b' c c' d d' e e' : ℕ) → a ≡ a' → b ≡ b' → c ≡ c' → d ≡ d' → e ≡ e'
    → ◌≡◌ {A = Progress} (record { rounds = rounds; operations = a; records = b; nulls = c; taken = d; given = e }) (record { rounds = rounds; operations = a'; records = b'; nulls = c'; taken = d'; given = e' })
progress_so rounds a a' b b' c c' d d' e e' pa pb pc pd pe =
    ap (λ x. record { rounds = rounds; operations = x; records = b; nulls = c; taken = d; given = e }) pa ∙ ap (λ x. record { rounds = rounds; operations = a'; records = x; nulls = c; taken = d; given = e }) pb
    ∙ ap (λ x. record { rounds = rounds; operations = a'; records = b'; nulls = x; taken = d; given = e }) pc ∙ ap (λ x. record { rounds = rounds; operations = a'; records = b'; nulls = c'; taken = x; given = e }) pd
    ∙ ap (λ x. record { rounds = rounds; operations = a'; records = b'; nulls = c'; taken = d'; given = x }) pe

module _ (W : PlainWorkload) (rounds : ℕ) (m : RunState) (came : Came W rounds m) (J : PlainJournal) (valid : IsValid W) (notes : NotesRounds W rounds m came J) where
  stands_at : (k : ℕ) → k ≤ rounds → RunStands W (came.at k)
  stands_at zero low = came.begun.stands
  stands_at (suc k) low = (came.moves k (omega (arith, low))).stands

  module _ (k : ℕ) (low : k ≤ rounds) (counts : PlainRunTally) (are : AreCounts W (came.at k) counts) where
    -- the count of the client at a place, and that of a node, by the journal
    abbrev client_by : ℕ → ClientCount
    client_by place =
        record { done = done_after W k (operations_at W place); points = points_after W k (operations_at W place); nulls = count_by is_null (draws_after W J k place) }

    abbrev log_by : ℕ → LogCount
    log_by node = log_count (steps_after J k node)

    counted : (node client place : ℕ) → place_of W.settings.clients node client ≡ place → node < W.settings.nodes → client < W.settings.clients → slice_get counts.clients place ≡ Some (client_by place)
    counted node client place is few own =
        let stands = stands_at k low in
        let many = stands.count in
        let site = get_there (came.at k).standing.nodes node (omega (arith, few, many)) in
        let clients = (stands.each node site.0 site.1).count in
        let caller = get_there site.0.callers client (omega (arith, own, clients)) in
        let noted = notes.clients node client k site.0 caller.0 low site.1 caller.1 in
        let here = place_of W.settings.clients node client in
        let ops = operations_at W here in
        subst (λ place. slice_get counts.clients place ≡ Some (client_by place)) is
        (are.clients node client site.0 caller.0 site.1 caller.1
        ∙ ap (λ done. Some (record { done = done; points = count_by is_point (take done ops); nulls = count_by is_null caller.0.client.core.draws })) noted.done
        ∙ ap (λ (list : List Draw). Some (record { done = done_after W k ops; points = points_after W k ops; nulls = count_by is_null list })) (sym noted.draws))

    clients_by : counts.clients ≡ map client_by (range_with_len 0 (length W.clients))
    clients_by =
        by_places client_by 0 (length W.clients) counts.clients are.clients_are
        (λ place less.
        let all = valid.count in
        let some = (valid.head settings.Clients).0 in
        let each = W.settings.clients in
        let few : place / each < W.settings.nodes = (div-lt_iff_lt-mul {k = each} {x = place} {y = W.settings.nodes} (omega (arith, some))).1 (omega (arith, less, all)) in
        let own : place % each < each = mod-lt place (omega (arith, some)) in
        let zeroth : place ≡ 0 + place = omega arith in
        counted (place / each) (place % each) place (div-add-mod' place each) few own ∙ ap (λ p. Some (client_by p)) zeroth)

    logs_by : counts.logs ≡ map log_by (range_with_len 0 W.settings.nodes)
    logs_by =
        by_places log_by 0 W.settings.nodes counts.logs are.logs_are
        (λ node few. let zeroth : node ≡ 0 + node = omega arith in are.logs node few ∙ ap (λ (log : List Step). Some (log_count log)) (sym (notes.logs node k few low)) ∙ ap (λ n. Some (log_by n)) zeroth)

    operations_by : W.clients ≡ map (operations_at W) (range_with_len 0 (length W.clients))
    operations_by =
        by_places (operations_at W) 0 (length W.clients) W.clients refl
        (λ place less.
        let here = get_there W.clients place less in
        let zeroth : place ≡ 0 + place = omega arith in
        here.1 ∙ ap (λ (o : Option (List Operation)). Some (unwrap_or o [])) (sym here.1) ∙ ap (λ p. Some (operations_at W p)) zeroth)

    -- a sum over the clients' operations, and one over places
    sum_of : (f : List Operation → ℕ) → sum_by (λ place. f (operations_at W place)) (range_with_len 0 (length W.clients)) ≡ sum_by f W.clients
    sum_of f = sym (sum_mapped f (operations_at W) (range_with_len 0 (length W.clients))) ∙ ap (sum_by f) (sym operations_by)

    client_sum : (part : ClientCount → ℕ) → sum_by part counts.clients ≡ sum_by (λ place. part (client_by place)) (range_with_len 0 (length W.clients))
    client_sum part = ap (sum_by part) clients_by ∙ sum_mapped part client_by (range_with_len 0 (length W.clients))

    log_sum : (part : LogCount → ℕ) → sum_by part counts.logs ≡ sum_by (λ node. part (log_by node)) (range_with_len 0 W.settings.nodes)
    log_sum part = ap (sum_by part) logs_by ∙ sum_mapped part log_by (range_with_len 0 W.settings.nodes)

    pub come_to : progress_of k counts ≡ progress_after W J k
    come_to =
        progress_so k (sum_by (λ (c : ClientCount). c.done) counts.clients) (sum_by (done_after W k) W.clients) (sum_by (λ (c : ClientCount). c.points) counts.clients) (sum_by (points_after W k) W.clients)
        (sum_by (λ (c : ClientCount). c.nulls) counts.clients) (sum_by (nulls_after W J k) (range_with_len 0 (length W.clients))) (sum_by (λ (c : LogCount). c.taken) counts.logs)
        (sum_by (λ node. count_by is_chunk (steps_after J k node)) (range_with_len 0 W.settings.nodes)) (sum_by (λ (c : LogCount). c.given) counts.logs)
        (sum_by (λ node. count_by is_given (steps_after J k node)) (range_with_len 0 W.settings.nodes)) (client_sum (λ (c : ClientCount). c.done) ∙ sum_of (done_after W k))
        (client_sum (λ (c : ClientCount). c.points) ∙ sum_of (points_after W k))
        (client_sum (λ (c : ClientCount). c.nulls)
        ∙ sum_same (λ place. count_by is_null (draws_after W J k place)) (nulls_after W J k) (λ place. count_alike is_null (λ draw. not (has_buffer draw)) null_so (draws_after W J k place)) (range_with_len 0 (length W.clients)))
        (log_sum (λ (c : LogCount). c.taken)) (log_sum (λ (c : LogCount). c.given))

pub counts_come : CountsAreProgress
counts_come W rounds m came J valid notes k low counts are = come_to W rounds m came J valid notes k low counts are
