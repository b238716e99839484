-- A record that was reported is of a claimed trace: the chunk of a page with a piece of it stands as reported for the group that claimed
-- the page's trace. With that, and as claimed traces are named, an entry is parted by three tests.
use Rattle.std.proofs.Common.{◌≡◌, ℕ, ◌+◌, ◌≤◌, Bool, true, false, not, ◌&&◌, ◌||◌, cond, List, [], ◌∷◌, length, refl, sym, ap, subst, ◌∙◌, Option, Some, None, map, option_map, slice_get, eqb, eqb-true}
use Rattle.hs_compare.proofs.Prelude.{AllByRecursion, div-add-mod', same_Some, all_at, ClientId, TraceId, is_among, Draw, PlainJournal, Entry, is_reported, ClaimedTrace, pages_of, Operation, PlainWorkload, records_of, operations_at, place_of, NodeRun, Run, followed, claimed_at, outcome_of, EachRecordHasOneEntry, name_of, is_first, named_in, CanBeCompared, ClaimedTracesAreNamed, IsParted, KeptIsParted}
use Rattle.hs_base.proofs.Alls.{all_each_both}
use Rattle.hs_base.specs.declared.limits.TheConstants.{MIN_SIZE}
use Rattle.hs_base.specs.declared.told.Group.{Group}
use Rattle.hs_base.specs.Ids.{same_trace}
use Rattle.hs_records.specs.declared.journal.Draw.TheVariants.{Got, Empty}
use Rattle.hs_law_agent.specs.Laws.{claiming_group, StandsByClaim}
use Rattle.hs_law_agent.specs.Standings.{Taken, trace_of}
use Rattle.hs_law_agent.specs.State.{claim_of}
use Rattle.hs_records.specs.Laws.{CarriesRecords, CarryRecords, traces_of}
use Rattle.hs_records.specs.Pages.{PlainPage, first_record}
use Rattle.hs_records.specs.Records.{AreBracketed}
use Rattle.hs_words.specs.Pages.{Sheet}
use Rattle.hs_law_outcome.specs.Causes.{KeepsItsModel, AgentsKeepTheirModel}
use Rattle.hs_law_outcome.specs.CollectedReports.{IsClientsPage, TakenPagesAreOfClients}
use Rattle.hs_law_outcome.specs.Origins.{WasTaken, Gives, HasItsCause, EachFateHasItsCause}
use Rattle.hs_law_outcome.proofs.Entries.{piece_traced, ends_at}
use Rattle.hs_law_outcome.proofs.WhollyReported.{reported_group}
use Rattle.hs_compare.proofs.Naming.{Among, among_same, among_all, among_in}
use Rattle.hs_compare.proofs.Claimed.{claimed_somewhere}
use Rattle.hs_compare.proofs.Standing.{IsRecord, entries_are_records}

abbrev PagesCarryTheRecords : Type 0
PagesCarryTheRecords =
    (size : ℕ) (operations : List Operation) → MIN_SIZE ≤ size → AreBracketed false operations
    → CarryRecords (traces_of (records_of operations)) 0 (pages_of size operations) (length (records_of operations))

-- ---- claims

claim_case : (claim : ClaimedTrace) (rest : Option ClaimedTrace) (traces : List TraceId) (trace : TraceId) (group : Group) (b : Bool) → eqb trace.0 claim.trace.0 ≡ b → (option_map (λ (c : ClaimedTrace). c.group) rest ≡ Some group → Among traces trace)
    → option_map (λ (c : ClaimedTrace). c.group) (cond b (Some claim) rest) ≡ Some group → Among (claim.trace ∷ traces) trace
claim_case claim rest traces trace group true e later h = among_same (claim.trace ∷ traces) claim.trace trace (sym (eqb-true trace.0 claim.trace.0 e)) (among_in (claim.trace ∷ traces) claim.trace (is_first claim.trace claim.trace traces refl))
claim_case claim rest traces trace group false e later h = behind (eqb claim.trace.0 trace.0) (later h)
  where
    behind : (b : Bool) → is_among traces trace ≡ true → (b || is_among traces trace) ≡ true
    behind true h = refl
    behind false h = h

claimed_among : (claims : List ClaimedTrace) (trace : TraceId) (group : Group) → claiming_group claims trace ≡ Some group → Among (map (λ (claim : ClaimedTrace). claim.trace) claims) trace
claimed_among [] trace group h = let no : None ≡ Some group = h in absurd cc
claimed_among (claim ∷ claims) trace group h =
    claim_case claim (claim_of claims trace) (map (λ (claim : ClaimedTrace). claim.trace) claims) trace group (same_trace trace claim.trace) refl (claimed_among claims trace group) h

-- ---- one record

module _ (keeps : AgentsKeepTheirModel) (taken : TakenPagesAreOfClients) (carried : PagesCarryTheRecords) (W : PlainWorkload) (J : PlainJournal) (can : CanBeCompared W) where
  abbrev run : Run
  run = followed W J

  module _ (entry : Entry) (cause : HasItsCause W J entry) (is : IsRecord W (name_of entry)) where
    abbrev client : ClientId
    client = entry.id.client

    abbrev ops : List Operation
    ops = operations_at W (place_of W.settings.clients client.node client.number)

    -- the client's place is the record's
    back : place_of W.settings.clients client.node client.number ≡ is.place
    back = ap (λ (c : ClientId). place_of W.settings.clients c.node c.number) is.client ∙ div-add-mod' is.place W.settings.clients

    -- the page of the cause has the entry's trace
    page_traced : cause.plain.trace ≡ entry.trace
    page_traced =
        let traces = traces_of (records_of ops) in
        let each = all_at (CarriesRecords traces) (pages_of W.settings.size ops) cause.page cause.plain
        (carried W.settings.size ops can.ends.size (ends_at W.clients (place_of W.settings.clients client.node client.number) can.ends.ends)).each cause.page_there
        in
        same_Some cause.plain.trace entry.trace
        (sym (piece_traced traces cause.plain.trace entry.id.number (first_record cause.plain) cause.plain.pieces each.rises each.traced cause.first cause.last)
        ∙ ap (λ (place : ℕ). traces_of (records_of (operations_at W place)) entry.id.number) back
        ∙ is.trace)

    chunk_taken : (draw : Draw) → Gives run client cause.page draw entry.fate → is_reported entry.fate ≡ true → WasTaken run client cause.page entry.fate
    chunk_taken (Empty stamp) gives h = let no : false ≡ true = ap is_reported (sym gives) ∙ h in absurd cc
    chunk_taken (Got buffer stamp) gives h = gives

    module _ (w : WasTaken run client cause.page entry.fate) where
      abbrev sheet : Sheet
      sheet = w.chunk.sheet

      clients_page : IsClientsPage W sheet
      clients_page =
          all_at (λ (chunk : Taken). IsClientsPage W chunk.sheet) w.node.state.taken w.place w.chunk
          (all_at (λ (node : NodeRun). AllByRecursion (λ (chunk : Taken). IsClientsPage W chunk.sheet) node.state.taken) run.nodes client.node w.node (taken W J can.ends) w.here) w.taken

      page_same : clients_page.page ≡ cause.plain
      page_same =
          let p = clients_page in
          same_Some p.page cause.plain
          (sym p.there ∙ ap (λ (c : ClientId). slice_get (pages_of W.settings.size (operations_at W (place_of W.settings.clients c.node c.number))) sheet.header.page) w.client_is
          ∙ ap (slice_get (pages_of W.settings.size ops)) w.page_is
          ∙ cause.page_there)

      chunk_traced : trace_of w.chunk ≡ entry.trace
      chunk_traced = ap (λ (s : Sheet). s.header.trace) clients_page.is ∙ ap (λ (p : PlainPage). p.trace) page_same ∙ page_traced

      node_claims : is_reported entry.fate ≡ true → Among (claimed_at w.node) entry.trace
      node_claims h =
          let model = all_at (KeepsItsModel W.settings) run.nodes client.node w.node (keeps W J) w.here in
          let stands = all_at (λ (c : Taken). StandsByClaim w.node.state.claims (trace_of c) c.standing) w.node.state.taken w.place w.chunk model.claims w.taken in
          let group = reported_group w.node.state.claims (trace_of w.chunk) w.chunk.standing (ap is_reported (sym w.fate_is) ∙ h) stands in
          subst (Among (claimed_at w.node)) chunk_traced (claimed_among w.node.state.claims (trace_of w.chunk) group.0 group.1)

    reported_is_claimed : is_reported entry.fate ≡ true → Among (outcome_of W J).claimed entry.trace
    reported_is_claimed h = let w = chunk_taken cause.draw cause.gives h in claimed_somewhere run.nodes client.node w.node entry.trace w.here (node_claims w h)

-- ---- three tests

parted : (reported claimed named : Bool) → (reported ≡ true → claimed ≡ true) → (claimed ≡ true → named ≡ true)
    → cond reported 1 0 + cond (claimed && not reported) 1 0 + cond (named && not claimed) 1 0 ≡ cond named 1 0
parted true true true claims names = refl
parted true true false claims names = let no : false ≡ true = names refl in absurd cc
parted true false named claims names = let no : false ≡ true = claims refl in absurd cc
parted false true true claims names = refl
parted false true false claims names = let no : false ≡ true = names refl in absurd cc
parted false false true claims names = refl
parted false false false claims names = refl

pub kept_is_parted : EachFateHasItsCause → EachRecordHasOneEntry → AgentsKeepTheirModel → TakenPagesAreOfClients → PagesCarryTheRecords → ClaimedTracesAreNamed → KeptIsParted
kept_is_parted causes each keeps taken carried named W J can lawful =
    let claimed = (outcome_of W J).claimed in
    all_each_both (HasItsCause W J) (λ (entry : Entry). IsRecord W (name_of entry)) (IsParted W claimed) (outcome_of W J).entries
    (λ entry cause is.
    parted (is_reported entry.fate) (is_among claimed entry.trace) (is_among (named_in W) entry.trace) (reported_is_claimed keeps taken carried W J can entry cause is)
    (among_all (named_in W) claimed entry.trace (named W J can.stride))) (causes W J can.ends can.clients lawful) (entries_are_records each W J can.ends lawful)
