-- A record that was reported has all its pieces on reported pages. None of its pages was discarded, since its fate would be that. The
-- first is reported, so its trace is claimed at the node, and a claimed trace has no chunk in the index; and in the end none is pinned.
use Rattle.std.proofs.Common.{◌≡◌, ◌⊎◌, inl, inr, ℕ, zero, suc, ◌+◌, ◌<◌, ◌≤◌, Bool, true, false, ◌&&◌, ◌||◌, cond, List, [], ◌∷◌, length, refl, sym, ap, subst, ◌∙◌, Option, Some, None, arith, map, filter, option_map, slice_get, unwrap_or, count_by, leb, ltb, leb-true, ltb-true, le-leb, lt-ltb, eqb-true, nat_eq, find, zip}
use Rattle.hs_law_outcome.proofs.Prelude.{AllByRecursion, cons_option, range_with_len, list_all, option_map_or, and_parts, flat_map-map, same_Some, slice_get_within, IsIn, get_there, all_at, all_flat_map, all_flat_range, all_unmap, ClientId, TraceId, Fate, Group, same_trace, note_of, sheet_for, Draw, Got, PlainClientBook, PlainJournal, Entry, PageNote, record_count, FatedPage, page_fate, fated_by, fated_pages, has_piece_of, is_discarded, record_fate, entry_on, record_entry, book_entries, is_reported, count_of, sheets_at, PlacesMatch, ChunkStanding, Indexed, Pinned, Reported, Evicted, Abandoned, Taken, trace_of, stands, AgentState, ClaimedTrace, claim_of, is_claimed, end_of, PlainPage, first_record, pages_of, PlainWorkload, has_buffer, TimedPagesAreThePages, ClientSends, operations_at, draws_at, place_of, Sheet, took_all, is_left_bare, IsOfJournal, NodesAreOfJournal, RunsAreOfTheJournal, Asks, taken, asks_to, is_from, NodeRun, Run, followed, IsLawful, FollowingPlaysOut, ChunksAreTakenInOrder, KeepsItsModel, AgentsKeepTheirModel, HasAllItsPages, ReportedRecordsHaveAllPages, HasItsClients, IsOfDrawnPage, TakenPagesWereDrawn, WasTaken, Gives, client_at, client_book, agent_books, reported_at, outcome_of, EndsItsTraces}
use Rattle.hs_base.specs.declared.told.Fate.TheVariants as fate
use Rattle.hs_records.specs.declared.journal.Draw.TheVariants.{Empty}
use Rattle.hs_ledger.specs.Books.{end_of as note_end}
use Rattle.hs_law_agent.specs.Books.{fate_of}
use Rattle.hs_law_agent.specs.Laws.{claiming_group, StandsByClaim}
use Rattle.hs_law_agent.specs.Standings.{is_pinned}
use Rattle.hs_law_agent.specs.Standings as model
use Rattle.hs_law_outcome.proofs.Among.{is_later, contained}
use Rattle.hs_law_outcome.proofs.ClientPages.{trace_on}
use Rattle.hs_law_outcome.proofs.Entries.{PagesCarryTheRecords, ends_at, same_length, shape_counts}
use Rattle.hs_law_outcome.proofs.Origins.{IsPageOf, pages_of_fated, both_filter, unfilter, in_flat, number_is, node_below, back, there, gives}
use Rattle.hs_law_outcome.proofs.ReportedRuns.{of_drawn}

-- ---- fates

discarded_is_not_reported : (f : Fate) → is_discarded f ≡ true → is_reported f ≡ false
discarded_is_not_reported (fate.Null stamp) h = refl
discarded_is_not_reported fate.Live h = refl
discarded_is_not_reported (fate.Reported trigger lead) h = let no : false ≡ true = h in absurd cc
discarded_is_not_reported (fate.Evicted chunks traces) h = refl
discarded_is_not_reported (fate.Abandoned trigger lead rank) h = refl

-- where a fate is reported, and it is the first that was discarded or else the first, none was discarded
record AllKept (fates : List Fate) (found : Option Fate) : Type 0 where
  none : found ≡ None
  kept : AllByRecursion (λ f. is_discarded f ≡ false) fates

record IsLost (found : Option Fate) : Type 0 where
  lost : Fate
  is : found ≡ Some lost
  discarded : is_discarded lost ≡ true

kept_or_lost : (fates : List Fate) → AllKept fates (find is_discarded fates) ⊎ IsLost (find is_discarded fates)
kept_or_lost [] = inl (record { none = refl; kept = tt })
kept_or_lost (f ∷ fates) = either (is_discarded f) refl (kept_or_lost fates)
  where
    either : (b : Bool) → is_discarded f ≡ b → AllKept fates (find is_discarded fates) ⊎ IsLost (find is_discarded fates)
        → AllKept (f ∷ fates) (cond b (Some f) (find is_discarded fates)) ⊎ IsLost (cond b (Some f) (find is_discarded fates))
    either true e rest = inr (record { lost = f; is = refl; discarded = e })
    either false e (inl all) = inl (record { none = all.none; kept = (e, all.kept) })
    either false e (inr lost) = inr (record { lost = lost.lost; is = lost.is; discarded = lost.discarded })

all_kept : (first : Fate) (others : List Fate) → is_reported (record_fate first others) ≡ true → AllByRecursion (λ f. is_discarded f ≡ false) (first ∷ others) × (is_reported first ≡ true)
all_kept first others h = either (kept_or_lost (first ∷ others))
  where
    either : AllKept (first ∷ others) (find is_discarded (first ∷ others)) ⊎ IsLost (find is_discarded (first ∷ others)) → AllByRecursion (λ f. is_discarded f ≡ false) (first ∷ others) × (is_reported first ≡ true)
    either (inl all) = (all.kept, ap (λ (o : Option Fate). is_reported (unwrap_or o first)) (sym all.none) ∙ h)
    either (inr lost) =
        let reported : is_reported lost.lost ≡ true = ap (λ (o : Option Fate). is_reported (unwrap_or o first)) (sym lost.is) ∙ h in
        let no : true ≡ false = sym reported ∙ discarded_is_not_reported lost.lost lost.discarded in absurd cc

fated_at : (fates : ℕ → Draw → Fate) (k : ℕ) (pages : List PlainPage) (draws : List Draw) (at : ℕ) (plain : PlainPage) (draw : Draw) → slice_get pages at ≡ Some plain → slice_get draws at ≡ Some draw
    → slice_get (fated_by fates k draws (map note_of pages)) at ≡ Some (record { note = note_of plain; fate = fates (k + at) draw })
fated_at fates k [] draws at plain draw h d = let no : None ≡ Some plain = h in absurd cc
fated_at fates k (p ∷ pages) [] at plain draw h d = let no : None ≡ Some draw = d in absurd cc
fated_at fates k (p ∷ pages) (e ∷ draws) zero plain draw h d =
    let here : k ≡ k + 0 = omega arith in
    ap (λ (p : PlainPage). Some (record { note = note_of p; fate = fates k e })) (same_Some p plain h)
    ∙ ap (λ (e : Draw). Some (record { note = note_of plain; fate = fates k e })) (same_Some e draw d)
    ∙ ap (λ (n : ℕ). Some (record { note = note_of plain; fate = fates n draw })) here
fated_at fates k (p ∷ pages) (e ∷ draws) (suc at) plain draw h d =
    let more : k + 1 + at ≡ k + suc at = omega arith in
    fated_at fates (k + 1) pages draws at plain draw h d ∙ ap (λ (n : ℕ). Some (record { note = note_of plain; fate = fates n draw })) more

-- ---- standings

no_claim : (claims : List ClaimedTrace) (trace : TraceId) → is_claimed claims trace ≡ false → claim_of claims trace ≡ None
no_claim [] trace h = refl
no_claim (claim ∷ claims) trace h = either (same_trace trace claim.trace) h (no_claim claims trace)
  where
    either : (b : Bool) → (b || is_claimed claims trace) ≡ false → (is_claimed claims trace ≡ false → claim_of claims trace ≡ None) → cond b (Some claim) (claim_of claims trace) ≡ None
    either true h on = let no : true ≡ false = h in absurd cc
    either false h on = on h

pub reported_group : (claims : List ClaimedTrace) (trace : TraceId) (standing : ChunkStanding) → is_reported (fate_of standing) ≡ true → StandsByClaim claims trace standing → (group : Group) × (claiming_group claims trace ≡ Some group)
reported_group claims trace Indexed h by = let no : false ≡ true = h in absurd cc
reported_group claims trace (Pinned group) h by = let no : false ≡ true = h in absurd cc
reported_group claims trace (Reported group) h by = (group, by)
reported_group claims trace (Evicted chunks traces) h by = let no : false ≡ true = h in absurd cc
reported_group claims trace (Abandoned group) h by = let no : false ≡ true = h in absurd cc

-- what was not discarded of a claimed trace was reported, if nothing is pinned
stays_reported : (claims : List ClaimedTrace) (trace : TraceId) (group : Group) (standing : ChunkStanding) → claiming_group claims trace ≡ Some group → is_discarded (fate_of standing) ≡ false → StandsByClaim claims trace standing
    → is_pinned standing ≡ false → model.is_reported standing ≡ true
stays_reported claims trace group Indexed claimed h by pinned =
    let no : None ≡ Some group = ap (λ (o : Option ClaimedTrace). option_map (λ (claim : ClaimedTrace). claim.group) o) (sym (no_claim claims trace by)) ∙ claimed in absurd cc
stays_reported claims trace group (Pinned other) claimed h by pinned = let no : true ≡ false = pinned in absurd cc
stays_reported claims trace group (Reported other) claimed h by pinned = refl
stays_reported claims trace group (Evicted chunks traces) claimed h by pinned = let no : true ≡ false = h in absurd cc
stays_reported claims trace group (Abandoned other) claimed h by pinned = let no : true ≡ false = h in absurd cc

-- ---- places

counted_in : (places : List ℕ) (place : ℕ) → 1 ≤ count_of places place → IsIn places place
counted_in [] place h = absurd (omega (arith, h))
counted_in (p ∷ places) place h = either (nat_eq p place) refl h (counted_in places place)
  where
    either : (b : Bool) → nat_eq p place ≡ b → 1 ≤ cond b 1 0 + count_of places place → (1 ≤ count_of places place → IsIn places place) → IsIn (p ∷ places) place
    either true e h on = record { place = 0; there = ap Some (eqb-true p place e) }
    either false e h on = is_later p place places (on (omega (arith, h)))

shown_at : (taken : List Taken) (places : List ℕ) (place : ℕ) (chunk : Taken) → IsIn places place → slice_get taken place ≡ Some chunk → IsIn (sheets_at taken places) chunk.sheet
shown_at taken places place chunk among h = go places among.place among.there
  where
    at : ℕ → Option Sheet
    at p = option_map (λ (chunk : Taken). chunk.sheet) (slice_get taken p)

    skip : (o : Option Sheet) (sheets : List Sheet) → IsIn sheets chunk.sheet → IsIn (cons_option o sheets) chunk.sheet
    skip None sheets i = i
    skip (Some sheet) sheets i = is_later sheet chunk.sheet sheets i

    here : (o : Option Sheet) (sheets : List Sheet) → o ≡ Some chunk.sheet → IsIn (cons_option o sheets) chunk.sheet
    here None sheets e = let no : None ≡ Some chunk.sheet = e in absurd cc
    here (Some sheet) sheets e = record { place = 0; there = e }

    go : (places : List ℕ) (k : ℕ) → slice_get places k ≡ Some place → IsIn (sheets_at taken places) chunk.sheet
    go [] k e = let no : None ≡ Some place = e in absurd cc
    go (p ∷ places) zero e = here (at p) (sheets_at taken places) (ap at (same_Some p place e) ∙ ap (λ (o : Option Taken). option_map (λ (chunk : Taken). chunk.sheet) o) h)
    go (p ∷ places) (suc k) e = skip (at p) (sheets_at taken places) (go places k e)

none_pinned : (state : AgentState) (place : ℕ) (chunk : Taken) → PlacesMatch state → length state.pinned ≡ 0 → slice_get state.taken place ≡ Some chunk → is_pinned chunk.standing ≡ false
none_pinned state place chunk lists bare h = either (is_pinned chunk.standing) refl
  where
    empty : (places : List ℕ) → length places ≡ 0 → count_of places place ≡ 0
    empty [] e = refl
    empty (p ∷ places) e = let no : suc (length places) ≡ 0 = e in absurd (omega (arith, no))

    standing : stands is_pinned state.taken place ≡ is_pinned chunk.standing
    standing = ap (λ (o : Option Taken). option_map_or (λ (c : Taken). is_pinned c.standing) o false) h

    either : (b : Bool) → is_pinned chunk.standing ≡ b → is_pinned chunk.standing ≡ false
    either false e = e
    either true e =
        let one : count_of state.pinned place ≡ 1 = lists.pinned_each place ∙ ap (λ b. cond b 1 0) (standing ∙ e) in
        let none = empty state.pinned bare in
        absurd (omega (arith, one, none))

reported_in : (state : AgentState) (place : ℕ) (chunk : Taken) → PlacesMatch state → slice_get state.taken place ≡ Some chunk → model.is_reported chunk.standing ≡ true → IsIn (sheets_at state.taken state.reported) chunk.sheet
reported_in state place chunk lists h reported =
    let standing : stands model.is_reported state.taken place ≡ true = ap (λ (o : Option Taken). option_map_or (λ (c : Taken). model.is_reported c.standing) o false) h ∙ reported in
    let one : count_of state.reported place ≡ 1 = lists.reported_each place ∙ ap (λ b. cond b 1 0) standing in
    shown_at state.taken state.reported place chunk (counted_in state.reported place (omega (arith, one))) h

-- ---- a record

module _ (plays : FollowingPlaysOut) (runs : RunsAreOfTheJournal) (order : ChunksAreTakenInOrder) (timed : TimedPagesAreThePages) (keeps : AgentsKeepTheirModel) (drawn : TakenPagesWereDrawn) (carried : PagesCarryTheRecords) (W : PlainWorkload)
    (J : PlainJournal) (ends : EndsItsTraces W) (laid : HasItsClients W) (lawful : IsLawful W J)
  where
    abbrev run : Run
    run = followed W J

    abbrev of_journal : NodesAreOfJournal W J run
    of_journal = runs W J run (plays W J).leads

    nothing_pinned : (i : ℕ) (node : NodeRun) → slice_get run.nodes i ≡ Some node → length node.state.pinned ≡ 0
    nothing_pinned i node h =
        let left = all_at (λ (n : NodeRun). is_left_bare run n ≡ true) run.nodes i node (passed (is_left_bare run) run.nodes lawful.L10) h in
        eqb-true (length node.state.pinned) 0
        (and_parts
        (list_all (λ (c : ℕ × ClientSends). took_all node.state.log c.0 c.1) (zip (range_with_len 0 (length node.sends)) node.sends)
        && nat_eq (taken Asks node.state.log) (length (asks_to node.node run.heard))
        && nat_eq (count_by (is_from (record { 0 = node.node })) run.heard) (length node.state.said))
        (nat_eq (length node.state.pinned) 0) left).1
      where
        passed : {X : Type 0} (p : X → Bool) (xs : List X) → list_all p xs ≡ true → AllByRecursion (λ x. p x ≡ true) xs
        passed p [] h = tt
        passed p (x ∷ xs) h = let both = and_parts (p x) (list_all p xs) h in (both.0, passed p xs both.1)

    module _ (place : ℕ) (below : place < length W.clients) where
      abbrev client : ClientId
      client = client_at W.settings.clients place

      abbrev pages : List PlainPage
      pages = pages_of W.settings.size (operations_at W place)

      abbrev draws : List Draw
      draws = draws_at J place

      abbrev fates : ℕ → Draw → Fate
      fates = page_fate (agent_books run) client

      abbrev fated : List FatedPage
      fated = fated_by fates 0 draws (map note_of pages)

      abbrev At : ℕ → PlainPage → Draw → Type 0
      At at plain draw = (slice_get pages at ≡ Some plain) × (slice_get draws at ≡ Some draw)

      caused : (at : ℕ) (plain : PlainPage) (draw : Draw) → slice_get pages at ≡ Some plain → slice_get draws at ≡ Some draw → Gives run client at draw (fates at draw)
      caused at plain draw h d = gives plays runs W J client at draw (λ buffer stamp e. there plays runs order timed W J ends laid lawful place below at plain draw h d (ap has_buffer e))

      taken_of : (at : ℕ) (draw : Draw) (f : Fate) → Gives run client at draw f → is_discarded f ≡ false → WasTaken run client at f
      taken_of at (Empty stamp) f is kept = let no : true ≡ false = ap is_discarded (sym is) ∙ kept in absurd cc
      taken_of at (Got buffer stamp) f was kept = was

      sheet_is : (at : ℕ) (plain : PlainPage) (f : Fate) (t : WasTaken run client at f) → slice_get pages at ≡ Some plain → t.chunk.sheet ≡ sheet_for client at plain
      sheet_is at plain f t h =
          let sheet = t.chunk.sheet in
          let of = all_at (IsOfJournal W J) run.nodes client.node t.node of_journal.each t.here in
          let number = number_is plays runs W J client.node t.node t.here in
          let low = node_below plays runs order timed W J ends laid lawful place below in
          let chunk_drawn = all_at (λ (chunk : Taken). IsOfDrawnPage t.node chunk.sheet) t.node.state.taken t.place t.chunk
          (all_at (λ (n : NodeRun). AllByRecursion (λ (chunk : Taken). IsOfDrawnPage n chunk.sheet) n.state.taken) run.nodes client.node t.node (drawn W J) t.here) t.taken
          in
          let p = (of_drawn timed W J ends t.node sheet (omega (arith, number, low)) of.sends chunk_drawn).0 in
          let its_place : place_of W.settings.clients sheet.header.client.node sheet.header.client.number ≡ place =
          ap (λ (c : ClientId). place_of W.settings.clients c.node c.number) t.client_is ∙ back plays runs order timed W J ends laid lawful place below
          in
          let same : p.page ≡ plain =
          same_Some p.page plain
          (sym p.there ∙ ap (λ (q : ℕ). slice_get (pages_of W.settings.size (operations_at W q)) sheet.header.page) its_place ∙ ap (slice_get pages) t.page_is ∙ h)
          in
          p.is ∙ ap (λ (c : ClientId). sheet_for c sheet.header.page p.page) t.client_is ∙ ap (λ (n : ℕ). sheet_for client n p.page) t.page_is ∙ ap (sheet_for client at) same

      -- ---- where one page was reported and no other was discarded

      module _ (n at : ℕ) (plain : PlainPage) (draw : Draw) (there_is : At at plain draw) (low : first_record plain ≤ n) (high : n < end_of plain) (kept : is_discarded (fates at draw) ≡ false)
          (first_at : ℕ) (first : PlainPage) (first_draw : Draw) (first_is : At first_at first first_draw) (first_low : first_record first ≤ n) (first_high : n < end_of first) (reported : is_reported (fates first_at first_draw) ≡ true)
          (first_kept : is_discarded (fates first_at first_draw) ≡ false)
        where
          abbrev one : WasTaken run client at (fates at draw)
          one = taken_of at draw (fates at draw) (caused at plain draw there_is.0 there_is.1) kept

          abbrev lead : WasTaken run client first_at (fates first_at first_draw)
          lead = taken_of first_at first_draw (fates first_at first_draw) (caused first_at first first_draw first_is.0 first_is.1) first_kept

          same_node : lead.node ≡ one.node
          same_node = same_Some lead.node one.node (sym lead.here ∙ one.here)

          model_of : KeepsItsModel W.settings one.node
          model_of = all_at (KeepsItsModel W.settings) run.nodes client.node one.node (keeps W J) one.here

          stands_by : (t : NodeRun) (place : ℕ) (chunk : Taken) → KeepsItsModel W.settings t → slice_get t.state.taken place ≡ Some chunk → StandsByClaim t.state.claims (trace_of chunk) chunk.standing
          stands_by t place chunk m h = all_at (λ (c : Taken). StandsByClaim t.state.claims (trace_of c) c.standing) t.state.taken place chunk m.claims h

          trace_same : trace_of lead.chunk ≡ trace_of one.chunk
          trace_same =
              let size = W.settings.size in
              let ops = operations_at W place in
              let a = trace_on carried size ops ends.size (ends_at W.clients place ends.ends) first_at n first first_is.0 first_low first_high in
              let b = trace_on carried size ops ends.size (ends_at W.clients place ends.ends) at n plain there_is.0 low high in
              ap (λ (s : Sheet). s.header.trace) (sheet_is first_at first (fates first_at first_draw) lead first_is.0)
              ∙ same_Some first.trace plain.trace (sym a ∙ b)
              ∙ ap (λ (s : Sheet). s.header.trace) (sym (sheet_is at plain (fates at draw) one there_is.0))

          claim : (group : Group) × (claiming_group one.node.state.claims (trace_of one.chunk) ≡ Some group)
          claim =
              let m = subst (KeepsItsModel W.settings) (sym same_node) model_of in
              let g = reported_group lead.node.state.claims (trace_of lead.chunk) lead.chunk.standing (ap is_reported (sym lead.fate_is) ∙ reported) (stands_by lead.node lead.place lead.chunk m lead.taken) in (
                g.0,
                ap (λ (trace : TraceId). claiming_group one.node.state.claims trace) (sym trace_same)
                    ∙ ap (λ (t : NodeRun). claiming_group t.state.claims (trace_of lead.chunk)) (sym same_node)
                    ∙ g.1,
              )

          chunk_reported : model.is_reported one.chunk.standing ≡ true
          chunk_reported =
              stays_reported one.node.state.claims (trace_of one.chunk) claim.0 one.chunk.standing claim.1 (ap is_discarded (sym one.fate_is) ∙ kept) (stands_by one.node one.place one.chunk model_of one.taken)
              (none_pinned one.node.state one.place one.chunk model_of.lists (nothing_pinned client.node one.node one.here) one.taken)

          page_reported : IsIn (outcome_of W J).reported (sheet_for client at plain)
          page_reported =
              let shown = reported_in one.node.state one.place one.chunk model_of.lists one.taken chunk_reported in
              let found = in_flat reported_at run.nodes client.node one.node shown.place one.chunk.sheet one.here shown.there in
              record { place = found.0; there = found.1 ∙ ap Some (sheet_is at plain (fates at draw) one there_is.0) }

      -- ---- the entries

      abbrev IsRight : Entry → Type 0
      IsRight entry = is_reported entry.fate ≡ true → HasAllItsPages W (outcome_of W J).reported entry

      abbrev IsOne : ℕ → FatedPage → Type 0
      IsOne n f = IsPageOf fates 0 pages draws f × (has_piece_of n f ≡ true)

      has_piece : (n : ℕ) (plain : PlainPage) (f : Fate) → first_record plain ≤ n → n < end_of plain → has_piece_of n (record { note = note_of plain; fate = f }) ≡ true
      has_piece n plain f low high = both (le-leb (first_record plain) n low) (lt-ltb n (end_of plain) high)
        where
          both : {a b : Bool} → a ≡ true → b ≡ true → (a && b) ≡ true
          both {a = true} e f = f
          both {a = false} e f = e

      entries_right : (n : ℕ) (list : List FatedPage) → list ≡ filter (has_piece_of n) fated → AllByRecursion (IsOne n) list → AllByRecursion IsRight (entry_on client n list)
      entries_right n [] is all = tt
      entries_right n (f ∷ list) is all = (right, tt)
        where
          right : is_reported (record_fate f.fate (map (λ (other : FatedPage). other.fate) list)) ≡ true
              → HasAllItsPages W (outcome_of W J).reported (record { id = record { client = client; number = n }; trace = f.note.trace; fate = record_fate f.fate (map (λ (other : FatedPage). other.fate) list) })
          right reported at plain h low high =
              let kept = all_kept f.fate (map (λ (other : FatedPage). other.fate) list) reported in
              let every = subst (AllByRecursion (λ (f : FatedPage). is_discarded f.fate ≡ false)) is (all_unmap (λ f. is_discarded f ≡ false) (λ (other : FatedPage). other.fate) (f ∷ list) kept.0) in
              let of = back plays runs order timed W J ends laid lawful place below in
              let there_at : slice_get pages at ≡ Some plain = ap (λ (q : ℕ). slice_get (pages_of W.settings.size (operations_at W q)) at) (sym of) ∙ h in
              let long = same_length J.draws W.clients W.settings.size place (shape_counts W J lawful.L1) in
              let most = slice_get_within pages at plain there_at in
              let d = get_there draws at (omega (arith, long, most)) in
              let zeroth : 0 + at ≡ at = omega arith in
              let one : is_discarded (fates (0 + at) d.0) ≡ false =
              unfilter (λ (f : FatedPage). is_discarded f.fate ≡ false) (has_piece_of n) fated at (record { note = note_of plain; fate = fates (0 + at) d.0 }) (fated_at fates 0 pages draws at plain d.0 there_at d.1)
              (has_piece n plain (fates (0 + at) d.0) low high) every
              in
              let p = all.0.0 in
              let first_zeroth : 0 + p.at ≡ p.at = omega arith in
              let first_fate : f.fate ≡ fates p.at p.draw = p.fate_is ∙ ap (λ (k : ℕ). fates k p.draw) first_zeroth in
              let piece = and_parts (leb f.note.first n) (ltb n (note_end f.note)) all.0.1 in
              let first_low : first_record p.plain ≤ n = subst (λ (note : PageNote). note.first ≤ n) p.note_is (leb-true f.note.first n piece.0) in
              let first_high : n < end_of p.plain = subst (λ (note : PageNote). n < note_end note) p.note_is (ltb-true n (note_end f.note) piece.1) in
              contained (outcome_of W J).reported (sheet_for client at plain)
              (page_reported n at plain d.0 (there_at, d.1) low high (ap (λ (k : ℕ). is_discarded (fates k d.0)) (sym zeroth) ∙ one) p.at p.plain p.draw (p.page_there, p.draw_there) first_low first_high
              (ap is_reported (sym first_fate) ∙ kept.1) (ap is_discarded (sym first_fate) ∙ kept.0.0))

      client_right : AllByRecursion IsRight (book_entries client (fated_pages (agent_books run) (client_book W J place)))
      client_right =
          all_flat_map IsRight (record_entry client fated) (range_with_len 0 (record_count (map (λ (page : FatedPage). page.note) fated)))
          (λ n. entries_right n (filter (has_piece_of n) fated) refl (both_filter (IsPageOf fates 0 pages draws) (has_piece_of n) fated (pages_of_fated fates 0 pages draws)))

    all_right : AllByRecursion (λ (entry : Entry). is_reported entry.fate ≡ true → HasAllItsPages W (outcome_of W J).reported entry) (outcome_of W J).entries
    all_right =
        let P : Entry → Type 0 = λ (entry : Entry). is_reported entry.fate ≡ true → HasAllItsPages W (outcome_of W J).reported entry in
        subst (AllByRecursion P) (sym (flat_map-map (λ (book : PlainClientBook). book_entries book.client (fated_pages (agent_books run) book)) (client_book W J) (range_with_len 0 (length W.clients))))
        (all_flat_range P (λ place. book_entries (client_at W.settings.clients place) (fated_pages (agent_books run) (client_book W J place))) 0 (length W.clients)
        (λ place below. let low : place < length W.clients = omega (arith, below) in client_right place low))

pub reported_records_have_all_pages : FollowingPlaysOut → RunsAreOfTheJournal → ChunksAreTakenInOrder → TimedPagesAreThePages → AgentsKeepTheirModel → TakenPagesWereDrawn → PagesCarryTheRecords → ReportedRecordsHaveAllPages
reported_records_have_all_pages plays runs order timed keeps drawn carried W J ends laid lawful = all_right plays runs order timed keeps drawn carried W J ends laid lawful
