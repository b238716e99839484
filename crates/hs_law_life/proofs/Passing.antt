-- How the life of a node goes on by each part of a pass.
use Rattle.std.proofs.Common.{◌≡◌, ℕ, zero, suc, Bool, true, false, inl, inr, List, [], ◌∷◌, ◌++◌, map, Option, Some, None, refl, sym, ap, subst, ◌∙◌, append_assoc, append-nil, slice_get}
use Rattle.std.specs.Prelude.{◌⊎◌}
use Rattle.std.specs.Option.{option_map_or}
use Rattle.hs_base.specs.declared.told.Told.{Told}
use Rattle.hs_base.proofs.Bools.{second_true}
use Rattle.hs_records.specs.Plain.{PlainSettings}
use Rattle.hs_words.specs.Buffers.{Buffer}
use Rattle.hs_ring.specs.Parts.{Leased}
use Rattle.hs_agent.specs.Runs.{AgentRun, bare_run, state_of}
use Rattle.hs_claimed.specs.Claims.{PlainClaims}
use Rattle.hs_inbox.specs.Delivering.{PlainInbox}
use Rattle.hs_mail.specs.Letters.{Letters}
use Rattle.hs_law_agent.specs.Lives.{is_settled}
use Rattle.hs_wire.specs.declared.message.Standing.{Standing}
use Rattle.hs_intake.specs.declared.took.Turned.{Turned}
use Rattle.hs_intake.specs.declared.took.Turned.TheVariants as turned
use Rattle.hs_intake.specs.declared.took.Stated.{Stated}
use Rattle.hs_intake.specs.declared.took.Stated.TheVariants as stated
use Rattle.hs_intake.specs.declared.took.Took.{Took}
use Rattle.hs_intake.specs.Intakes.{PlainIntake, Waiting, Chunk, Crumbs, Triggers, IntakeAct, TakesChunk, TakesAsk, Turns, LetsGo, Forgets, after_act, life, Line, Lines, chunk_line, crumb_line, late_line, trigger_line, acts_in, Stands}
use Rattle.hs_intake.specs.Taking.{TakesMany, TakesLine, TakesTriggers, TakesBack, MakesTurn, StatesIt}
use Rattle.hs_intake.proofs.Acts.{life_append}
use Rattle.hs_node.specs.Nodes.{PlainNode, is_unspent}
use Rattle.hs_node.specs.declared.pass.TheConstants.{MOST_NOTES, MOST_OFFERS}
use Rattle.hs_base.specs.declared.limits.TheConstants.{MAX_TAKEN}
use Rattle.hs_node.specs.Passing.{Doing, Then, Each, Until, Hears, HearsFrom, HearsAll, TakesChunks, TakesCrumbs, TakesLates, TakesTriggersOf, TakesFrom, TakesAll, TakesAsked, SaysFirst, TakesFront, Takes, OffersOne, OffersAll, StatesNext, LooksOn, StatesOne, StatesAll, ForgetsOne, ForgetsAll, Passes}
use Rattle.hs_node.specs.Passing as parts
use Rattle.hs_law_life.specs.NodeLives.{IsSettledAt, AreSettled, chunks_of, front_of, run_by, HasLived}
use Rattle.hs_law_life.proofs.Sparing.{settled_both}
use Rattle.hs_law_life.proofs.Speaking.{Speaks, no_parts, none_at_front, back_map, back_front, speaks_more, speaks_quiet, speaks_tells, speaks_says, speaks_states, speaks_offers}
use Rattle.hs_law_life.proofs.Counts.{Counts, counts_none, chunks_append, takings_none, chunk_stops, IsOther, other_same, other_stops}

-- ---- the lines

crumbs_other : IsOther crumb_line
crumbs_other = record { takes = λ client x. refl; waits = λ k client x. refl; keeps = λ lines ends. refl; leaves = λ run client x. refl; offers = λ run client x. tt }

lates_other : IsOther late_line
lates_other = record { takes = λ client x. refl; waits = λ k client x. refl; keeps = λ lines ends. refl; leaves = λ run client x. refl; offers = λ run client x. tt }

triggers_other : IsOther trigger_line
triggers_other = record { takes = λ client x. refl; waits = λ k client x. refl; keeps = λ lines ends. refl; leaves = λ run client x. refl; offers = λ run client x. tt }

settled_map : {T : Type 0} (f : T → IntakeAct) → ((run : AgentRun Leased) (x : T) → IsSettledAt run (f x)) → (xs : List T) (run : AgentRun Leased) → AreSettled run (map f xs)
settled_map f each [] run = tt
settled_map f each (x ∷ xs) run = (each run x, settled_map f each xs (after_act run (f x)))

settled_front_act : (back : Option Waiting) (run : AgentRun Leased) → AreSettled run (acts_in back)
settled_front_act None run = tt
settled_front_act (Some (Chunk client buffer)) run = (tt, tt)
settled_front_act (Some (Crumbs client crumb)) run = (tt, tt)
settled_front_act (Some (Triggers client trigger)) run = (tt, tt)

-- ---- a life goes on

module _ (settings : PlainSettings) (node : ℕ) where
  abbrev Lived : List IntakeAct → PlainIntake → Type 0
  Lived acts d = HasLived settings node acts d

  -- by more acts, of which this is said
  abbrev More : List IntakeAct → PlainIntake → PlainIntake → Type 0
  More acts old new = (more : List IntakeAct) × (HasLived settings node (acts ++ more) new × Speaks (run_by settings node acts) more old new)

  abbrev Leads : Doing → Type 0
  Leads part = (acts : List IntakeAct) (old new : PlainNode) → Lived acts old.intake → part (run_by settings node acts) old new → More acts old.intake new.intake

  lived_more : (acts more : List IntakeAct) (old new : PlainIntake) → Lived acts old → Stands (life (run_by settings node acts) more) new → AreSettled (run_by settings node acts) more → Counts more old new
      → Speaks (run_by settings node acts) more old new → More acts old new
  lived_more acts more old new lived stands settled counts speaks = (
    more,
    (
      record {
        stands = subst (λ (r : AgentRun Leased). Stands r new) (sym (life_append acts more (bare_run settings node))) stands;
        settled = settled_both acts more (bare_run settings node) lived.settled settled;
        took = λ client.
            counts client (chunks_of client acts) (lived.took client) ∙ sym (append_assoc (chunks_of client acts) (chunks_of client more) (front_of client new))
            ∙ ap (λ (l : List (Buffer Leased)). l ++ front_of client new) (sym (chunks_append client acts more));
      },
      speaks,
    ),
  )

  -- no act was done
  lived_same : (acts : List IntakeAct) (old new : PlainIntake) → Lived acts new → Speaks (run_by settings node acts) [] old new → More acts old new
  lived_same acts old new lived speaks = ([], (subst (λ (l : List IntakeAct). HasLived settings node l new) (sym (append-nil acts)) lived, speaks))

  still : (acts : List IntakeAct) (old new : PlainIntake) → Lived acts old → new ≡ old → More acts old new
  still acts old new lived same =
      lived_same acts old new (subst (λ (d : PlainIntake). HasLived settings node acts d) (sym same) lived)
      (speaks_quiet (run_by settings node acts) [] old new refl refl tt (ap (λ (d : PlainIntake). d.mail) same) (ap (λ (d : PlainIntake). d.unsaid) same))

  -- what is said, claimed and asked is none of it
  pub quiet : (acts : List IntakeAct) (d : PlainIntake) (mail : Letters) (inbox : PlainInbox) (claims : PlainClaims) (unsaid : Option Told) → inbox.rules ≡ d.inbox.rules → Lived acts d
      → Lived acts (record d { mail = mail; inbox = inbox; claims = claims; unsaid = unsaid })
  quiet acts d mail inbox claims unsaid rules lived =
      let s = lived.stands in
      record {
        stands =
            record {
              follows = s.follows;
              offered = s.offered;
              size = s.size;
              chunks = s.chunks;
              crumbs = s.crumbs;
              triggers = s.triggers;
              late = s.late;
              pooled = s.pooled;
              waits = s.waits;
              inbox = rules ∙ s.inbox;
            };
        settled = lived.settled;
        took = lived.took;
      }

  still_quiet : (acts : List IntakeAct) (old new : PlainIntake) (mail : Letters) (claims : PlainClaims) (unsaid : Option Told) → Lived acts old → new ≡ record old { mail = mail; claims = claims; unsaid = unsaid }
      → Speaks (run_by settings node acts) [] old new → More acts old new
  still_quiet acts old new mail claims unsaid lived is speaks =
      lived_same acts old new (subst (λ (d : PlainIntake). HasLived settings node acts d) (sym is) (quiet acts old mail old.inbox claims unsaid refl lived)) speaks

  -- ---- one part after another

  joined : (acts : List IntakeAct) (a b c : PlainIntake) (first : More acts a b) → More (acts ++ first.0) b c → More acts a c
  joined acts a b c first second = (
    first.0 ++ second.0,
    (
      subst (λ (l : List IntakeAct). HasLived settings node l c) (append_assoc acts first.0 second.0) second.1.0,
      speaks_more (run_by settings node acts) first.0 second.0 a b c first.1.1
          (subst (λ (r : AgentRun Leased). Speaks r second.0 b c) (life_append acts first.0 (bare_run settings node)) second.1.1),
    ),
  )

  then_leads : (a b : Doing) → Leads a → Leads b → Leads (Then a b)
  then_leads a b one two acts old new lived both =
      let first = one acts old both.mid lived both.does in
      joined acts old.intake both.mid.intake new.intake first
      (two (acts ++ first.0) both.mid new first.1.0 (both.next (run_by settings node (acts ++ first.0)) first.1.0.stands))

  each_leads : (part : ℕ → Doing) → ((n : ℕ) → Leads (part n)) → (n : ℕ) → Leads (Each part n)
  each_leads part leads zero acts old new lived same = still acts old.intake new.intake lived (ap (λ (d : PlainNode). d.intake) same)
  each_leads part leads (suc n) acts old new lived both = then_leads (Each part n) (part n) (each_leads part leads n) (leads n) acts old new lived both

  until_leads : (part : Bool → Doing) (most : ℕ) → ((b : Bool) → Leads (part b)) → Leads (Until part most)
  until_leads part most leads acts old new lived u = go u.ends
    where
      first : More acts old.intake u.mid.intake
      first = each_leads (λ n. part true) (λ n. leads true) u.count acts old u.mid lived u.does

      go : ((u.count ≡ most) × (new ≡ u.mid)) ⊎ ((later : AgentRun Leased) → Stands later u.mid.intake → part false later u.mid new) → More acts old.intake new.intake
      go (inl (full, same)) = subst (λ (d : PlainNode). More acts old.intake d.intake) (sym same) first
      go (inr next) =
          joined acts old.intake u.mid.intake new.intake first (leads false (acts ++ first.0) u.mid new first.1.0 (next (run_by settings node (acts ++ first.0)) first.1.0.stands))

  -- ---- notes

  hears : (client : ℕ) (b : Bool) → Leads (Hears client b)
  hears client true acts old new lived (segment, receives, notes, is) = still acts old.intake new.intake lived (ap (λ (d : PlainNode). d.intake) is)
  hears client false acts old new lived (same, why) = still acts old.intake new.intake lived (ap (λ (d : PlainNode). d.intake) same)

  hears_from : (client : ℕ) → Leads (HearsFrom client)
  hears_from client = until_leads (Hears client) MOST_NOTES (hears client)

  hears_all : Leads HearsAll
  hears_all acts old new lived each = each_leads HearsFrom hears_from old.clients acts old new lived each

  -- ---- what clients sent

  chunks_lead : (client : ℕ) (acts : List IntakeAct) (old : PlainIntake) (took : Took) (new : PlainIntake) → Lived acts old → TakesLine (run_by settings node acts) chunk_line client old took new → More acts old new
  chunks_lead client acts old took new lived (inl (high, (is, same))) = still acts old new lived same
  chunks_lead client acts old took new lived (inr (inl (low, (front, (is, same))))) = still acts old new lived same
  chunks_lead client acts old took new lived (inr (inr (low, (front, many)))) =
      lived_more acts (map (TakesChunk client) many.items) old new lived many.goes.stands (settled_map (TakesChunk client) (λ run x. tt) many.items (run_by settings node acts))
      (chunk_stops client many.items old took.stop new front many.stops)
      (speaks_tells (run_by settings node acts) (map (TakesChunk client) many.items) old new many.goes.tells (no_parts (TakesChunk client) (λ run x. refl) many.items (run_by settings node acts)) (back_map (TakesChunk client) (λ run x. tt) many.items (run_by settings node acts)))

  many_leads : {T : Type 0} (line : Line T) → IsOther line → ((client : ℕ) (run : AgentRun Leased) (x : T) → IsSettledAt run (line.takes client x)) → (client : ℕ) (acts : List IntakeAct) (old : PlainIntake) (took : Took) (new : PlainIntake)
      → Lived acts old → old.back ≡ None → TakesMany (run_by settings node acts) line client old took new → More acts old new
  many_leads line other settled client acts old took new lived front many =
      lived_more acts (map (line.takes client) many.items) old new lived many.goes.stands (settled_map (line.takes client) (settled client) many.items (run_by settings node acts))
      (other_stops line other client many.items old took.stop new front many.stops)
      (speaks_tells (run_by settings node acts) (map (line.takes client) many.items) old new many.goes.tells
      (no_parts (line.takes client) (λ run x. other.leaves run client x) many.items (run_by settings node acts))
      (back_map (line.takes client) (λ run x. other.offers run client x) many.items (run_by settings node acts)))

  line_leads : {T : Type 0} (line : Line T) → IsOther line → ((client : ℕ) (run : AgentRun Leased) (x : T) → IsSettledAt run (line.takes client x)) → (client : ℕ) (acts : List IntakeAct) (old : PlainIntake) (took : Took) (new : PlainIntake)
      → Lived acts old → TakesLine (run_by settings node acts) line client old took new → More acts old new
  line_leads line other settled client acts old took new lived (inl (high, (is, same))) = still acts old new lived same
  line_leads line other settled client acts old took new lived (inr (inl (low, (front, (is, same))))) = still acts old new lived same
  line_leads line other settled client acts old took new lived (inr (inr (low, (front, many)))) = many_leads line other settled client acts old took new lived front many

  takes_chunks : (client : ℕ) → Leads (TakesChunks client)
  takes_chunks client acts old new lived (took, takes, is) = chunks_lead client acts old.intake took new.intake lived takes

  takes_crumbs : (client : ℕ) → Leads (TakesCrumbs client)
  takes_crumbs client acts old new lived (took, takes, is) = line_leads crumb_line crumbs_other (λ c run x. tt) client acts old.intake took new.intake lived takes

  takes_lates : (client : ℕ) → Leads (TakesLates client)
  takes_lates client acts old new lived (took, takes, is) = line_leads late_line lates_other (λ c run x. tt) client acts old.intake took new.intake lived takes

  triggers_lead : (client : ℕ) (acts : List IntakeAct) (old : PlainIntake) (took : _) (new : PlainIntake) → Lived acts old → TakesTriggers (run_by settings node acts) client old took new → More acts old new
  triggers_lead client acts old took new lived (inl (high, (is, same))) = still acts old new lived same
  triggers_lead client acts old took new lived (inr (inl (low, (front, (is, same))))) = still acts old new lived same
  triggers_lead client acts old took new lived (inr (inr (low, (front, inl (room, (many, limited)))))) =
      many_leads trigger_line triggers_other (λ c run x. tt) client acts old took.took new lived front many
  triggers_lead client acts old took new lived (inr (inr (low, (front, inr (short, drops))))) =
      lived_more acts [] old new lived drops.stands tt
      (counts_none [] old new (other_same trigger_line triggers_other client drops.items old new drops.moves) (λ k. ap (λ (d : PlainIntake). front_of k d) drops.only) refl)
      (speaks_quiet (run_by settings node acts) [] old new refl refl tt (ap (λ (d : PlainIntake). d.mail) drops.only) (ap (λ (d : PlainIntake). d.unsaid) drops.only))

  takes_triggers : (client : ℕ) → Leads (TakesTriggersOf client)
  takes_triggers client acts old new lived (took, takes, is) = triggers_lead client acts old.intake took new.intake lived takes

  takes_from : (client : ℕ) → Leads (TakesFrom client)
  takes_from client =
      then_leads (HearsFrom client) (Then (TakesChunks client) (Then (TakesCrumbs client) (Then (TakesLates client) (TakesTriggersOf client)))) (hears_from client)
      (then_leads (TakesChunks client) (Then (TakesCrumbs client) (Then (TakesLates client) (TakesTriggersOf client))) (takes_chunks client)
      (then_leads (TakesCrumbs client) (Then (TakesLates client) (TakesTriggersOf client)) (takes_crumbs client)
      (then_leads (TakesLates client) (TakesTriggersOf client) (takes_lates client) (takes_triggers client))))

  takes_all : Leads TakesAll
  takes_all acts old new lived each = each_leads TakesFrom takes_from old.clients acts old new lived each

  takes_asked : Leads TakesAsked
  takes_asked acts old new lived (took, takes, is) =
      lived_more acts (map TakesAsk takes.asks) old.intake new.intake lived takes.goes.stands (settled_map TakesAsk (λ run x. tt) takes.asks (run_by settings node acts))
      (counts_none (map TakesAsk takes.asks) old.intake new.intake (ap (λ (d : PlainIntake). d.port.chunks) takes.only) (λ k. ap (λ (d : PlainIntake). front_of k d) takes.only)
      (takings_none TakesAsk (λ x. refl) takes.asks))
      (speaks_tells (run_by settings node acts) (map TakesAsk takes.asks) old.intake new.intake takes.goes.tells (no_parts TakesAsk (λ run x. refl) takes.asks (run_by settings node acts)) (back_map TakesAsk (λ run x. tt) takes.asks (run_by settings node acts)))

  says_first : Leads SaysFirst
  says_first acts old new lived (says, is) =
      still_quiet acts old.intake new.intake new.intake.mail new.intake.claims new.intake.unsaid lived (ap (λ (d : PlainNode). d.intake) is)
      (speaks_says (run_by settings node acts) old.intake new.intake says)

  -- what waited at the front is taken
  back_leads : (did : Bool) (acts : List IntakeAct) (old new : PlainIntake) → Lived acts old → TakesBack (run_by settings node acts) old did new → More acts old new
  back_leads true acts old new lived (free, (lines, (clients, goes))) =
      lived_more acts (acts_in old.back) old new lived goes.stands (settled_front_act old.back (run_by settings node acts))
      (λ client before is.
      ap (λ (l : Lines). option_map_or (λ (r : _). r.received) (slice_get l.port.chunks client) []) lines ∙ is
      ∙ ap (λ (l : List (Buffer Leased)). before ++ l) (sym (append-nil (front_of client old)) ∙ ap (λ (o : Option Waiting). front_of client old ++ chunks_of client (acts_in o)) (sym free)))
      (speaks_tells (run_by settings node acts) (acts_in old.back) old new goes.tells (none_at_front (run_by settings node acts) old.back) (back_front (run_by settings node acts) old.back))
  back_leads false acts old new lived (there, same) = still acts old new lived same

  takes_front : Leads TakesFront
  takes_front acts old new lived (did, takes, is) = back_leads did acts old.intake new.intake lived takes

  takes : Leads Takes
  takes =
      then_leads SaysFirst (Then TakesFront (Then TakesAll (Then TakesAsked HearsAll))) says_first
      (then_leads TakesFront (Then TakesAll (Then TakesAsked HearsAll)) takes_front
      (then_leads TakesAll (Then TakesAsked HearsAll) takes_all (then_leads TakesAsked HearsAll takes_asked hears_all)))

  -- ---- a turn, and the hand

  turn_leads : (did : Turned) (acts : List IntakeAct) (old new : PlainIntake) → Lived acts old → is_unspent did ≡ true → MakesTurn (run_by settings node acts) old did new → More acts old new
  turn_leads turned.Done acts old new lived unspent (places, (is, goes)) =
      lived_more acts (Turns ∷ []) old new lived goes.stands (tt, tt)
      (counts_none (Turns ∷ []) old new (ap (λ (d : PlainIntake). d.port.chunks) is) (λ k. ap (λ (d : PlainIntake). front_of k d) is) refl)
      (speaks_tells (run_by settings node acts) (Turns ∷ []) old new goes.tells refl (tt, tt))
  turn_leads turned.Full acts old new lived unspent (none, same) = still acts old new lived same
  turn_leads turned.Spent acts old new lived unspent makes = absurd cc

  turn_part : Leads parts.Turns
  turn_part acts old new lived (did, unspent, makes, is) = turn_leads did acts old.intake new.intake lived unspent makes

  offers_one : (b : Bool) → Leads (OffersOne b)
  offers_one true acts old new lived (parted, given, (only, (says, offers)), notes, is) =
      lived_more acts (LetsGo offers.answer offers.back ∷ []) old.intake new.intake lived offers.stands (tt, tt)
      (counts_none (LetsGo offers.answer offers.back ∷ []) old.intake new.intake (ap (λ (d : PlainIntake). d.port.chunks) only) (λ k. ap (λ (d : PlainIntake). front_of k d) only) refl)
      (speaks_offers (run_by settings node acts) old.intake new.intake parted given offers says (ap (λ (d : PlainIntake). d.unsaid) only))
  offers_one false acts old new lived (same, why) = still acts old.intake new.intake lived (ap (λ (d : PlainNode). d.intake) same)

  offers_all : Leads OffersAll
  offers_all acts old new lived until = until_leads OffersOne MOST_OFFERS offers_one acts old new lived until

  -- ---- claims

  states_it : (standing : Standing) (did : Stated) (acts : List IntakeAct) (old new : PlainIntake) → Lived acts old → StatesIt old standing did new → More acts old new
  states_it standing stated.Said acts old new lived (news, (number, posts, is)) =
      still_quiet acts old new new.mail new.claims old.unsaid lived (is ∙ ap (λ (c : PlainClaims). record old { mail = new.mail; claims = c }) (sym (ap (λ (d : PlainIntake). d.claims) is)))
      (speaks_states (run_by settings node acts) old new standing number posts (ap (λ (d : PlainIntake). d.unsaid) is))
  states_it standing stated.Known acts old new lived (known, same) = still acts old new lived same
  states_it standing (stated.Waits fault) acts old new lived (news, (same, posts)) = still acts old new lived same

  states_next : (b : Bool) → Leads (StatesNext b)
  states_next true acts old new lived (claim, did, said, at, states, is) = states_it _ did acts old.intake new.intake lived states
  states_next false acts old new lived (same, why) = still acts old.intake new.intake lived (ap (λ (d : PlainNode). d.intake) same)

  looks_on : Leads LooksOn
  looks_on acts old new lived is =
      still_quiet acts old.intake new.intake old.intake.mail new.intake.claims old.intake.unsaid lived
      (ap (λ (d : PlainNode). d.intake) is ∙ ap (λ (c : PlainClaims). record old.intake { claims = c }) (sym (ap (λ (d : PlainNode). d.intake.claims) is)))
      (speaks_quiet (run_by settings node acts) [] old.intake new.intake refl refl tt (ap (λ (d : PlainNode). d.intake.mail) is) (ap (λ (d : PlainNode). d.intake.unsaid) is))

  states_one : (b : Bool) → Leads (StatesOne b)
  states_one true = then_leads (StatesNext true) LooksOn (states_next true) looks_on
  states_one false = states_next false

  states_all : Leads StatesAll
  states_all acts old new lived (inl (some, same)) = still acts old.intake new.intake lived (ap (λ (d : PlainNode). d.intake) same)
  states_all acts old new lived (inr (none, until)) = until_leads StatesOne MAX_TAKEN states_one acts old new lived until

  forgets_one : (b : Bool) → Leads (ForgetsOne b)
  forgets_one true acts old new lived (above, (one, oldest, due, only, stands), is) =
      lived_more acts (Forgets one.group ∷ []) old.intake new.intake lived stands (second_true _ (is_settled one.group (state_of (run_by settings node acts))) due, tt)
      (counts_none (Forgets one.group ∷ []) old.intake new.intake (ap (λ (d : PlainIntake). d.port.chunks) only) (λ k. ap (λ (d : PlainIntake). front_of k d) only) refl)
      (speaks_quiet (run_by settings node acts) (Forgets one.group ∷ []) old.intake new.intake refl refl (tt, tt) (ap (λ (d : PlainIntake). d.mail) only) (ap (λ (d : PlainIntake). d.unsaid) only))
  forgets_one false acts old new lived (same, why) = still acts old.intake new.intake lived (ap (λ (d : PlainNode). d.intake) same)

  forgets_all : Leads ForgetsAll
  forgets_all = until_leads ForgetsOne MAX_TAKEN forgets_one

  -- ---- a pass

  pub passes_lead : Leads Passes
  passes_lead =
      then_leads Takes (Then parts.Turns (Then OffersAll (Then StatesAll ForgetsAll))) takes
      (then_leads parts.Turns (Then OffersAll (Then StatesAll ForgetsAll)) turn_part
      (then_leads OffersAll (Then StatesAll ForgetsAll) offers_all (then_leads StatesAll ForgetsAll states_all forgets_all)))
