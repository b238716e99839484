-- How a node speaks on in its life, and what that comes to.
use Rattle.std.proofs.Common.{◌≡◌, ℕ, Bool, true, false, cond, List, [], ◌∷◌, ◌++◌, map, Option, None, refl, sym, ap, subst, ◌∙◌, append_assoc, append-nil}
use Rattle.std.specs.Prelude.{Result, Ok, Err, filter, filter_map}
use Rattle.std.specs.Option.{option_to_list}
use Rattle.std.proofs.lemmas.Bool.{and_from, le-leb, lt-ltb}
use Rattle.std.proofs.lemmas.List.Elements.{filter_map-append}
use Rattle.hs_base.specs.declared.told.Told.{Told}
use Rattle.hs_base.specs.declared.told.Trigger.{Trigger}
use Rattle.hs_base.specs.declared.ids.NodeId.{NodeId}
use Rattle.hs_records.specs.Plain.{PlainSettings}
use Rattle.hs_ring.specs.Parts.{Leased}
use Rattle.hs_wire.specs.Messages.{Said, PlainReported, PlainHello, SaysHello, SaysTold, SaysAsk, SaysReported, SaysStanding}
use Rattle.hs_outbox.specs.Queue.{Pending, Queue, Puts, pending_of, may_put, has_number, empty}
use Rattle.hs_outbox.specs.Queue as queue
use Rattle.hs_outbox.specs.Lives.{all_put}
use Rattle.hs_outbox.specs.declared.outbox.Put.TheVariants as puts
use Rattle.hs_inbox.specs.Delivering.{PlainInbox, Delivers}
use Rattle.hs_inbox.specs.declared.inbox.AskDelivered.{AskDelivered}
use Rattle.hs_mail.specs.declared.mail.Room.{Room}
use Rattle.hs_mail.specs.declared.mail.Unposted.{Unposted}
use Rattle.hs_mail.specs.Letters.{Letters, MailDeed, Says, HandsOut, Acknowledges, OffersAgain, Causes, Posts, after, both, first_offered, is_page, message_of, no_letters}
use Rattle.hs_mail.specs.Lives.{IsInOrder, acts_of}
use Rattle.hs_mail.specs.Lives as mail
use Rattle.hs_settings.specs.Settings.{PlainService}
use Rattle.hs_law_agent.specs.State.{AgentState}
use Rattle.hs_law_agent.specs.Laws.{EventsAddThis, StepsSayWhatTheyTell}
use Rattle.hs_law_agent.specs.Lives.{EventsLeadOn}
use Rattle.hs_law_agent.specs.Stepping.{AgentEvent, Took, Gave, Triggered, after_event, after_from, told_by}
use Rattle.hs_law_agent.specs.Stepping as steps
use Rattle.hs_agent.specs.Points.{sheet_in}
use Rattle.hs_agent.specs.Runs.{AgentRun, bare_run, state_of}
use Rattle.hs_agent.specs.Tries.{after_trigger}
use Rattle.hs_intake.specs.Intakes.{PlainIntake, IntakeAct, TakesChunk, TakesCrumb, TakesTrigger, TakesAsk, Turns, LetsGo, Forgets, after_act, life, has_left, told_at, told_in}
use Rattle.hs_intake.proofs.Claiming.{mail_append}
use Rattle.hs_intake.proofs.Acts.{told_append}
use Rattle.hs_node.specs.declared.making.MadeNode.{MadeNode}
use Rattle.hs_node.specs.Made.{IsMadeBy, run_settings}
use Rattle.hs_node.specs.Nodes.{PlainNode, Part, parts_in, told_of, page_of}
use Rattle.hs_node.specs.Passing.{Passes}
use Rattle.hs_law_life.specs.NodeLives.{HasLived, run_by}
use Rattle.hs_law_life.specs.Saying.{MailPlace, place_in, AreReported, said_by, said_in, messages_in, has_page, has_word, first_mail, IsPosted, ArePosted, Carries, HasSpoken, IsSaid}
use Rattle.hs_law_life.proofs.Reported.{first_reports}
use Rattle.hs_law_life.proofs.Speaking.{back_append, Speaks, parts_append, reported_append, posted_append, place_stays}
use Rattle.hs_law_life.proofs.Passing.{quiet, passes_lead}
use Rattle.hs_law_life.proofs.Living.{begins_by, same_rules}

-- ---- what deeds say

said_plain : (said : List Said) → said_in (map Says said) ≡ said
said_plain [] = refl
said_plain (x ∷ said) = ap (λ (l : List Said). x ∷ l) (said_plain said)

said_more : (deeds : List MailDeed) (said : List Said) → said_in (deeds ++ map Says said) ≡ said_in deeds ++ said
said_more deeds said = filter_map-append said_by deeds (map Says said) ∙ ap (λ (l : List Said). said_in deeds ++ l) (said_plain said)

carried_none : (deed : MailDeed) → Carries deed → said_in (deed ∷ []) ≡ []
carried_none (Says said) carries = absurd carries
carried_none (HandsOut number) carries = refl
carried_none (Acknowledges number) carries = refl
carried_none OffersAgain carries = refl

carried_posted : (m : Letters) (deed : MailDeed) → Carries deed → IsPosted m deed
carried_posted m (Says said) carries = absurd carries
carried_posted m (HandsOut number) carries = tt
carried_posted m (Acknowledges number) carries = tt
carried_posted m OffersAgain carries = tt

said_carried : (deeds : List MailDeed) (deed : MailDeed) → Carries deed → said_in (deeds ++ deed ∷ []) ≡ said_in deeds
said_carried deeds deed carries =
    filter_map-append said_by deeds (deed ∷ []) ∙ ap (λ (l : List Said). said_in deeds ++ l) (carried_none deed carries) ∙ append-nil (said_in deeds)

-- ---- a life goes on

module _ (settings : PlainSettings) (node : ℕ) (start : Letters) where
  abbrev Spoken : List IntakeAct → List MailDeed → PlainIntake → Type 0
  Spoken acts deeds d = HasSpoken settings node start acts deeds d

  pub spoken_on : (acts more : List IntakeAct) (deeds : List MailDeed) (old new : PlainIntake) → Spoken acts deeds old → HasLived settings node (acts ++ more) new → Speaks (run_by settings node acts) more old new
      → (said : List MailDeed) × Spoken (acts ++ more) (deeds ++ said) new
  spoken_on acts more deeds old new has lived speaks =
      let run = bare_run settings node in
      let later = life run acts in
      let said = said_in deeds in (
        map Says speaks.said,
        record {
          lived = lived;
          mail = speaks.mail ∙ ap (λ (m : Letters). mail.life m (map Says speaks.said)) has.mail ∙ sym (mail_append deeds (map Says speaks.said) start);
          told =
              told_append acts more run
              ∙ ap (λ (l : List Told). l ++ told_in later more) has.told
              ∙ append_assoc (filter_map told_of said) (option_to_list old.unsaid) (told_in later more)
              ∙ ap (λ (l : List Told). filter_map told_of said ++ l) speaks.told
              ∙ sym (append_assoc (filter_map told_of said) (filter_map told_of speaks.said) (option_to_list new.unsaid))
              ∙ ap (λ (l : List Told). l ++ option_to_list new.unsaid) (sym (filter_map-append told_of said speaks.said))
              ∙ ap (λ (l : List Said). filter_map told_of l ++ option_to_list new.unsaid) (sym (said_more deeds speaks.said));
          parts =
              subst (λ (l : List Part). AreReported (place_in start) l (filter_map page_of (said_in (deeds ++ map Says speaks.said)))) (sym (parts_append acts more run))
              (subst (λ (l : List Said). AreReported (place_in start) (parts_in run acts ++ parts_in later more) (filter_map page_of l)) (sym (said_more deeds speaks.said))
              (subst (λ (l : List PlainReported). AreReported (place_in start) (parts_in run acts ++ parts_in later more) l) (sym (filter_map-append page_of said speaks.said))
              (reported_append (place_in start) (parts_in run acts) (parts_in later more) (filter_map page_of said) (filter_map page_of speaks.said) has.parts
              (subst (λ (place : MailPlace). AreReported place (parts_in later more) (filter_map page_of speaks.said)) (ap place_in has.mail ∙ place_stays deeds start) speaks.parts))));
          posted = posted_append deeds (map Says speaks.said) start has.posted (subst (λ (m : Letters). ArePosted m (map Says speaks.said)) has.mail speaks.posted);
          backs = back_append acts more run has.backs speaks.backs;
        },
      )

  pub pass_on : (acts : List IntakeAct) (deeds : List MailDeed) (old new : PlainNode) → Spoken acts deeds old.intake → Passes (run_by settings node acts) old new
      → (more : List IntakeAct) × ((said : List MailDeed) × Spoken (acts ++ more) (deeds ++ said) new.intake)
  pass_on acts deeds old new has passes =
      let led = passes_lead settings node acts old new has.lived passes in
      (led.0, spoken_on acts led.0 deeds old.intake new.intake has led.1.0 led.1.1)

  -- what a carrier does says nothing
  pub carry_on : (acts : List IntakeAct) (deeds : List MailDeed) (d : PlainIntake) (deed : MailDeed) → Carries deed → Spoken acts deeds d → Spoken acts (deeds ++ deed ∷ []) (record d { mail = after d.mail deed })
  carry_on acts deeds d deed carries has =
      record {
        lived = quiet settings node acts d (after d.mail deed) d.inbox d.claims d.unsaid refl has.lived;
        mail = ap (λ (m : Letters). after m deed) has.mail ∙ sym (mail_append deeds (deed ∷ []) start);
        told = has.told ∙ ap (λ (l : List Said). filter_map told_of l ++ option_to_list d.unsaid) (sym (said_carried deeds deed carries));
        parts = subst (λ (l : List Said). AreReported (place_in start) (parts_in (bare_run settings node) acts) (filter_map page_of l)) (sym (said_carried deeds deed carries)) has.parts;
        posted = posted_append deeds (deed ∷ []) start has.posted (carried_posted (mail.life start deeds) deed carries, tt);
        backs = has.backs;
      }

  speaks_hello : (acts : List IntakeAct) (d : PlainIntake) (hello : PlainHello) (number : ℕ) (m : Letters) → Posts d.mail (SaysHello hello) (Ok number) m → Speaks (run_by settings node acts) [] d (record d { mail = m })
  speaks_hello acts d hello number m posts =
      record { said = SaysHello hello ∷ []; mail = posts.done; told = append-nil (option_to_list d.unsaid); parts = refl; posted = ((refl, posts.cause.1), tt); backs = tt }

  pub hello_on : (acts : List IntakeAct) (deeds : List MailDeed) (d : PlainIntake) (hello : PlainHello) (answer : Result ℕ Unposted) (m : Letters) → Spoken acts deeds d → Posts d.mail (SaysHello hello) answer m
      → (said : List MailDeed) × Spoken acts (deeds ++ said) (record d { mail = m })
  hello_on acts deeds d hello (Ok number) m has posts =
      let lived = quiet settings node acts d m d.inbox d.claims d.unsaid refl has.lived in
      let on = spoken_on acts [] deeds d (record d { mail = m }) has (subst (λ (l : List IntakeAct). HasLived settings node l (record d { mail = m })) (sym (append-nil acts)) lived) (speaks_hello acts d hello number m posts) in
      (on.0, subst (λ (l : List IntakeAct). Spoken l (deeds ++ on.0) (record d { mail = m })) (append-nil acts) on.1)
  hello_on acts deeds d hello (Err fault) m has posts = (
    [],
    subst (λ (l : List MailDeed). Spoken acts l (record d { mail = m })) (sym (append-nil deeds))
        (subst (λ (m' : Letters). Spoken acts deeds (record d { mail = m' })) (sym posts.same) has),
  )

  pub hear_on : (acts : List IntakeAct) (deeds : List MailDeed) (d : PlainIntake) (bytes : List ℕ) (answer : AskDelivered) (inbox : PlainInbox) → Delivers d.inbox bytes answer inbox → Spoken acts deeds d
      → Spoken acts deeds (record d { inbox = inbox })
  hear_on acts deeds d bytes answer inbox delivers has =
      record {
        lived = quiet settings node acts d d.mail inbox d.claims d.unsaid (same_rules d.inbox bytes answer inbox delivers) has.lived;
        mail = has.mail;
        told = has.told;
        parts = has.parts;
        posted = has.posted;
        backs = has.backs;
      }

pub spoken_first : (s : PlainService) (number epoch : ℕ) (made : MadeNode) → IsMadeBy s number epoch made
    → HasSpoken (run_settings s) number (first_mail s number epoch) [] [] made.node.intake
spoken_first s number epoch made is =
    record { lived = begins_by s number epoch made is; mail = is.intake.mail_is; told = ap (λ (o : Option Told). option_to_list o) (sym is.intake.unsaid_is); parts = refl; posted = tt; backs = tt }

-- ---- what the model says

module _ (say : StepsSayWhatTheyTell) (on : EventsLeadOn) where
  took_says : (run : AgentRun Leased) (input : steps.Input)
      → (after_from run.settings run.node run.start (run.events ++ Took input ∷ [])).said ≡ (state_of run).said ++ option_to_list (told_by run.settings run.node (state_of run) input)
  took_says run input = ap (λ (s : AgentState). s.said) (on run.settings run.node run.start run.events (Took input ∷ [])) ∙ (say run.settings run.node (state_of run)).inputs input

  trigger_says : (run : AgentRun Leased) (client : ℕ) (trigger : Trigger) (b : Bool)
      → (state_of (cond b (after_trigger run client trigger) run)).said
      ≡ (state_of run).said ++ option_to_list (cond b (told_by run.settings run.node (state_of run) (Triggered client trigger)) None)
  trigger_says run client trigger true = took_says run (Triggered client trigger)
  trigger_says run client trigger false = sym (append-nil (state_of run).said)

  act_says : (run : AgentRun Leased) (act : IntakeAct) → (state_of (after_act run act)).said ≡ (state_of run).said ++ told_at run act
  act_says run (TakesChunk client buffer) = took_says run (steps.Chunk client (sheet_in buffer))
  act_says run (TakesCrumb client crumb) = took_says run (steps.Crumbed client crumb)
  act_says run (TakesTrigger client trigger) = trigger_says run client trigger (has_left run)
  act_says run (TakesAsk ask) = took_says run (steps.Asked ask)
  act_says run Turns = took_says run steps.Turn
  act_says run (LetsGo answer back) =
      ap (λ (s : AgentState). s.said) (on run.settings run.node run.start run.events (Gave answer ∷ [])) ∙ (say run.settings run.node (state_of run)).answers answer ∙ sym (append-nil (state_of run).said)
  act_says run (Forgets group) = sym (append-nil (state_of run).said)

  acts_say : (acts : List IntakeAct) (run : AgentRun Leased) → (state_of (life run acts)).said ≡ (state_of run).said ++ told_in run acts
  acts_say [] run = sym (append-nil (state_of run).said)
  acts_say (act ∷ acts) run =
      acts_say acts (after_act run act) ∙ ap (λ (l : List Told). l ++ told_in (after_act run act) acts) (act_says run act)
      ∙ append_assoc (state_of run).said (told_at run act) (told_in (after_act run act) acts)

-- ---- what is put

-- in the outbox of pages, or in that of words
put_in : (m : Letters) (said : Said) (b : Bool) → is_page said ≡ b → Causes m said (Ok m.fresh) → may_put (cond b m.pages m.words) (pending_of (message_of m said)) ≡ true
put_in m said b kind (is, (has, (free, (spelled, fits)))) =
    let q = subst (λ (b' : Bool). queue.Causes (cond b' m.pages m.words) (message_of m said) puts.Done) kind (free, (spelled, fits)) in
    and_from _ _ (and_from _ _ (le-leb _ _ q.0.fresh) (lt-ltb _ _ q.0.place)) (le-leb _ _ q.1.1)

abbrev pages_of : Letters → List MailDeed → List Pending
pages_of m deeds = map pending_of (filter has_page (messages_in m deeds))

put_first : (q : Queue) (p : Pending) (rest : Queue → List Pending) (later : List Pending) (b : Bool) → b ≡ true → rest (cond b (queue.with q p) q) ≡ later → cond b (p ∷ []) [] ++ rest (cond b (queue.with q p) q) ≡ p ∷ later
put_first q p rest later true is same = ap (λ (l : List Pending). p ∷ l) same
put_first q p rest later false is same = let never : false ≡ true = is in absurd cc

handed_put : (m : Letters) (number : ℕ) (deeds : List MailDeed) (b : Bool)
    → all_put (cond b (both m (queue.HandsOut number)) m).pages (acts_of true (cond b (both m (queue.HandsOut number)) m) deeds) ≡ pages_of (cond b (both m (queue.HandsOut number)) m) deeds
    → all_put m.pages (cond b (queue.HandsOut number ∷ []) [] ++ acts_of true (cond b (both m (queue.HandsOut number)) m) deeds) ≡ pages_of (cond b (both m (queue.HandsOut number)) m) deeds
handed_put m number deeds true same = same
handed_put m number deeds false same = same

pub pages_put : (deeds : List MailDeed) (m : Letters) → ArePosted m deeds → all_put m.pages (acts_of true m deeds) ≡ pages_of m deeds
pages_put [] m posted = refl
pages_put (Says (SaysHello hello) ∷ deeds) m (is, others) = pages_put deeds (after m (Says (SaysHello hello))) others
pages_put (Says (SaysTold told) ∷ deeds) m (is, others) = pages_put deeds (after m (Says (SaysTold told))) others
pages_put (Says (SaysAsk ask) ∷ deeds) m (is, others) = pages_put deeds (after m (Says (SaysAsk ask))) others
pages_put (Says (SaysStanding standing) ∷ deeds) m (is, others) = pages_put deeds (after m (Says (SaysStanding standing))) others
pages_put (Says (SaysReported page) ∷ deeds) m (is, others) =
    put_first m.pages (pending_of (message_of m (SaysReported page))) (λ (q : Queue). all_put q (acts_of true (after m (Says (SaysReported page))) deeds)) (pages_of (after m (Says (SaysReported page))) deeds)
    (may_put m.pages (pending_of (message_of m (SaysReported page)))) (put_in m (SaysReported page) true refl is) (pages_put deeds (after m (Says (SaysReported page))) others)
pages_put (HandsOut number ∷ deeds) m (is, others) = handed_put m number deeds (has_number (first_offered m) number) (pages_put deeds (after m (HandsOut number)) others)
pages_put (Acknowledges number ∷ deeds) m (is, others) = pages_put deeds (after m (Acknowledges number)) others
pages_put (OffersAgain ∷ deeds) m (is, others) = pages_put deeds (after m OffersAgain) others

abbrev words_of : Letters → List MailDeed → List Pending
words_of m deeds = map pending_of (filter has_word (messages_in m deeds))

-- a word is put first
word_first : (m : Letters) (said : Said) (deeds : List MailDeed) (later : List Pending) → is_page said ≡ false → Causes m said (Ok m.fresh)
    → all_put (queue.after m.words (Puts (pending_of (message_of m said)))) (acts_of false (after m (Says said)) deeds) ≡ later
    → all_put m.words (Puts (pending_of (message_of m said)) ∷ acts_of false (after m (Says said)) deeds) ≡ pending_of (message_of m said) ∷ later
word_first m said deeds later word is same =
    put_first m.words (pending_of (message_of m said)) (λ (q : Queue). all_put q (acts_of false (after m (Says said)) deeds)) later (may_put m.words (pending_of (message_of m said))) (put_in m said false word is) same

handed_words : (m : Letters) (number : ℕ) (deeds : List MailDeed) (b : Bool)
    → all_put (cond b (both m (queue.HandsOut number)) m).words (acts_of false (cond b (both m (queue.HandsOut number)) m) deeds) ≡ words_of (cond b (both m (queue.HandsOut number)) m) deeds
    → all_put m.words (cond b (queue.HandsOut number ∷ []) [] ++ acts_of false (cond b (both m (queue.HandsOut number)) m) deeds) ≡ words_of (cond b (both m (queue.HandsOut number)) m) deeds
handed_words m number deeds true same = same
handed_words m number deeds false same = same

pub words_put : (deeds : List MailDeed) (m : Letters) → ArePosted m deeds → all_put m.words (acts_of false m deeds) ≡ words_of m deeds
words_put [] m posted = refl
words_put (Says (SaysHello hello) ∷ deeds) m (is, others) =
    let next = after m (Says (SaysHello hello)) in word_first m (SaysHello hello) deeds (words_of next deeds) refl is (words_put deeds next others)
words_put (Says (SaysTold told) ∷ deeds) m (is, others) =
    let next = after m (Says (SaysTold told)) in word_first m (SaysTold told) deeds (words_of next deeds) refl is (words_put deeds next others)
words_put (Says (SaysAsk ask) ∷ deeds) m (is, others) =
    let next = after m (Says (SaysAsk ask)) in word_first m (SaysAsk ask) deeds (words_of next deeds) refl is (words_put deeds next others)
words_put (Says (SaysStanding standing) ∷ deeds) m (is, others) =
    let next = after m (Says (SaysStanding standing)) in word_first m (SaysStanding standing) deeds (words_of next deeds) refl is (words_put deeds next others)
words_put (Says (SaysReported page) ∷ deeds) m (is, others) = words_put deeds (after m (Says (SaysReported page))) others
words_put (HandsOut number ∷ deeds) m (is, others) = handed_words m number deeds (has_number (first_offered m) number) (words_put deeds (after m (HandsOut number)) others)
words_put (Acknowledges number ∷ deeds) m (is, others) = words_put deeds (after m (Acknowledges number)) others
words_put (OffersAgain ∷ deeds) m (is, others) = words_put deeds (after m OffersAgain) others

-- ---- what it comes to

abbrev InOrder : Type 0
InOrder = (node : NodeId) (epoch : ℕ) (pages words : Room) (deeds : List MailDeed) → IsInOrder node epoch pages words deeds (mail.life (no_letters node epoch pages words) deeds)

pub said_by_model : StepsSayWhatTheyTell → EventsLeadOn → EventsAddThis → InOrder → (settings : PlainSettings) (node epoch : ℕ) (pages words : Room) (acts : List IntakeAct) (deeds : List MailDeed) (d : PlainIntake)
    → HasSpoken settings node (no_letters (record { 0 = node }) epoch pages words) acts deeds d → IsSaid settings node epoch pages words acts deeds d
said_by_model say on add order settings node epoch pages words acts deeds d has =
    record {
      told = acts_say say on acts (bare_run settings node) ∙ has.told;
      reported = has.parts;
      first = first_reports on add settings node acts has.backs;
      put = pages_put deeds (no_letters (record { 0 = node }) epoch pages words) has.posted;
      words_put = words_put deeds (no_letters (record { 0 = node }) epoch pages words) has.posted;
      kept = subst (λ (m : Letters). IsInOrder (record { 0 = node }) epoch pages words deeds m) (sym has.mail) (order (record { 0 = node }) epoch pages words deeds);
    }
