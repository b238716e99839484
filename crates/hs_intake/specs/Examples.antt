-- Worked examples of what an intake receives, says and takes.
use Rattle.std.specs.Prelude.{◌≡◌, ℕ, true, false, [], ◌∷◌, ◌++◌, filter_map, Some, None, Ok, refl}
use Rattle.hs_base.specs.declared.told.Told.{Told}
use Rattle.hs_base.specs.declared.told.Why.TheVariants.{Fired, Late}
use Rattle.hs_claimed.specs.Claims.{PlainClaims, after_named}
use Rattle.hs_claimed.specs.Lives.{Claims, Speaks, Names, Says}
use Rattle.hs_wire.specs.Messages.{PlainReported, SaysTold, SaysReported, SaysStanding}
use Rattle.hs_wire.specs.declared.message.Standing.{Standing}
use Rattle.hs_base.specs.declared.told.Trigger.{Trigger}
use Rattle.hs_ring.specs.Parts.{Leased}
use Rattle.hs_words.specs.Buffers.{Buffer}
use Rattle.hs_link.specs.Contents.{Incoming}
use Rattle.hs_live.specs.Keys.{Key}
use Rattle.hs_base.specs.Samples.{t, rule, one_rule}
use Rattle.hs_words.specs.Pages.{page_bytes}
use Rattle.hs_law_agent.specs.Standings.{sample_sheet}
use Rattle.hs_law_agent.specs.Samples.{settings_with, chunk, trigger, group, turned}
use Rattle.hs_law_agent.specs.Stepping.{Given, Missed}
use Rattle.hs_law_agent.specs.Lives.{is_settled}
use Rattle.hs_law_agent.specs.State.{start}
use Rattle.hs_records.specs.Plain.{PlainSettings}
use Rattle.hs_agent.specs.Runs.{AgentRun, new_run, state_of, offered_next}
use Rattle.hs_mail.specs.Letters.{Letters, Causes, after}
use Rattle.hs_intake.specs.Intakes.{Chunk, TakesChunk, Turns, LetsGo, Forgets, says, SaysIt, claim_by, notes_from, acts_in, told_in, limit_of, limited_in, life, TakesTrigger}
use Rattle.hs_intake.specs.Taking.{Receives}
use Rattle.hs_intake.specs.Handing.{first_page, was_offered}

-- The second of two ends received 7 and 8.
two_are_received : (a b : Incoming ℕ Key) → Receives 1 (7 ∷ 8 ∷ []) (a ∷ b ∷ []) (a ∷ record b { received = b.received ++ 7 ∷ 8 ∷ [] } ∷ [])
two_are_received a b = record { before = b; later = record b { received = b.received ++ 7 ∷ 8 ∷ [] }; at = refl; new_is = refl; same = (refl, refl, refl); received = refl }

-- A message that has a place is said, and noted with its number and its nodes; one that has none waits.
has_a_place : (m : Letters) (s : PlainClaims) (told : Told) → Causes m (SaysTold told) (Ok m.fresh) → SaysIt m s (Some told) (after m (says told)) (after_named s told.group.id told.crumbs m.fresh) None
has_a_place m s told has = record { said = told ∷ []; mail = refl; put = (has, tt); all = refl; noted = refl }

has_no_place : (m : Letters) (s : PlainClaims) (told : Told) → SaysIt m s (Some told) m s (Some told)
has_no_place m s told = record { said = []; mail = refl; put = tt; all = refl; noted = refl }

-- The group of a message that fired claims its traces; one that tells a late crumb claims nothing.
one_claims : (told : Told) → filter_map claim_by (record told { why = Fired } ∷ record told { why = Late } ∷ []) ≡ Claims told.group told.laterals ∷ []
one_claims told = refl

-- Of three messages from number 7 on each is noted with its number, and what is told with the nodes that it names.
noted : (told : Told) (page : PlainReported) (standing : Standing)
    → notes_from 7 (SaysTold told ∷ SaysReported page ∷ SaysStanding standing ∷ []) ≡ Names told.group.id told.crumbs 7 ∷ Speaks page.group.id 8 ∷ Says standing 9 ∷ []
noted told page standing = refl

-- A chunk at the front is taken by one act, which tells nothing, nor does a turn.
a_chunk_waits : (run : AgentRun Leased) (buffer : Buffer Leased) → (acts_in (Some (Chunk 3 buffer)) ≡ TakesChunk 3 buffer ∷ []) × (told_in run (TakesChunk 3 buffer ∷ Turns ∷ []) ≡ [])
a_chunk_waits run buffer = (refl, refl)

-- Id 1 has a burst of one, and no token comes back. So the first of two triggers is admitted, and the second is not. A third of id 2 is.
abbrev two_ids : PlainSettings
two_ids = settings_with 4 8 4 (rule 1 1 0 ∷ rule 2 1 0 ∷ [])

abbrev fired_at : (moment id lead : ℕ) → Trigger
fired_at moment id lead = record { moment = moment; trigger = record { 0 = id }; lead = t lead; laterals = [] }

one_is_admitted : (limit_of (new_run two_ids 0) 3 (fired_at 5 1 7) ≡ 0) × (limited_in (new_run two_ids 0) 3 (fired_at 5 1 7 ∷ []) ≡ 0)
one_is_admitted = (refl, refl)

one_finds_no_token : (limited_in (new_run two_ids 0) 3 (fired_at 5 1 7 ∷ fired_at 6 1 8 ∷ []) ≡ 1) × (limited_in (new_run two_ids 0) 3 (fired_at 5 1 7 ∷ fired_at 6 1 8 ∷ fired_at 6 2 9 ∷ []) ≡ 1)
one_finds_no_token = (refl, refl)

-- Before the last of 2 ^ 32 - 1 numbers is given one of two triggers is admitted. Then none is left, and two more change nothing.
abbrev at : ℕ → PlainSettings → AgentRun Leased
at admitted settings = record (new_run settings 0) { start = record (start settings) { admitted = admitted } }

one_is_left : limited_in (at 4294967294 two_ids) 3 (fired_at 5 1 7 ∷ fired_at 6 2 8 ∷ []) ≡ 1
one_is_left = refl

none_is_left : (settings : PlainSettings) (trigger : Trigger)
    → (limited_in (at 4294967295 settings) 3 (trigger ∷ trigger ∷ []) ≡ 2) × (life (at 4294967295 settings) (TakesTrigger 3 trigger ∷ []) ≡ at 4294967295 settings)
none_is_left settings trigger = (refl, refl)

-- A trigger fires on trace 1, its chunk comes in buffer 5, with a lease of mark 9, and a turn reports it.
abbrev fives : Buffer Leased
fives =
    record {
      chunk = record { number = 5; size = 64; page = Some (sample_sheet 0 0 1 0) };
      lease = record { pool = 3 ∷ []; buffer = 5; draw = 8; mark = 9 };
    }

abbrev one_reported : AgentRun Leased
one_reported = record (new_run (settings_with 4 8 4 one_rule) 0) { events = trigger 1 1 1 [] ∷ chunk 1 0 ∷ turned ∷ []; buffers = fives ∷ [] }

-- Its page is said with the group of the trigger, by the client's number and the mark.
its_page : first_page one_reported ≡ Some (record { group = group 0 0 1 1; client = 0; core = 9; page = page_bytes (sample_sheet 0 0 1 0) })
its_page = refl

-- A miss leaves it first in the hand, cleared and offered before. Once it was given the hand is empty.
abbrev cleared : Buffer Leased
cleared = record fives { chunk = record { number = 5; size = 64; page = None } }

it_misses : let after = life one_reported (LetsGo (Missed 20) (Some cleared) ∷ []) in (was_offered one_reported ≡ false) × (was_offered after ≡ true) × (offered_next after ≡ Some cleared)
it_misses = (refl, refl, refl)

it_goes : let after = life one_reported (LetsGo (Missed 20) (Some cleared) ∷ LetsGo (Given 21) None ∷ []) in ((state_of after).hand ≡ []) × (was_offered after ≡ false)
it_goes = (refl, refl)

-- A group for which nothing is pinned may be forgotten, and then claims nothing.
it_is_forgotten : (is_settled (group 0 0 1 1) (state_of one_reported) ≡ true) × ((state_of (life one_reported (Forgets (group 0 0 1 1) ∷ []))).claims ≡ [])
it_is_forgotten = (refl, refl)
