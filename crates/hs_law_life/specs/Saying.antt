-- What a node says over its life: the messages that its agent told, and the pages that it reported, by the deeds of its mail since the node was
-- made.
use Rattle.std.specs.Prelude.{◌≡◌, ◌⊎◌, ℕ, ◌+◌, ◌^◌, ◌<◌, length, Bool, true, false, not, List, [], ◌∷◌, ◌++◌, map, filter, filter_map, Option, Some, None, Ok, refl}
use Rattle.std.specs.Option.{option_to_list}
use Rattle.std.proofs.Common.{inl}
use Rattle.hs_base.specs.Samples.{t}
use Rattle.hs_base.specs.declared.told.Told.{Told}
use Rattle.hs_records.specs.Plain.{PlainSettings}
use Rattle.hs_base.specs.declared.ids.NodeId.{NodeId}
use Rattle.hs_wire.specs.Messages.{Said, PlainMessage, PlainReported, PlainHello, SaysHello, SaysTold, SaysReported, message_bytes}
use Rattle.hs_wire.specs.Writing.{HasSpelling}
use Rattle.hs_outbox.specs.Queue.{empty, pending_of}
use Rattle.hs_outbox.specs.Lives.{all_put}
use Rattle.hs_mail.specs.declared.mail.Room.{Room}
use Rattle.hs_mail.specs.Letters.{Letters, MailDeed, Says, HandsOut, Acknowledges, OffersAgain, Causes, after, is_page, message_of, no_letters}
use Rattle.hs_mail.specs.Lives.{IsInOrder, acts_of}
use Rattle.hs_mail.specs.Lives as mail
use Rattle.hs_settings.specs.Settings.{PlainService}
use Rattle.hs_law_agent.specs.Standings.{Indexed}
use Rattle.hs_agent.specs.Runs.{bare_run}
use Rattle.hs_intake.specs.Intakes.{PlainIntake, IntakeAct, told_in}
use Rattle.hs_node.specs.Nodes.{Part, parts_in, told_of, page_of}
use Rattle.hs_node.specs.declared.making.TheConstants.{WORDS, WORD_BYTES, PAGE_MORE}
use Rattle.hs_law_life.specs.NodeLives.{HasLived, run_by, state_by}
use Rattle.hs_law_life.specs.Reports.{AreBack, AreFirst}

-- ---- what is said

-- by a deed
abbrev pub said_by : MailDeed → Option Said
said_by (Says said) = Some said
said_by (HandsOut number) = None
said_by (Acknowledges number) = None
said_by OffersAgain = None

-- and by deeds, in order
abbrev pub said_in : List MailDeed → List Said
said_in deeds = filter_map said_by deeds

-- the messages in which it is said, with their numbers
abbrev pub messages_in : Letters → List MailDeed → List PlainMessage
messages_in m [] = []
messages_in m (deed ∷ deeds) = map (message_of m) (option_to_list (said_by deed)) ++ messages_in (after m deed) deeds

abbrev pub has_page : PlainMessage → Bool
has_page message = is_page message.said

-- it is a hello, a standing, or what the agent told
abbrev pub has_word : PlainMessage → Bool
has_word message = not (is_page message.said)

-- the mail of a node as it is made
abbrev pub first_mail : PlainService → ℕ → ℕ → Letters
first_mail s node epoch = no_letters (record { 0 = node }) epoch (record { places = s.pins; bytes = s.size + PAGE_MORE }) (record { places = WORDS; bytes = WORD_BYTES })

-- ---- the pages of what was reported

-- what the places for pages have in common: who speaks, in which life, and how many bytes each has
pub record MailPlace : Type 0 where
  pub node : NodeId
  pub epoch : ℕ
  pub room : ℕ

abbrev pub place_in : Letters → MailPlace
place_in m = record { node = m.node; epoch = m.epoch; room = m.pages.room }

abbrev pub page_message : MailPlace → ℕ → PlainReported → PlainMessage
page_message place number page = record { head = record { epoch = place.epoch; number = number; node = place.node }; said = SaysReported page }

-- No place can take the page: its message, with some number, has no spelling, or more bytes than a place.
abbrev pub CannotBeSaid : MailPlace → PlainReported → Type 0
CannotBeSaid place page = (number : ℕ) × (number < 2 ^ 64) × (¬ HasSpelling (page_message place number page) ⊎ (place.room < length (message_bytes (page_message place number page))))

-- What is said of a chunk that left the hand: its page, if it was reported, unless no place can take it.
abbrev pub IsReported : MailPlace → Option PlainReported → List PlainReported → Type 0
IsReported place None pages = pages ≡ []
IsReported place (Some page) pages = (pages ≡ page ∷ []) ⊎ ((pages ≡ []) × CannotBeSaid place page)

-- and of such chunks, one after another
abbrev pub AreReported : MailPlace → List Part → List PlainReported → Type 0
AreReported place [] pages = pages ≡ []
AreReported place (part ∷ parts) pages =
    (own : List PlainReported) × (rest : List PlainReported) × (pages ≡ own ++ rest) × IsReported place part.page own × AreReported place parts rest

-- ---- what finds its place

-- Whatever is said finds its place: it is a post that is answered with its number.
abbrev pub FindsPlace : Letters → Said → Type 0
FindsPlace m said = Causes m said (Ok m.fresh)

abbrev pub IsPosted : Letters → MailDeed → Type 0
IsPosted m (Says said) = FindsPlace m said
IsPosted m (HandsOut number) = Unit {0}
IsPosted m (Acknowledges number) = Unit {0}
IsPosted m OffersAgain = Unit {0}

abbrev pub ArePosted : Letters → List MailDeed → Type 0
ArePosted m [] = Unit {0}
ArePosted m (deed ∷ deeds) = IsPosted m deed × ArePosted (after m deed) deeds

-- A deed that says nothing: of a carrier, that a message was handed out or acknowledged, or that all are offered again.
abbrev pub Carries : MailDeed → Type 0
Carries (Says said) = ⊥
Carries (HandsOut number) = Unit {0}
Carries (Acknowledges number) = Unit {0}
Carries OffersAgain = Unit {0}

-- ---- a life

-- Where these are the acts of the agent since the node was made, these are the deeds of its mail since then. What the acts tell is said in order, but
-- for the last of it, which may wait for its place. Of the chunks that leave the hand at these acts the pages of those that were reported are said in
-- order, but for those that no place can take.
pub record HasSpoken (settings : PlainSettings) (node : ℕ) (start : Letters) (acts : List IntakeAct) (deeds : List MailDeed) (d : PlainIntake) : Type 0 where
  pub lived : HasLived settings node acts d
  pub mail : d.mail ≡ mail.life start deeds
  pub told : told_in (bare_run settings node) acts ≡ filter_map told_of (said_in deeds) ++ option_to_list d.unsaid
  pub parts : AreReported (place_in start) (parts_in (bare_run settings node) acts) (filter_map page_of (said_in deeds))
  pub posted : ArePosted start deeds
  -- each chunk that was offered was given, or came back with its lease
  pub backs : AreBack (bare_run settings node) acts

-- ---- what holds in a life

-- What the model of the agent says is what was said, in order, and then the one that waits for its place. The pages of the model's reports, as far as
-- these were offered, are, in order, the pages that were said, but for those that no place can take; all other reports still wait in the hand. Each
-- page that was said was put into its outbox, and so was each word, as a message that was told. Whatever was put waits there, or was acknowledged, each
-- of it once; and what goes out goes in the order in which it was said.
pub record IsSaid (settings : PlainSettings) (node epoch : ℕ) (pages words : Room) (acts : List IntakeAct) (deeds : List MailDeed) (d : PlainIntake) : Type 0 where
  pub told : (state_by settings node acts).said ≡ filter_map told_of (said_in deeds) ++ option_to_list d.unsaid
  pub reported : AreReported (record { node = record { 0 = node }; epoch = epoch; room = pages.bytes }) (parts_in (bare_run settings node) acts) (filter_map page_of (said_in deeds))
  -- and these chunks are the first of the model's reports
  pub first : AreFirst (run_by settings node acts) (filter_map (λ (part : Part). part.page) (parts_in (bare_run settings node) acts))
  pub put : all_put (empty pages.places pages.bytes) (acts_of true (no_letters (record { 0 = node }) epoch pages words) deeds)
      ≡ map pending_of (filter has_page (messages_in (no_letters (record { 0 = node }) epoch pages words) deeds))
  pub words_put : all_put (empty words.places words.bytes) (acts_of false (no_letters (record { 0 = node }) epoch pages words) deeds)
      ≡ map pending_of (filter has_word (messages_in (no_letters (record { 0 = node }) epoch pages words) deeds))
  pub kept : IsInOrder (record { 0 = node }) epoch pages words deeds d.mail

-- ---- examples

-- deeds of a carrier say nothing, and each message has a number of its own
abbrev empty_mail : Letters
empty_mail = no_letters (record { 0 = 3 }) 9 (record { places = 1; bytes = 100 }) (record { places = 2; bytes = 100 })

abbrev four : Told → PlainReported → PlainHello → List MailDeed
four told page hello = Says (SaysHello hello) ∷ HandsOut 0 ∷ Says (SaysTold told) ∷ OffersAgain ∷ Acknowledges 0 ∷ Says (SaysReported page) ∷ []

said_in_order : (told : Told) (page : PlainReported) (hello : PlainHello)
    → (said_in (four told page hello) ≡ SaysHello hello ∷ SaysTold told ∷ SaysReported page ∷ [])
    × (filter_map told_of (said_in (four told page hello)) ≡ told ∷ [])
    × (filter_map page_of (said_in (four told page hello)) ≡ page ∷ [])
said_in_order told page hello = (refl, refl, refl)

numbered_in_order : (told : Told) (page : PlainReported)
    → messages_in empty_mail (Says (SaysTold told) ∷ OffersAgain ∷ Says (SaysReported page) ∷ [])
    ≡ record { head = record { epoch = 9; number = 0; node = record { 0 = 3 } }; said = SaysTold told }
    ∷ record { head = record { epoch = 9; number = 1; node = record { 0 = 3 } }; said = SaysReported page }
    ∷ []
numbered_in_order told page = refl

-- of an evicted chunk nothing is said, and of a reported one its page
abbrev part_with : Option PlainReported → Part
part_with page = record { trace = t 7; client = 2; core = 1; number = 3; standing = Indexed; page = page }

page_of_the_reported : (place : MailPlace) (page : PlainReported) → AreReported place (part_with None ∷ part_with (Some page) ∷ []) (page ∷ [])
page_of_the_reported place page = ([], page ∷ [], refl, refl, (page ∷ [], [], refl, inl refl, refl))

none_is_said : (place : MailPlace) → AreReported place (part_with None ∷ []) [] × (AreReported place [] [])
none_is_said place = (([], [], refl, refl, refl), refl)
