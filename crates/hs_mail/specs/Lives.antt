-- The life of a mail: deeds in any order and number, and what each outbox has had of them.
use Rattle.std.specs.Prelude.{◌≡◌, ℕ, ◌<◌, Bool, true, false, List, [], ◌∷◌, ◌++◌, fold, if◌then◌else◌, Contains}
use Rattle.hs_base.specs.declared.ids.NodeId.{NodeId}
use Rattle.hs_outbox.specs.Queue.{Pending, Queue, OutboxAct, Puts, pending_of, has_number}
use Rattle.hs_outbox.specs.Queue as queue
use Rattle.hs_outbox.specs.Lives.{Rises, IsAccounted}
use Rattle.hs_outbox.specs.Lives as outbox
use Rattle.hs_mail.specs.declared.mail.Room.{Room}
use Rattle.hs_mail.specs.Letters.{Letters, MailDeed, Says, HandsOut, Acknowledges, OffersAgain, after, no_letters, first_offered, is_page, message_of}

abbrev pub life : Letters → List MailDeed → Letters
life = fold after

-- ---- what an outbox has of a deed: of pages, or of words

abbrev pub acts_by : (of_pages : Bool) → Letters → MailDeed → List OutboxAct
acts_by true m (Says said) = if is_page said then Puts (pending_of (message_of m said)) ∷ [] else []
acts_by false m (Says said) = if is_page said then [] else Puts (pending_of (message_of m said)) ∷ []
acts_by of_pages m (HandsOut number) = if has_number (first_offered m) number then queue.HandsOut number ∷ [] else []
acts_by of_pages m (Acknowledges number) = queue.Acknowledges number ∷ []
acts_by of_pages m OffersAgain = queue.OffersAgain ∷ []

abbrev pub acts_of : Bool → Letters → List MailDeed → List OutboxAct
acts_of of_pages m [] = []
acts_of of_pages m (deed ∷ deeds) = acts_by of_pages m deed ++ acts_of of_pages (after m deed) deeds

-- ---- what waits

abbrev pub waiting : Letters → List Pending
waiting m = m.pages.pending ++ m.words.pending

abbrev pub handed_out : Letters → List Pending
handed_out m = outbox.handed_out m.pages ++ outbox.handed_out m.words

abbrev pub not_handed_out : Letters → List Pending
not_handed_out m = outbox.not_handed_out m.pages ++ outbox.not_handed_out m.words

-- Where everything is that was said.
pub record IsInOrder (node : NodeId) (epoch : ℕ) (pages words : Room) (deeds : List MailDeed) (m : Letters) : Type 0 where
  -- each outbox has had its part of the deeds: so what was put waits there, each of it once, until its acknowledgement
  pub pages_kept : IsAccounted pages.places pages.bytes (acts_of true (no_letters node epoch pages words) deeds) m.pages
  pub words_kept : IsAccounted words.places words.bytes (acts_of false (no_letters node epoch pages words) deeds) m.words
  -- numbers rise in each, below the next one, and no page has the number of a word
  pub page_numbers : Rises 0 m.fresh m.pages.pending
  pub word_numbers : Rises 0 m.fresh m.words.pending
  pub apart : (page word : Pending) → Contains m.pages.pending page → Contains m.words.pending word → page.number ≡ word.number → ⊥
  -- what is handed out has lower numbers than what is not, pages and words together
  pub in_order : (one other : Pending) → Contains (handed_out m) one → Contains (not_handed_out m) other → one.number < other.number
  pub node_stays : m.node ≡ node
  pub epoch_stays : m.epoch ≡ epoch
