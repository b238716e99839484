-- What a step leaves as it was. A step is made by one end, and touches at most one entry, one buffer and one drawer's hand.
use Rattle.std.proofs.Common.{◌≡◌, ◌≢◌, ◌⊎◌, ℕ, suc, ◌+◌, ◌*◌, ◌%◌, ◌<◌, ◌≤◌, List, [], ◌∷◌, ◌++◌, length, sym, ap, ◌∙◌, subst, inl, inr, ⊎_elim, arith, length-append}
use Rattle.hs_ring.proofs.Prelude.{Option, count_by, AllByRecursion, Contents, is_missed, Deed, Answer, got_by, events_of, drawn_in, answers_by, told_in, IsDeedAt, all_of, answers_below, are_answers_more, unread_more, Plan, Spot, in_queue, with_drawer, leased, with_giver, HasLease, DrawerSeat, Hand, nothing, drew, kept, GiverSeat, Palm, bare, holds, lays, retakes, View, nobody, drawing, leasing, giving, drawer_note, giver_note, Cell, free, waits, drawn, laid, Facts, published, IsLaid, CellOk, IsLastOf, HandOk, PalmOk, IsSettled, DeskOk, PostOk, Knows}
use mathlib.Core.Option as maybe
use Rattle.hs_words.specs.Ends.{Names}
use Rattle.hs_words.proofs.Deeds.{draw_more, got_more, none_more, answers_more}

-- The deeds that were added are all of one end, and name only the buffer that was at `spot`; nothing but that buffer, the entry
-- that was `cell` and that end's hand has changed.
pub record Moves (log added : List Deed) (cells cells' : ℕ → Cell) (spots spots' : ℕ → Spot) (hands hands' : ℕ → Hand) (who : ℕ) (spot : Spot) (cell : Cell) : Type 0 where
  pub by : AllByRecursion (λ (d : Deed). d.by ≡ who) added
  pub names : (b : ℕ) → spots b ≢ spot → AllByRecursion (λ (d : Deed). Names b d.event → ⊥) added
  pub spots_stay : (b : ℕ) → spots b ≢ spot → spots' b ≡ spots b
  pub cells_stay : (e : ℕ) → cells e ≢ cell → cells' e ≡ cells e
  pub hands_stay : (d : ℕ) → suc d ≢ who → hands' d ≡ hands d
  pub fresh : (d number buffer stamp : ℕ) → hands' d ≡ drew number buffer stamp → (hands d ≡ drew number buffer stamp) ⊎ (length log ≤ stamp)

pub last_more : (added log : List Deed) (end stamp : ℕ) → AllByRecursion (λ (d : Deed). d.by ≢ end) added → IsLastOf end stamp log → IsLastOf end stamp (added ++ log)
last_more [] log end stamp others last = last
last_more (x ∷ xs) log end stamp others last = ((λ e. absurd (others.0 e)), last_more xs log end stamp others.1 last)

-- no deed since
pub is_last : (log : List Deed) (end stamp later : ℕ) (deed : Deed) → IsLastOf end stamp log → IsDeedAt log later deed → deed.by ≡ end → later ≤ stamp
is_last [] end stamp later deed last at by = absurd at
is_last (x ∷ xs) end stamp later deed last (inl here) by = let e : later ≡ length xs = here.0 in let le : length xs ≤ stamp = last.0 (ap (λ (d : Deed). d.by) here.1 ∙ by) in omega arith
is_last (x ∷ xs) end stamp later deed last (inr before) by = is_last xs end stamp later deed last.1 before by

module _ (n : ℕ) (log added : List Deed) (cells cells' : ℕ → Cell) (spots spots' : ℕ → Spot) (hands hands' : ℕ → Hand) (who : ℕ) (spot : Spot) (cell : Cell)
    (m : Moves log added cells cells' spots spots' hands hands' who spot cell) where
  by_others : (end : ℕ) → end ≢ who → AllByRecursion (λ (d : Deed). d.by ≢ end) added
  by_others end other = all_of added (λ (d : Deed) (e : d.by ≡ who) e'. other (sym e' ∙ e)) m.by

  pub answers_stay : (end : ℕ) → end ≢ who → answers_by end (added ++ log) ≡ answers_by end log
  answers_stay end other = answers_more added log end (by_others end other)

  longer : length log ≤ length (added ++ log)
  longer = omega (arith, length-append added log)

  pub lease_stays : (buffer draw : ℕ) (place : Spot) → place ≢ spot → HasLease n log spots buffer draw place → HasLease n (added ++ log) spots' buffer draw place
  lease_stays buffer draw place other (at, got, none, below) =
      let away : spots buffer ≢ spot = λ e. other (sym at ∙ e) in (
        m.spots_stay buffer away ∙ at,
        got_more added log draw buffer got,
        none_more added log buffer draw (m.names buffer away) none,
        below,
      )

  pub hand_stays : (d : ℕ) → suc d ≢ who → with_drawer d ≢ spot → ((number buffer : ℕ) → drawn number buffer d ≢ cell) → (hand : Hand) → HandOk n log cells spots d hand → HandOk n (added ++ log) cells' spots' d hand
  hand_stays d other away far nothing ok = tt
  hand_stays d other away far (drew number buffer stamp) (there, at, draw, none, last, below) =
      let apart : spots buffer ≢ spot = λ e. away (sym at ∙ e) in (
        m.cells_stay (number % (2 * n)) (λ e. far number buffer (sym there ∙ e)) ∙ there,
        m.spots_stay buffer apart ∙ at,
        draw_more added log number stamp (got_by (suc d) buffer) draw,
        none_more added log buffer stamp (m.names buffer apart) none,
        last_more added log (suc d) stamp (by_others (suc d) other) last,
        below,
      )
  hand_stays d other away far (kept buffer stamp) (at, got, none, below) =
      let apart : spots buffer ≢ spot = λ e. away (sym at ∙ e) in (
        m.spots_stay buffer apart ∙ at,
        got_more added log stamp buffer got,
        none_more added log buffer stamp (m.names buffer apart) none,
        below,
      )

  pub palm_stays : published n (added ++ log) ≡ published n log → with_giver ≢ spot → ((number : ℕ) → laid number ≢ cell) → (palm : Palm) → PalmOk n log cells spots palm → PalmOk n (added ++ log) cells' spots' palm
  palm_stays same other far bare ok = tt
  palm_stays same other far (holds buffer draw) ok = lease_stays buffer draw with_giver other ok
  palm_stays same other far (lays buffer draw) ok = (
    lease_stays buffer draw with_giver other ok.0,
    subst (λ (p : ℕ). cells' (p % (2 * n)) ≡ laid p) (sym same) (m.cells_stay (published n log % (2 * n)) (λ e. far (published n log) (sym ok.1 ∙ e)) ∙ ok.1),
  )
  palm_stays same other far (retakes buffer draw) ok =
      let number = ok.1.0 in (
        lease_stays buffer draw with_giver other ok.0,
        (number, ok.1.1 ∙ sym same, m.cells_stay (number % (2 * n)) (λ e. far number (sym ok.1.2 ∙ e)) ∙ ok.1.2),
      )

  pub settled_stays : (told : ℕ) → IsSettled log hands told → IsSettled (added ++ log) hands' told
  settled_stays told (below, not) = (
    (let le = longer in omega arith),
    λ drawer number buffer stamp is same. ⊎_elim (λ old. not drawer number buffer stamp old same) (λ new. omega arith) (m.fresh drawer number buffer stamp is),
  )

  pub all_settled : (tolds : List ℕ) → AllByRecursion (IsSettled log hands) tolds → AllByRecursion (IsSettled (added ++ log) hands') tolds
  all_settled tolds all = all_of tolds settled_stays all

  pub queued_stays : ((number buffer : ℕ) → waits number buffer ≢ cell) → (e number buffer : ℕ) → cells e ≡ waits number buffer → cells' e ≡ waits number buffer
  queued_stays far e number buffer is = m.cells_stay e (λ e'. far number buffer (sym is ∙ e')) ∙ is

-- an entry that a step does not touch
pub cell_stays : (n size : ℕ) (log log' : List Deed) (spots spots' : ℕ → Spot) (hands hands' : ℕ → Hand) (palm palm' : Palm) (e word word' : ℕ) (home home' : maybe.Option (maybe.Option (Option Contents)))
    → word' ≡ word → home' ≡ home
    → ((number buffer : ℕ) → e ≡ number % (2 * n) → drawn_in log ≤ number → number < published n log → spots buffer ≡ in_queue number → (drawn_in log' ≤ number) × (number < published n log') × (spots' buffer ≡ in_queue number))
    → ((number buffer drawer stamp : ℕ) → e ≡ number % (2 * n) → number < drawn_in log → number < published n log → published n log ≤ number + 2 * n → hands drawer ≡ drew number buffer stamp
    → (number < drawn_in log') × (number < published n log') × (published n log' ≤ number + 2 * n) × (hands' drawer ≡ drew number buffer stamp))
    → ((number : ℕ) → e ≡ number % (2 * n) → IsLaid (published n log) number palm → IsLaid (published n log') number palm')
    → (c : Cell) → CellOk n size log spots hands palm e word home c → CellOk n size log' spots' hands' palm' e word' home' c
cell_stays n size log log' spots spots' hands hands' palm palm' e word word' home home' w h on_waits on_drawn on_laid free (zero_word, empty) = (w ∙ zero_word, h ∙ empty)
cell_stays n size log log' spots spots' hands hands' palm palm' e word word' home home' w h on_waits on_drawn on_laid (waits number buffer) (there, shows, full, low, high, at) =
    let now = on_waits number buffer there low high at in (there, w ∙ shows, h ∙ full, now.0, now.1, now.2)
cell_stays n size log log' spots spots' hands hands' palm palm' e word word' home home' w h on_waits on_drawn on_laid (drawn number buffer drawer) (there, shows, out, low, high, lap, (stamp, is)) =
    let now = on_drawn number buffer drawer stamp there low high lap is in (there, w ∙ shows, h ∙ out, now.0, now.1, now.2, (stamp, now.3))
cell_stays n size log log' spots spots' hands hands' palm palm' e word word' home home' w h on_waits on_drawn on_laid (laid number) (there, shows, out, is) = (there, w ∙ shows, h ∙ out, on_laid number there is)

-- the facts after a step
abbrev pub facts_after : Facts → List Deed → (ℕ → Cell) → (ℕ → Spot) → (ℕ → Hand) → Palm → Facts
facts_after f added cells spots hands palm =
    record { log = added ++ f.log; cells = cells; spots = spots; hands = hands; seats = f.seats; palm = palm; giver = f.giver; made = f.made; opened = f.opened }

module _ (plan : Plan) (f : Facts) (added : List Deed) (cells : ℕ → Cell) (spots : ℕ → Spot) (hands : ℕ → Hand) (palm : Palm) (who : ℕ) (spot : Spot) (cell : Cell)
    (m : Moves f.log added f.cells cells f.spots spots f.hands hands who spot cell) (j : ℕ) where
  abbrev pub after : Facts
  after = facts_after f added cells spots hands palm

  pub desk_stays : (desk : DrawerSeat) (hand : Hand) → suc desk.number ≢ who → DeskOk plan f j desk hand → DeskOk plan after j desk hand
  desk_stays desk hand other ok =
      record {
        size = ok.size;
        active = ok.active;
        seat = ok.seat;
        hand_is = m.hands_stay desk.number other ∙ ok.hand_is;
        within = ok.within;
        answers = ok.answers ∙ sym (answers_stay plan.buffers f.log added f.cells cells f.spots spots f.hands hands who spot cell m (suc desk.number) other);
        floor = omega (arith, ok.floor, length-append added f.log);
      }

  -- the giver, as a drawer makes a step
  pub post_stays : (post : GiverSeat) (mine : Palm) → palm ≡ f.palm → 0 < who → who ≤ f.opened → count_by is_missed (events_of (added ++ f.log)) ≡ count_by is_missed (events_of f.log)
      → PostOk plan f j post mine → PostOk plan after j post mine
  post_stays post mine same positive low misses ok =
      record {
        size = ok.size;
        seat = ok.seat;
        palm_is = same ∙ ok.palm_is;
        made = ok.made;
        closed = ok.closed;
        closed_answers = are_answers_more added f.log (suc f.opened) post.closed (all_of added (λ (d : Deed) (e : d.by ≡ who). let less : d.by < suc f.opened = omega arith in less) m.by) ok.closed_answers;
        answers = ok.answers ∙ sym (answers_stay plan.buffers f.log added f.cells cells f.spots spots f.hands hands who spot cell m 0 (λ e. omega arith));
        misses = ok.misses ∙ sym misses;
        floor = omega (arith, ok.floor, length-append added f.log);
        unread = unread_more plan.buffers added f.log post.turns (subst (AllByRecursion (λ (a : Answer). a.stamp < length f.log)) (sym ok.answers) (answers_below f.log 0)) ok.unread;
        told = all_settled plan.buffers f.log added f.cells cells f.spots spots f.hands hands who spot cell m (told_in post.turns) ok.told;
      }

  -- what another seat knows
  pub knows_stays : ((d : ℕ) → f.seats d ≡ j → suc d ≢ who) → leased j ≢ spot → (f.giver ≡ j → (post : GiverSeat) (mine : Palm) → PostOk plan f j post mine → PostOk plan after j post mine)
      → (v : View) → Knows plan f j v → Knows plan after j v
  knows_stays other away on_post nobody known = tt
  knows_stays other away on_post (drawing desk hand) known = desk_stays desk hand (other desk.number known.seat) known
  knows_stays other away on_post (leasing buffer draw) known = lease_stays plan.buffers f.log added f.cells cells f.spots spots f.hands hands who spot cell m buffer draw (leased j) away known
  knows_stays other away on_post (giving post mine) known = on_post known.seat post mine known
  knows_stays other away on_post (drawer_note floor stamps) known = (
    omega (arith, known.0, length-append added f.log),
    all_settled plan.buffers f.log added f.cells cells f.spots spots f.hands hands who spot cell m stamps known.1,
  )
  knows_stays other away on_post (giver_note floor) known = omega (arith, known, length-append added f.log)
