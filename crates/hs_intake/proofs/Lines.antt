-- What one end receives, and what its key says of what it received.
use Rattle.std.proofs.Common.{◌≡◌, ℕ, zero, suc, ◌<◌, List, [], ◌∷◌, ◌++◌, length, Option, Some, None, refl, sym, ap, subst, ◌∙◌, arith, append_assoc, append-nil, slice_get}
use Rattle.std.specs.Prelude.{true, slice_set, IsSome, option_map}
use Rattle.hs_base.specs.Rules.{is_declared}
use Rattle.hs_base.specs.declared.settings.TriggerRule.{TriggerRule}
use Rattle.hs_base.specs.declared.told.Crumb.{Crumb}
use Rattle.hs_base.specs.declared.told.Trigger.{Trigger}
use Rattle.hs_records.specs.Plain.{PlainSettings}
use Rattle.hs_words.specs.declared.page.Header.{Header}
use Rattle.hs_words.specs.Buffers.{Buffer}
use Rattle.hs_words.specs.Pages.{Sheet}
use Rattle.hs_words.specs.Chunks.{header_of}
use Rattle.hs_ring.specs.Parts.{Leased, Giving}
use Rattle.hs_link.specs.Contents.{Incoming}
use Rattle.hs_live.specs.Keys.{Key, IsChunkOf, IsCrumbOf, IsTriggerOf}
use Rattle.hs_live.specs.Live.{IsEnd, ReceivesAt}
use Rattle.hs_agent.specs.Points.{sheet_in}
use Rattle.hs_agent.specs.Runs.{IsChunkFor}
use Rattle.hs_intake.specs.Intakes.{IsKeyFor, AreFor, IsPooled}
use Rattle.hs_intake.specs.Taking.{Receives, IsDry}

-- ---- one item of a list that is set

module _ {A : Type 0} where
  pub get_set : (xs : List A) (i : ℕ) (x y : A) → slice_get xs i ≡ Some x → slice_get (slice_set xs i y) i ≡ Some y
  get_set [] i x y at = let none : None ≡ Some x = at in absurd cc
  get_set (z ∷ xs) zero x y at = refl
  get_set (z ∷ xs) (suc i) x y at = get_set xs i x y at

  pub set_set : (xs : List A) (i : ℕ) (y z : A) → slice_set (slice_set xs i y) i z ≡ slice_set xs i z
  set_set [] i y z = refl
  set_set (x ∷ xs) zero y z = refl
  set_set (x ∷ xs) (suc i) y z = ap (λ (l : List A). x ∷ l) (set_set xs i y z)

  pub length_set : (xs : List A) (i : ℕ) (y : A) → length (slice_set xs i y) ≡ length xs
  length_set [] i y = refl
  length_set (x ∷ xs) zero y = refl
  length_set (x ∷ xs) (suc i) y = ap suc (length_set xs i y)

  -- what holds of all items, and of the one that is set, holds of all after it
  pub set_each : (P : ℕ → A → Type 0) (xs : List A) (i : ℕ) (y : A) → ((k : ℕ) (x : A) → slice_get xs k ≡ Some x → P k x) → P i y
      → (k : ℕ) (x : A) → slice_get (slice_set xs i y) k ≡ Some x → P k x
  set_each P [] i y all one k x at = all k x at
  set_each P (z ∷ xs) zero y all one zero x at = let same : y ≡ x = cc in subst (λ (w : A). P 0 w) same one
  set_each P (z ∷ xs) zero y all one (suc k) x at = all (suc k) x at
  set_each P (z ∷ xs) (suc i) y all one zero x at = all 0 x at
  set_each P (z ∷ xs) (suc i) y all one (suc k) x at = set_each (λ (j : ℕ) (w : A). P (suc j) w) xs i y (λ j w there. all (suc j) w there) one k x at

  pub there_low : (xs : List A) (i : ℕ) (x : A) → slice_get xs i ≡ Some x → i < length xs
  there_low [] i x at = let none : None ≡ Some x = at in absurd cc
  there_low (y ∷ xs) zero x at = omega arith
  there_low (y ∷ xs) (suc i) x at = let low = there_low xs i x at in omega (arith, low)

  -- of two ends at one place
  pub same_there : (xs : List A) (i : ℕ) (x y : A) → slice_get xs i ≡ Some x → slice_get xs i ≡ Some y → x ≡ y
  same_there xs i x y one other = let both : Some x ≡ Some y = sym one ∙ other in cc

-- ---- ends with their keys

module _ {T : Type 0} where
  pub keys_stay : (settings : PlainSettings) (node : ℕ) (giver : Giving) (clients client : ℕ) (ends : List (Incoming T Key)) (r s : Incoming T Key)
      → AreFor settings node giver clients ends → IsEnd client ends r → s.key ≡ r.key → AreFor settings node giver clients (slice_set ends client s)
  keys_stay settings node giver clients client ends r s are at same =
      record {
        count = length_set ends client s ∙ are.count;
        keys =
            set_each (λ (k : ℕ) (e : Incoming T Key). IsKeyFor settings node giver k e.key) ends client s are.keys
            (subst (λ (key : Key). IsKeyFor settings node giver client key) (sym same) (are.keys client r at));
      }

  pub keys_after : (settings : PlainSettings) (node : ℕ) (giver : Giving) (clients client : ℕ) (ends ends' : List (Incoming T Key)) (items : List T)
      → AreFor settings node giver clients ends → Receives client items ends ends' → AreFor settings node giver clients ends'
  keys_after settings node giver clients client ends ends' items are receives =
      subst (λ (es : List (Incoming T Key)). AreFor settings node giver clients es) (sym receives.new_is)
      (keys_stay settings node giver clients client ends receives.before receives.later are receives.at receives.same.1)

  -- one item
  pub receives_one : (client : ℕ) (item : T) (ends ends' : List (Incoming T Key)) → ReceivesAt client ends (Some item) ends' → Receives client (item ∷ []) ends ends'
  receives_one client item ends ends' (r, s, at, new, same, received, begins) =
      record { before = r; later = s; at = at; new_is = new; same = same; received = received }

  pub dry_one : (client : ℕ) (ends ends' : List (Incoming T Key)) → ReceivesAt client ends None ends' → (ends' ≡ ends) × IsDry client ends
  dry_one client ends ends' (r, at, same, all) = (same, record { end = r; at = at; all = all })

  -- none, and some more
  pub receives_none : (client : ℕ) (ends : List (Incoming T Key)) (r : Incoming T Key) → IsEnd client ends r → Receives client [] ends ends
  receives_none client ends r at =
      record { before = r; later = r; at = at; new_is = sym (set_there ends client r at); same = (refl, refl, refl); received = sym (append-nil r.received) }
    where
      set_there : {A : Type 0} (xs : List A) (i : ℕ) (x : A) → slice_get xs i ≡ Some x → slice_set xs i x ≡ xs
      set_there [] i x at = refl
      set_there (y ∷ xs) zero x at = let same : y ≡ x = cc in ap (λ z. z ∷ xs) (sym same)
      set_there (y ∷ xs) (suc i) x at = ap (λ l. y ∷ l) (set_there xs i x at)

  pub receives_more : (client : ℕ) (xs ys : List T) (a b c : List (Incoming T Key)) → Receives client xs a b → Receives client ys b c → Receives client (xs ++ ys) a c
  receives_more client xs ys a b c first second =
      let there : IsEnd client b first.later =
      subst (λ (es : List (Incoming T Key)). IsEnd client es first.later) (sym first.new_is) (get_set a client first.before first.later first.at) in
      let joined : second.before ≡ first.later = same_there b client second.before first.later second.at there in
      record {
        before = first.before;
        later = second.later;
        at = first.at;
        new_is = second.new_is ∙ ap (λ (es : List (Incoming T Key)). slice_set es client second.later) first.new_is ∙ set_set a client first.later second.later;
        same = (
          second.same.0 ∙ ap (λ (r : Incoming T Key). r.link) joined ∙ first.same.0,
          second.same.1 ∙ ap (λ (r : Incoming T Key). r.key) joined ∙ first.same.1,
          second.same.2 ∙ ap (λ (r : Incoming T Key). r.told) joined ∙ first.same.2,
        );
        received =
            second.received ∙ ap (λ (r : Incoming T Key). r.received ++ ys) joined ∙ ap (λ (l : List T). l ++ ys) first.received ∙ append_assoc first.before.received xs ys;
      }

-- ---- what came

-- the sheet of a page that was started
sheet_there : (page : Option Sheet) (header : Header) → option_map header_of page ≡ Some header → (sheet : Sheet) × (page ≡ Some sheet) × (sheet.header ≡ header)
sheet_there None header is = let none : None ≡ Some header = is in absurd cc
sheet_there (Some sheet) header is = let same : Some sheet.header ≡ Some header = is in (sheet, refl, cc)

came_for : (settings : PlainSettings) (node client : ℕ) (buffer : Buffer Leased) (sheet : Sheet) (header : Header) → buffer.chunk.page ≡ Some sheet → sheet.header ≡ header
    → header.client ≡ record { node = node; number = client } → buffer.chunk.size ≡ settings.size → IsChunkFor settings node client buffer
came_for settings node client buffer sheet header page is owner size =
    record {
      started = subst (λ (p : Option Sheet). IsSome p) (sym page) refl;
      from = ap (λ (p : Option Sheet). (sheet_in (record buffer { chunk = record buffer.chunk { page = p } })).header.client) page ∙ ap (λ (h : Header). h.client) is ∙ owner;
      size = size;
    }

pub chunk_came : (settings : PlainSettings) (node : ℕ) (giver : Giving) (clients client : ℕ) (ends : List (Incoming (Buffer Leased) Key)) (buffer : Buffer Leased)
    → AreFor settings node giver clients ends → giver.size ≡ settings.size
    → (r : Incoming (Buffer Leased) Key) × IsEnd client ends r × IsChunkOf r.key buffer → IsChunkFor settings node client buffer × IsPooled giver buffer
chunk_came settings node giver clients client ends buffer are size (r, at, is) =
    let key = are.keys client r at in
    let (sheet, page, header) = sheet_there buffer.chunk.page is.header is.started in
    let own : buffer.chunk.size ≡ settings.size = is.size ∙ key.size in
    (came_for settings node client buffer sheet is.header page header (is.owner ∙ key.client_is) own, (is.pool ∙ key.pool, own ∙ sym size))

pub crumb_came : (settings : PlainSettings) (node : ℕ) (giver : Giving) (clients client : ℕ) (ends : List (Incoming Crumb Key)) (crumb : Crumb)
    → AreFor settings node giver clients ends → (r : Incoming Crumb Key) × IsEnd client ends r × IsCrumbOf r.key crumb → crumb.node.0 < settings.nodes
crumb_came settings node giver clients client ends crumb are (r, at, is) = subst (λ (n : ℕ). crumb.node.0 < n) (are.keys client r at).nodes is

pub trigger_came : (settings : PlainSettings) (node : ℕ) (giver : Giving) (clients client : ℕ) (ends : List (Incoming Trigger Key)) (trigger : Trigger)
    → AreFor settings node giver clients ends → (r : Incoming Trigger Key) × IsEnd client ends r × IsTriggerOf r.key trigger → is_declared settings.triggers trigger.trigger ≡ true
trigger_came settings node giver clients client ends trigger are (r, at, is) = subst (λ (rules : List TriggerRule). is_declared rules trigger.trigger ≡ true) (are.keys client r at).rules is
