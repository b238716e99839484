-- What the other seats know stays true at each step, and what stays of the rule.
use Rattle.std.proofs.Common.{◌≡◌, ℕ, ◌≤◌, ◌≢◌, List, [], ◌∷◌, ◌++◌, length, get_or, set, sym, subst, ⊎_elim, le_trans, Option}
use mathlib.Core.Option.{some}
use lib.ListN.{get_elem?}
use lib.Seq.{set-get_or}
use Rattle.atomic_table.specs.Table.{State, keeps, stepped}
use Rattle.atomic_table.proofs.Lists.{at_set}
use Rattle.hs_base.proofs.Places.{elem_push_cases}
use Rattle.hs_link.specs.declared.board.View.{View}
use Rattle.hs_link.specs.declared.board.View.TheVariants.{Nobody, Whole, Sending, Laying, Meeting, Receiving, Taking, TellsPut, TellsTaken}
use Rattle.hs_link.specs.Ring.{Begins, Knows, LinkRule}

module _ {T F : Type 0} where
  -- a step of the sender: more may be put
  pub beside_sender : (key : F) (log log' : List T) (taken laying laying' taking sender receiver j : ℕ) → Begins log log' → j ≢ sender → (v : View T F)
      → Knows key log taken laying taking sender receiver j v → Knows key log' taken laying' taking sender receiver j v
  beside_sender key log log' taken laying laying' taking sender receiver j more other Nobody n = tt
  beside_sender key log log' taken laying laying' taking sender receiver j more other (Whole k) n = absurd (other n.0)
  beside_sender key log log' taken laying laying' taking sender receiver j more other (Sending k put h) n = absurd (other n.0)
  beside_sender key log log' taken laying laying' taking sender receiver j more other (Laying k put h) n = absurd (other n.0)
  beside_sender key log log' taken laying laying' taking sender receiver j more other (Meeting k put h k' r) n = absurd (other n.0)
  beside_sender key log log' taken laying laying' taking sender receiver j more other (Receiving k r told) n = (n.0, n.1, (λ p x e. more p x (n.2 p x e)), n.3, (λ p x e. more p x (n.4 p x e)), n.5)
  beside_sender key log log' taken laying laying' taking sender receiver j more other (Taking k r told x) n = (n.0, n.1, (λ p y e. more p y (n.2 p y e)), n.3, (λ p y e. more p y (n.4 p y e)), n.5, more taken x n.6)
  beside_sender key log log' taken laying laying' taking sender receiver j more other (TellsPut k told) n = (n.0, λ p x e. more p x (n.1 p x e))
  beside_sender key log log' taken laying laying' taking sender receiver j more other (TellsTaken k r) n = (n.0, (λ p x e. more p x (n.1 p x e)), n.2)

  -- a step of the receiver: more may be taken
  pub beside_receiver : (key : F) (log : List T) (taken taken' laying taking taking' sender receiver j : ℕ) → taken ≤ taken' → j ≢ receiver → (v : View T F)
      → Knows key log taken laying taking sender receiver j v → Knows key log taken' laying taking' sender receiver j v
  beside_receiver key log taken taken' laying taking taking' sender receiver j more other Nobody n = tt
  beside_receiver key log taken taken' laying taking taking' sender receiver j more other (Whole k) n = absurd (other n.1)
  beside_receiver key log taken taken' laying taking taking' sender receiver j more other (Sending k put h) n = (n.0, n.1, n.2, le_trans n.3 more, n.4)
  beside_receiver key log taken taken' laying taking taking' sender receiver j more other (Laying k put h) n = (n.0, n.1, n.2, le_trans n.3 more, n.4)
  beside_receiver key log taken taken' laying taking taking' sender receiver j more other (Meeting k put h k' r) n = (n.0, n.1, n.2, le_trans n.3 more, n.4, n.5, n.6, le_trans n.7 more)
  beside_receiver key log taken taken' laying taking taking' sender receiver j more other (Receiving k r told) n = absurd (other n.0)
  beside_receiver key log taken taken' laying taking taking' sender receiver j more other (Taking k r told x) n = absurd (other n.0)
  beside_receiver key log taken taken' laying taking taking' sender receiver j more other (TellsPut k told) n = n
  beside_receiver key log taken taken' laying taking taking' sender receiver j more other (TellsTaken k r) n = (n.0, n.1, le_trans n.2 more)

  -- the ends are made: the receiver gets a seat of its own
  pub beside_whole : (key : F) (log : List T) (taken laying taking sender receiver receiver' j : ℕ) → j ≢ sender → j ≢ receiver → (v : View T F)
      → Knows key log taken laying taking sender receiver j v → Knows key log taken laying taking sender receiver' j v
  beside_whole key log taken laying taking sender receiver receiver' j one two Nobody n = tt
  beside_whole key log taken laying taking sender receiver receiver' j one two (Whole k) n = absurd (one n.0)
  beside_whole key log taken laying taking sender receiver receiver' j one two (Sending k put h) n = absurd (one n.0)
  beside_whole key log taken laying taking sender receiver receiver' j one two (Laying k put h) n = absurd (one n.0)
  beside_whole key log taken laying taking sender receiver receiver' j one two (Meeting k put h k' r) n = absurd (one n.0)
  beside_whole key log taken laying taking sender receiver receiver' j one two (Receiving k r told) n = absurd (two n.0)
  beside_whole key log taken laying taking sender receiver receiver' j one two (Taking k r told x) n = absurd (two n.0)
  beside_whole key log taken laying taking sender receiver receiver' j one two (TellsPut k told) n = n
  beside_whole key log taken laying taking sender receiver receiver' j one two (TellsTaken k r) n = n

module _ {V : Type 0} (K : ℕ → V → Type 0) where
  -- one seat has a new view
  pub seats_stay : (vs : List V) (me : ℕ) (w : V) → K me w → ((j : ℕ) (v : V) → j ≢ me → get_elem? vs j ≡ some v → K j v) → (j : ℕ) (v : V) → get_elem? (set vs me w) j ≡ some v → K j v
  seats_stay vs me w mine others j v e = ⊎_elim (λ (t : (j ≡ me) × (w ≡ v)). subst (λ (x : ℕ × V). K x.0 x.1) (λ i. (sym t.0 i, t.1 i)) mine) (λ (t : (j ≢ me) × (get_elem? vs j ≡ some v)). others j v t.0 t.1) (at_set vs me j w v e)

  -- a seat more
  pub seats_grow : (vs : List V) (w : V) → K (length vs) w → ((j : ℕ) (v : V) → get_elem? vs j ≡ some v → K j v) → (j : ℕ) (v : V) → get_elem? (vs ++ w ∷ []) j ≡ some v → K j v
  seats_grow vs w mine others j v e = ⊎_elim (others j v) (λ (t : (j ≡ length vs) × (w ≡ v)). subst (λ (x : ℕ × V). K x.0 x.1) (λ i. (sym t.0 i, t.1 i)) mine) (elem_push_cases vs w v j e)

module _ {T F : Type 0} (holds : F → T → Type 0) (key : F) where
  abbrev St : Type 0
  St = State (Option T) (View T F)

  abbrev pub Seats : (s : St) → LinkRule holds key s → ℕ → View T F → Type 0
  Seats s r = Knows key r.log r.taken r.laying r.taking r.sender r.receiver

  -- only the views change
  pub reviewed : (s : St) (r : LinkRule holds key s) (vs : List (View T F)) → ((j : ℕ) (v : View T F) → get_elem? vs j ≡ some v → Seats s r j v) → LinkRule holds key record { words = s.words; homes = s.homes; views = vs }
  reviewed s r vs seats = record {
    log = r.log;
    taken = r.taken;
    laying = r.laying;
    taking = r.taking;
    sender = r.sender;
    receiver = r.receiver;
    some_entry = r.some_entry;
    wide = r.wide;
    behind = r.behind;
    within = r.within;
    few = r.few;
    all_hold = r.all_hold;
    each_entry = r.each_entry;
    each_seat = seats;
  }

  -- a step that changes one view alone
  pub unmoved : (s : St) (r : LinkRule holds key s) (i me : ℕ) (cs : List (ℕ × Option T)) (w : View T F) → Seats s r me w → LinkRule holds key (stepped s i (get_or s.words i 0) me cs w keeps)
  unmoved s r i me cs w mine = subst (λ (ws : List ℕ). LinkRule holds key record { words = ws; homes = s.homes; views = set s.views me w }) (sym (set-get_or s.words i 0))
      (reviewed s r (set s.views me w) (seats_stay (Seats s r) s.views me w mine (λ j v _. r.each_seat j v)))
