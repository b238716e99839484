-- The clients of a node meet its agent one after another: what one meeting more says of all.
use Rattle.std.proofs.Common.{◌≡◌, ℕ, suc, ◌<◌, ◌≤◌, max, List, [], ◌∷◌, ◌++◌, length, map, take, reverse, Some, ◌⊎◌, inl, inr, refl, sym, ap, subst, ◌∙◌, arith, length-set}
use Rattle.hs_run.proofs.Prelude.{map-append, same_Some, slice_get_within, slice_get, same_or_less, get_set_cases, get_set, get_other, client_of, Incoming, Outgoing, AreMates, Key, IsMate, PlainWorkload, Giving, operations_at, place_of, PlainClientActor, ClientActorIsAt, PlainAgentActor, NodeWork, PlainNodeActors, NodeActorsStand, NodeActorsMeet, MeetsOne, HaveMet}
use Rattle.std.proofs.Math.Nat.{le-max_left, le-max_right}
use Rattle.std.proofs.lemmas.List.{reverse-append}
use Rattle.hs_base.proofs.Places.{take_more, take_get, get_take}
use Rattle.hs_base.proofs.Parts.{take_whole}
use Rattle.hs_link.specs.Contents.{Contains}
use Rattle.hs_live.specs.Live.{hears, is_told, MeetAt}
use Rattle.hs_ring.specs.Parts.{AllBelow}
use Rattle.hs_words.specs.Ends.{Answer, GiverTurn, answers_in, stamps_in}
use Rattle.hs_run.specs.Meeting.{EndsMet, ClientActorMet, GiverMet, told_of}
use Rattle.hs_law_journal.proofs.Told.{answers_behind}

-- ---- one link

module _ {T : Type 0} (number : ℕ) (rs : List (Incoming T Key)) (s : Outgoing T Key) (rs' : List (Incoming T Key)) (s' : Outgoing T Key) (m : MeetAt number rs s rs' s') where
  pub end_here : slice_get rs' number ≡ Some (is_told m.receiver s)
  end_here = ap (λ (l : List (Incoming T Key)). slice_get l number) m.receivers_are ∙ get_set rs number m.receiver (is_told m.receiver s) m.end

  pub end_other : (k : ℕ) → (number ≡ k → ⊥) → slice_get rs' k ≡ slice_get rs k
  end_other k ne = ap (λ (l : List (Incoming T Key)). slice_get l k) m.receivers_are ∙ get_other rs number k (is_told m.receiver s) ne

  pub mate_here : IsMate number rs s → IsMate number rs' s'
  mate_here (r, at, ends) =
      let e : r ≡ m.receiver = same_Some r m.receiver (sym at ∙ m.end) in
      (is_told m.receiver s, end_here, sym (ap (λ (q : Incoming T Key). q.link) e) ∙ ends ∙ sym (ap (λ (t : Outgoing T Key). t.link) m.sender_is))

  pub mate_other : (k : ℕ) (t : Outgoing T Key) → (number ≡ k → ⊥) → IsMate k rs t → IsMate k rs' t
  mate_other k t ne (r, at, ends) = (r, end_other k ne ∙ at, ends)

  pub link_met : (rs0 : List (Incoming T Key)) → slice_get rs number ≡ slice_get rs0 number → EndsMet number rs0 s rs' s'
  link_met rs0 same r r' at at' =
      let e : m.receiver ≡ r = same_Some m.receiver r (sym m.end ∙ same ∙ at) in
      let e' : is_told m.receiver s ≡ r' = same_Some (is_told m.receiver s) r' (sym end_here ∙ at') in
      record {
        sender = m.sender_is ∙ ap (hears s) e;
        receiver = sym e' ∙ ap (λ (q : Incoming T Key). is_told q s) e;
        contents = subst (Contains s) e m.contents;
        keys = subst (λ (q : Incoming T Key). q.key ≡ s.key) e m.keys;
      }

  pub ends_keep : (k : ℕ) → (number ≡ k → ⊥) → (rs0 : List (Incoming T Key)) (t t' : Outgoing T Key) → EndsMet k rs0 t rs t' → EndsMet k rs0 t rs' t'
  ends_keep k ne rs0 t t' h r r' at at' = h r r' at (sym (end_other k ne) ∙ at')

-- ---- the giver

turns_more : (callers : List PlainClientActor) (n : ℕ) (caller : PlainClientActor) (turns : List GiverTurn) → slice_get callers n ≡ Some caller
    → reverse (map told_of (take (suc n) callers)) ++ turns ≡ told_of caller ∷ (reverse (map told_of (take n callers)) ++ turns)
turns_more callers n caller turns at =
    ap (λ (l : List PlainClientActor). reverse (map told_of l) ++ turns) (take_more callers n caller at)
    ∙ ap (λ (l : List GiverTurn). reverse l ++ turns) (map-append told_of (take n callers) (caller ∷ []))
    ∙ ap (λ (l : List GiverTurn). l ++ turns) (reverse-append (map told_of (take n callers)) (told_of caller ∷ []))

all_below : (a b : ℕ) → a ≤ b → (answers : List Answer) → AllBelow a answers → AllBelow b answers
all_below a b le [] h = tt
all_below a b le (x ∷ answers) (low, h) = (omega (arith, le, low), all_below a b le answers h)

-- ---- one meeting more

module _ (W : PlainWorkload) (node : ℕ) (work : NodeWork) (number : ℕ) (old mid new : PlainNodeActors) (h : HaveMet W node work number old mid) (one : MeetsOne W node work number mid new) where
  here : number ≤ number
  here = omega arith

  stood : slice_get old.callers number ≡ Some one.before
  stood = sym (h.still number here) ∙ one.stood

  -- a client of the new list is that one, or one of before
  found : (k : ℕ) (x : PlainClientActor) → slice_get new.callers k ≡ Some x → ((number ≡ k) × (one.after ≡ x)) ⊎ ((number ≡ k → ⊥) × (slice_get mid.callers k ≡ Some x))
  found k x at = get_set_cases mid.callers number k one.before one.after x one.stood (sym (ap (λ (l : List PlainClientActor). slice_get l k) one.callers) ∙ at)

  giver_pool : new.agent.port.giver.pool ≡ mid.agent.port.giver.pool
  giver_pool = ap (λ (g : Giving). g.pool) one.met.pool.giver_hears

  mates_here : AreMates number new.agent.port one.after.client
  mates_here =
      let m = h.stands.mates number one.before one.stood in
      record {
        chunks = mate_here number mid.agent.port.chunks one.before.client.chunks new.agent.port.chunks one.after.client.chunks one.met.chunks m.chunks;
        crumbs = mate_here number mid.agent.port.crumbs one.before.client.crumbs new.agent.port.crumbs one.after.client.crumbs one.met.crumbs m.crumbs;
        triggers = mate_here number mid.agent.port.triggers one.before.client.triggers new.agent.port.triggers one.after.client.triggers one.met.triggers m.triggers;
        pool = ap (λ d. d.pool) one.met.pool.drawer_hears ∙ m.pool ∙ sym giver_pool;
      }

  mates_other : (k : ℕ) (x : PlainClientActor) → (number ≡ k → ⊥) → AreMates k mid.agent.port x.client → AreMates k new.agent.port x.client
  mates_other k x ne m =
      record {
        chunks = mate_other number mid.agent.port.chunks one.before.client.chunks new.agent.port.chunks one.after.client.chunks one.met.chunks k x.client.chunks ne m.chunks;
        crumbs = mate_other number mid.agent.port.crumbs one.before.client.crumbs new.agent.port.crumbs one.after.client.crumbs one.met.crumbs k x.client.crumbs ne m.crumbs;
        triggers = mate_other number mid.agent.port.triggers one.before.client.triggers new.agent.port.triggers one.after.client.triggers one.met.triggers k x.client.triggers ne m.triggers;
        pool = m.pool ∙ sym giver_pool;
      }

  stands : NodeActorsStand W node work new
  stands =
      record {
        node_is = h.stands.node_is;
        count = ap length one.callers ∙ length-set mid.callers number one.after ∙ h.stands.count;
        callers = λ k x at. elim (found k x at) [
          | inl e ↦
              subst (λ (n : ℕ). ClientActorIsAt W.settings (client_of node n) (operations_at W (place_of W.settings.clients node n)) x) e.0
              (subst (λ (y : PlainClientActor). ClientActorIsAt W.settings (client_of node number) (operations_at W (place_of W.settings.clients node number)) y) e.1 one.at)
          | inr e ↦ h.stands.callers k x e.1
        ];
        mates = λ k x at. elim (found k x at) [
          | inl e ↦
              subst (λ (n : ℕ). AreMates n new.agent.port x.client) e.0
              (subst (λ (y : PlainClientActor). AreMates number new.agent.port y.client) e.1 mates_here)
          | inr e ↦ mates_other k x e.0 (h.stands.mates k x e.1)
        ];
        agent = one.manned;
      }

  caller_here : ClientActorMet number old.agent.port new.agent.port one.before one.after
  caller_here =
      record {
        done = one.done;
        chunks = link_met number mid.agent.port.chunks one.before.client.chunks new.agent.port.chunks one.after.client.chunks one.met.chunks old.agent.port.chunks (h.chunks number here);
        crumbs = link_met number mid.agent.port.crumbs one.before.client.crumbs new.agent.port.crumbs one.after.client.crumbs one.met.crumbs old.agent.port.crumbs (h.crumbs number here);
        triggers = link_met number mid.agent.port.triggers one.before.client.triggers new.agent.port.triggers one.after.client.triggers one.met.triggers old.agent.port.triggers (h.triggers number here);
        core = one.met.core;
        autos = one.met.autos;
        floor = max mid.agent.port.giver.floor one.before.client.drawer.floor;
        drawer = one.met.pool.drawer_hears;
        rises = le-max_right mid.agent.port.giver.floor one.before.client.drawer.floor;
        above_given =
            subst (AllBelow (max mid.agent.port.giver.floor one.before.client.drawer.floor))
            (ap answers_in h.giver.turns ∙ answers_behind (λ (caller : PlainClientActor). stamps_in caller.client.drawer.answers) (take number old.callers) old.agent.port.giver.turns) one.met.pool.above_given;
        above_drawn = one.met.pool.above_drawn;
      }

  caller_other : (k : ℕ) (x x' : PlainClientActor) → (number ≡ k → ⊥) → ClientActorMet k old.agent.port mid.agent.port x x' → ClientActorMet k old.agent.port new.agent.port x x'
  caller_other k x x' ne c =
      record {
        done = c.done;
        chunks = ends_keep number mid.agent.port.chunks one.before.client.chunks new.agent.port.chunks one.after.client.chunks one.met.chunks k ne old.agent.port.chunks x.client.chunks x'.client.chunks c.chunks;
        crumbs = ends_keep number mid.agent.port.crumbs one.before.client.crumbs new.agent.port.crumbs one.after.client.crumbs one.met.crumbs k ne old.agent.port.crumbs x.client.crumbs x'.client.crumbs c.crumbs;
        triggers = ends_keep number mid.agent.port.triggers one.before.client.triggers new.agent.port.triggers one.after.client.triggers one.met.triggers k ne old.agent.port.triggers x.client.triggers x'.client.triggers c.triggers;
        core = c.core;
        autos = c.autos;
        floor = c.floor;
        drawer = c.drawer;
        rises = c.rises;
        above_given = c.above_given;
        above_drawn = c.above_drawn;
      }

  met : (k : ℕ) (x x' : PlainClientActor) → k < suc number → slice_get old.callers k ≡ Some x → slice_get new.callers k ≡ Some x' → ClientActorMet k old.agent.port new.agent.port x x'
  met k x x' low at at' =
      elim (found k x' at') [
        | inl e ↦
            subst (λ (n : ℕ). ClientActorMet n old.agent.port new.agent.port x x') e.0
            (subst (λ (y : PlainClientActor). ClientActorMet number old.agent.port new.agent.port y x') (same_Some one.before x (sym stood ∙ ap (slice_get old.callers) e.0 ∙ at))
            (subst (λ (y : PlainClientActor). ClientActorMet number old.agent.port new.agent.port one.before y) e.1 caller_here))
        | inr e ↦
            elim (same_or_less k number low) [
              | inl less ↦ caller_other k x x' e.0 (h.met k x x' less at e.1)
              | inr same ↦ absurd (e.0 (sym same))
            ]
      ]

  giver_floor : new.agent.port.giver.floor ≡ max mid.agent.port.giver.floor one.before.client.drawer.floor
  giver_floor = ap (λ (g : Giving). g.floor) one.met.pool.giver_hears

  giver_rises : mid.agent.port.giver.floor ≤ new.agent.port.giver.floor
  giver_rises = subst (λ (n : ℕ). mid.agent.port.giver.floor ≤ n) (sym giver_floor) (le-max_left mid.agent.port.giver.floor one.before.client.drawer.floor)

  giver_above : (k : ℕ) (x : PlainClientActor) → slice_get (take (suc number) old.callers) k ≡ Some x → AllBelow new.agent.port.giver.floor x.client.drawer.answers
  giver_above k x at =
      let (low, there) = take_get old.callers (suc number) k x at in
      elim (same_or_less k number low) [
        | inl less ↦ all_below mid.agent.port.giver.floor new.agent.port.giver.floor giver_rises x.client.drawer.answers (h.giver.above_drawn k x (get_take old.callers number k x less there))
        | inr same ↦
            subst (λ (y : PlainClientActor). AllBelow new.agent.port.giver.floor y.client.drawer.answers) (same_Some one.before x (sym stood ∙ ap (slice_get old.callers) (sym same) ∙ there))
            (subst (λ (n : ℕ). AllBelow n one.before.client.drawer.answers) (sym giver_floor) one.met.pool.above_drawn)
      ]

  giver : GiverMet (take (suc number) old.callers) old.agent.port.giver new.agent.port.giver
  giver =
      let rose = h.giver.rises in
      let rises = giver_rises in
      record {
        pool = giver_pool ∙ h.giver.pool;
        buffers = ap (λ (g : Giving). g.buffers) one.met.pool.giver_hears ∙ h.giver.buffers;
        size = ap (λ (g : Giving). g.size) one.met.pool.giver_hears ∙ h.giver.size;
        drawers = ap (λ (g : Giving). g.drawers) one.met.pool.giver_hears ∙ h.giver.drawers;
        turns =
            ap (λ (g : Giving). g.turns) one.met.pool.giver_hears ∙ ap (λ (l : List GiverTurn). told_of one.before ∷ l) h.giver.turns
            ∙ sym (turns_more old.callers number one.before old.agent.port.giver.turns stood);
        rises = omega (arith, rose, rises);
        above_drawn = giver_above;
      }

  at_new_port : PlainAgentActor → PlainAgentActor
  at_new_port a = record a { port = new.agent.port }

  pub one_more : HaveMet W node work (suc number) old new
  unfolding at_new_port
  one_more =
      record {
        stands = stands;
        met = met;
        still = λ k low. ap (λ (l : List PlainClientActor). slice_get l k) one.callers ∙ get_other mid.callers number k one.after (λ e. omega (arith, e, low)) ∙ h.still k (omega (arith, low));
        chunks = λ k low.
            end_other number mid.agent.port.chunks one.before.client.chunks new.agent.port.chunks one.after.client.chunks one.met.chunks k (λ e. omega (arith, e, low)) ∙ h.chunks k (omega (arith, low));
        crumbs = λ k low.
            end_other number mid.agent.port.crumbs one.before.client.crumbs new.agent.port.crumbs one.after.client.crumbs one.met.crumbs k (λ e. omega (arith, e, low)) ∙ h.crumbs k (omega (arith, low));
        triggers = λ k low.
            end_other number mid.agent.port.triggers one.before.client.triggers new.agent.port.triggers one.after.client.triggers one.met.triggers k (λ e. omega (arith, e, low)) ∙ h.triggers k (omega (arith, low));
        giver = giver;
        desk = one.desk ∙ ap at_new_port h.desk;
      }

-- ---- none, and all

pub none_met : (W : PlainWorkload) (node : ℕ) (work : NodeWork) (site : PlainNodeActors) → NodeActorsStand W node work site → HaveMet W node work 0 site site
none_met W node work site stands =
    record {
      stands = stands;
      met = λ k x x' low at at'. absurd (omega (arith, low));
      still = λ k low. refl;
      chunks = λ k low. refl;
      crumbs = λ k low. refl;
      triggers = λ k low. refl;
      giver = record { pool = refl; buffers = refl; size = refl; drawers = refl; turns = refl; rises = omega arith; above_drawn = λ k x at. let h = take_get site.callers 0 k x at in let low = h.0 in absurd (omega (arith, low)) };
      desk = refl;
    }

pub all_met : (W : PlainWorkload) (node : ℕ) (work : NodeWork) (count : ℕ) (old new : PlainNodeActors) → length old.callers ≤ count → HaveMet W node work count old new → NodeActorsMeet W node work old new
all_met W node work count old new high h =
    record {
      stands = h.stands;
      callers = λ k x x' at at'. let low = slice_get_within old.callers k x at in h.met k x x' (omega (arith, low, high)) at at';
      giver = subst (λ (l : List PlainClientActor). GiverMet l old.agent.port.giver new.agent.port.giver) (take_whole old.callers count high) h.giver;
      desk = h.desk;
    }
