-- A pass of one node, and of one node after another.
use Rattle.std.proofs.Common.{◌≡◌, inl, inr, ℕ, ◌+◌, ◌<◌, List, [], ◌++◌, set, length, length-set, Some, refl, sym, ap, subst, ◌∙◌, arith, slice_get}
use Rattle.hs_run.proofs.Prelude.{length-append, same_everywhere, same_Some, same_or_less, get_set_cases, get_other, Messages, AgentEvent, PlainWorkload, Leased, Buffer, asks_in, steps_of, put, put_here, put_else, log_stamps, PlainCoordinatorActor, Brings, PlainClosedAgent, AllSent, IsClosedAgent, NodeWork, with_events, with_moved, moved_by, asked_by, AllSents, IsClosedAgentAt, PassedAlone, ClosingStands, Passing}
use Rattle.hs_run_actors.specs.Turns.{GiverGoesOn}
use Rattle.hs_run_actors.specs.ClosedAgents.{ClosedAgentPasses}
use Rattle.hs_run.specs.Shutting.{ClosingCanPass, ClosingHasPassed}
use Rattle.hs_run.proofs.Moments.{coordinates_same}

-- what a pass of this node led to
abbrev pub Passed : PlainWorkload → AllSent → NodeWork → PlainClosedAgent → PlainClosedAgent → Type 0
Passed W sents work old new = (pass : List AgentEvent) × (came : List (Buffer Leased)) × ClosedAgentPasses W work sents pass came old new

-- its messages went to the coordinator
pub passed_one : (W : PlainWorkload) (n : ℕ) (sents : AllSents) (heard : Messages) (works : ℕ → NodeWork) (old : PlainClosedAgent) (before : PlainCoordinatorActor) (mid new : PlainClosedAgent) (after : PlainCoordinatorActor) → ClosingCanPass W n sents heard works old before
    → (p : Passed W (sents n) (works n) old mid) → new ≡ record mid { said = [] } → after.asks ≡ before.asks → IsClosedAgent W (with_moved mid.said (with_events p.0 p.1 (works n))) (sents n) new → Brings W n mid.said before after
    → ClosingHasPassed W n sents heard works old before new after
passed_one W n sents heard works old before mid new after can (pass, came, p) only asks is brings =
    let asks_are = ap length is.stands.asks_are in
    let both = length-append (asks_in ((works n).events ++ pass)) new.asks in
    record {
      next = with_moved mid.said (with_events pass came (works n));
      stands = record { node_is = can.stands.node_is; is = is };
      alone =
          record {
            pass = pass;
            events = refl;
            came = came;
            came_is = refl;
            ends = p.ends;
            gives = subst (λ g. GiverGoesOn old.giver g (log_stamps (steps_of pass))) (sym (ap (λ (s : PlainClosedAgent). s.giver) only)) p.gives;
            takes = λ client few. record { chunks = p.chunks client few; crumbs = p.crumbs client few; triggers = p.triggers client few };
            asks = p.asks;
            few = omega (arith, asks_are, both);
            grows = let grows = length-append (works n).moved mid.said in omega (arith, grows);
          };
      said = ap (λ (s : PlainClosedAgent). s.said) only;
      brought = λ works' here there.
          coordinates_same W heard (moved_by works') (moved_by works') (asked_by works) (asked_by works') after (λ k. refl)
          (same_everywhere (asked_by works') (asked_by works) n (ap (λ (x : NodeWork). x.asked) here) (λ other ne. ap (λ (x : NodeWork). x.asked) (there other ne)))
          (brings.by heard (moved_by works) (moved_by works') (asked_by works) can.coordinates
          (record { here = ap (λ (x : NodeWork). x.moved) here; others = λ other ne. ap (λ (x : NodeWork). x.moved) (there other ne) }));
      asks = asks;
    }

-- ---- one node after another

pub passing_none : (W : PlainWorkload) (sents : AllSents) (heard : Messages) (works : ℕ → NodeWork) (nodes : List PlainClosedAgent) (c : PlainCoordinatorActor) → ClosingStands W sents heard works nodes c → Passing W sents heard works 0 nodes nodes c
passing_none W sents heard works nodes c stand =
    record {
      works = works;
      many = refl;
      stands = stand.stands;
      passed = λ k x y low a b. absurd (omega (arith, low));
      others = λ k high. (refl, refl);
      coordinates = stand.coordinates;
    }

module _ (W : PlainWorkload) (sents : AllSents) (heard : Messages) (begun : ℕ → NodeWork) (n : ℕ) (old nodes : List PlainClosedAgent) (c c' : PlainCoordinatorActor) (stand : ClosingStands W sents heard begun old c) (h : Passing W sents heard begun n old nodes c')
    (x : PlainClosedAgent) (at : slice_get nodes n ≡ Some x) (low : n < length old)
  where
    pub can_pass : ClosingCanPass W n sents heard h.works x c'
    can_pass = record { low = let count = stand.count in omega (arith, low, count); few = stand.few; stands = h.stands.each n x at; coordinates = h.coordinates }

    module _ (y : PlainClosedAgent) (c2 : PlainCoordinatorActor) (p : ClosingHasPassed W n sents heard h.works x c' y c2) where
      works' : ℕ → NodeWork
      works' = put h.works n p.next

      stands' : (k : ℕ) (z : PlainClosedAgent) → slice_get (set nodes n y) k ≡ Some z → IsClosedAgentAt W k sents (works' k) z
      unfolding works'
      stands' k z found =
          elim (get_set_cases nodes n k x y z at found) [
            | inl e ↦
                subst (λ (i : ℕ). IsClosedAgentAt W i sents (put h.works n p.next i) z) e.0
                (subst (λ (v : PlainClosedAgent). IsClosedAgentAt W n sents (put h.works n p.next n) v) e.1 (subst (λ (w : NodeWork). IsClosedAgentAt W n sents w y) (sym (put_here h.works n p.next)) p.stands))
            | inr e ↦ subst (λ (w : NodeWork). IsClosedAgentAt W k sents w z) (sym (put_else h.works n p.next k (λ f. e.0 (sym f)))) (h.stands.each k z e.1)
          ]

      passed' : (k : ℕ) (a b : PlainClosedAgent) → k < n + 1 → slice_get old k ≡ Some a → slice_get (set nodes n y) k ≡ Some b → PassedAlone W k sents (begun k) (works' k) a.giver b.giver × (b.said ≡ [])
      unfolding works'
      passed' k a b less was now =
          elim (get_set_cases nodes n k x y b at now) [
            | inl e ↦
                let first = h.others n (omega arith) in
                let stood : a ≡ x = same_Some a x (sym was ∙ ap (slice_get old) (sym e.0) ∙ sym first.0 ∙ at) in
                let alone = subst (λ (w : NodeWork). PassedAlone W n sents w p.next x.giver y.giver) first.1 p.alone in
                let done = subst (λ (w : NodeWork). PassedAlone W n sents (begun n) w x.giver y.giver) (sym (put_here h.works n p.next)) alone in
                let moved = subst (λ (i : ℕ). PassedAlone W i sents (begun i) (put h.works n p.next i) x.giver y.giver) e.0 done in (
                  subst (λ (z : PlainClosedAgent). PassedAlone W k sents (begun k) (put h.works n p.next k) a.giver z.giver) e.1 (subst (λ (z : PlainClosedAgent). PassedAlone W k sents (begun k) (put h.works n p.next k) z.giver y.giver) (sym stood) moved),
                  subst (λ (z : PlainClosedAgent). z.said ≡ []) e.1 p.said,
                )
            | inr e ↦
                elim (same_or_less k n (omega (arith, less))) [
                  | inl lower ↦
                      let before = h.passed k a b lower was e.1 in
                      (subst (λ (w : NodeWork). PassedAlone W k sents (begun k) w a.giver b.giver) (sym (put_else h.works n p.next k (λ f. e.0 (sym f)))) before.0, before.1)
                  | inr same ↦ absurd (e.0 (sym same))
                ]
          ]

      pub passing_more : Passing W sents heard begun (n + 1) old (set nodes n y) c2
      unfolding works'
      passing_more =
          record {
            works = works';
            many = length-set nodes n y ∙ h.many;
            stands = record { each = stands' };
            passed = passed';
            others = λ k high.
                let o = h.others k (omega (arith, high)) in
                (get_other nodes n k y (λ e. omega (arith, e, high)) ∙ o.0, put_else h.works n p.next k (λ e. omega (arith, e, high)) ∙ o.1);
            coordinates = p.brought (put h.works n p.next) (put_here h.works n p.next) (λ other ne. put_else h.works n p.next other ne);
          }

-- all that there are
pub passing_so : (W : PlainWorkload) (sents : AllSents) (heard : Messages) (begun : ℕ → NodeWork) (n : ℕ) (old nodes : List PlainClosedAgent) (c : PlainCoordinatorActor) → n ≡ length old → Passing W sents heard begun n old nodes c → Passing W sents heard begun (length old) old nodes c
passing_so W sents heard begun n old nodes c is h = subst (λ m. Passing W sents heard begun m old nodes c) is h
