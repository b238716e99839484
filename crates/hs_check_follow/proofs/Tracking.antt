-- A node goes on in its log.
use Rattle.std.proofs.Common.{◌≡◌, ℕ, zero, suc, ◌+◌, ◌-◌, ◌<◌, ◌≤◌, List, [], ◌∷◌, length, map, drop, set, Bool, length-append, Option, Some, None, refl, sym, ap, subst, ◌∙◌, arith, option_map}
use Rattle.hs_check_follow.proofs.Prelude.{same_Some, slice_get, Ask, Messages, PlainJournal, Step, log_at, NodeRun, perform, step_node, AgentEvent, PlainWorkload, HasPerformed, IsNotReady, FollowedNodeStands, MayStepAt, HasStepped, HasNotStepped, left_steps, Listing, ends_front, ends_within, Notes, hand_of, said_of, behind_at, FollowedAgent, FollowedNode}
use Rattle.hs_law_journal.specs.Following.{step_of, event_of}
use Rattle.hs_check_follow.proofs.Noting.{noted_more}

pub drop_there : {A : Type 0} (xs : List A) (k : ℕ) (x : A) → slice_get xs k ≡ Some x → drop k xs ≡ x ∷ drop (k + 1) xs
drop_there {A = A} xs k x at = let same : k + 1 ≡ suc k = omega arith in go xs k at ∙ ap (λ n. x ∷ drop n xs) (sym same)
  where
    go : (xs : List A) (k : ℕ) → slice_get xs k ≡ Some x → drop k xs ≡ x ∷ drop (suc k) xs
    go [] k at = let no_item : None ≡ Some x = at in absurd cc
    go (y ∷ xs) zero at = ap (λ (z : A). z ∷ xs) (same_Some y x at)
    go (y ∷ xs) (suc k) at = go xs k at

pub drop_past : {A : Type 0} (xs : List A) (k : ℕ) → length xs ≤ k → drop k xs ≡ []
drop_past [] zero high = refl
drop_past [] (suc k) high = refl
drop_past (x ∷ xs) zero high = absurd (omega (arith, high))
drop_past (x ∷ xs) (suc k) high = drop_past xs k (omega (arith, high))

module _ (W : PlainWorkload) (J : PlainJournal) (heard : Messages) (run : NodeRun) (log : List Step) (asks : List Ask) (t : FollowedNode) (m : MayStepAt W J heard run log asks t) where
  left_is : run.left ≡ drop t.next log
  left_is = m.at.left ∙ ap (drop t.next) (sym m.log_is)

  pub nothing_left : length log ≤ t.next → HasNotStepped W J heard run t
  nothing_left high = record { none = ap (step_of W.settings heard run) (left_is ∙ drop_past log t.next high); at = m.at }

  module _ (step : Step) (there : slice_get log t.next ≡ Some step) where
    next_left : run.left ≡ step ∷ drop (t.next + 1) log
    next_left = left_is ∙ drop_there log t.next step there

    node_steps : (o : Option AgentEvent) → event_of run heard step ≡ o → step_node W.settings heard run ≡ option_map (perform W.settings (drop (t.next + 1) log) run) o
    node_steps o e = ap (step_of W.settings heard run) next_left ∙ ap (option_map (perform W.settings (drop (t.next + 1) log) run)) e

    pub stepped : (f : FollowedAgent) → HasPerformed W J heard run step f → t.next < length log → (last : Bool) → last ≡ ends_front (drop t.next log) → (noted : FollowedNode) → Notes last (record { follower = f; next = t.next; hands = t.hands; told = t.told }) noted
        → (t' : FollowedNode) → t'.follower ≡ noted.follower → t'.hands ≡ noted.hands → t'.told ≡ noted.told → t'.next ≡ t.next + 1 → HasStepped W J heard run t'
    stepped f p low last last_is noted n t' follower hands told next =
        let log_low : t.next < length (log_at J run.node) = (let long = ap length m.log_is in omega (arith, low, long)) in
        let front = last_is ∙ ap (λ (l : List Step). ends_front (drop t.next l)) m.log_is in
        let before = m.at.notes in
        let is_after = perform W.settings [] run p.event in
        let after = perform W.settings (drop (t.next + 1) log) run p.event in
        record {
          next = after;
          ready = node_steps (Some p.event) p.ready;
          at =
              record {
                stands =
                    subst (FollowedNodeStands W J after after.state.log) (sym (follower ∙ n.follower))
                    (record { sends = p.stands.sends; clients = p.stands.clients; agent = record { buffers = p.stands.agent.buffers; follows = p.stands.agent.follows; comes = p.stands.agent.comes; sheets = p.stands.agent.sheets; paged = p.stands.agent.paged }; asked = p.stands.asked; said = p.stands.said; gives = p.stands.gives });
                left = ap (λ (l : List Step). drop (t.next + 1) l) m.log_is ∙ ap (λ k. drop k (log_at J run.node)) (sym next);
                notes =
                    record {
                      count = let count = before.count in length-append run.events (p.event ∷ []) ∙ omega (arith, count, next);
                      hands = noted_more hand_of W.settings run after p.event refl refl p.stands.agent.comes (log_at J run.node) t.next before.count log_low last front t.hands.items t'.hands.items before.hands
                          (ap (λ (l : Listing ℕ). l.items) hands ∙ n.hands W J is_after is_after.state.log p.stands) t'.next next;
                      told = noted_more said_of W.settings run after p.event refl refl p.stands.agent.comes (log_at J run.node) t.next before.count log_low last front t.told.items t'.told.items before.told
                          (ap (λ (l : Listing ℕ). l.items) told ∙ n.told W J is_after is_after.state.log p.stands) t'.next next;
                    };
              };
        }

    pub not_stepped : (f : FollowedAgent) → IsNotReady W J heard run step f → (t' : FollowedNode) → t'.follower ≡ f → t'.next ≡ t.next → t'.hands ≡ t.hands → t'.told ≡ t.told → HasNotStepped W J heard run t'
    not_stepped f p t' follower next hands told =
        let before = m.at.notes in
        record {
          none = node_steps None p.none;
          at = record {
            stands = subst (FollowedNodeStands W J run run.state.log) (sym follower) p.stands;
            left = m.at.left ∙ ap (λ k. drop k (log_at J run.node)) (sym next);
            notes = record {
              count = before.count ∙ sym next;
              hands = ap (λ (l : Listing ℕ). l.items) hands ∙ before.hands ∙ ap (λ k. map (behind_at W.settings run hand_of) (ends_within 0 k (log_at J run.node))) (sym next);
              told = ap (λ (l : Listing ℕ). l.items) told ∙ before.told ∙ ap (λ k. map (behind_at W.settings run said_of) (ends_within 0 k (log_at J run.node))) (sym next);
            };
          };
        }

-- ---- how many steps are left

-- one node went on
pub steps_fall : (nodes : List FollowedNode) (logs : List (List Step)) (n : ℕ) (old new : FollowedNode) (log : List Step) → slice_get nodes n ≡ Some old → slice_get logs n ≡ Some log → old.next < length log → new.next ≡ old.next + 1
    → left_steps (set nodes n new) logs < left_steps nodes logs
steps_fall [] logs n old new log there log_there low went = let no_item : None ≡ Some old = there in absurd cc
steps_fall (t ∷ nodes) [] n old new log there log_there low went = let no_item : None ≡ Some log = log_there in absurd cc
steps_fall (t ∷ nodes) (l ∷ logs) zero old new log there log_there low went =
    let same = ap (λ (t : FollowedNode). t.next) (same_Some t old there) in
    let long = ap length (same_Some l log log_there) in
    omega (arith, same, long, low, went)
steps_fall (t ∷ nodes) (l ∷ logs) (suc n) old new log there log_there low went =
    let rest = steps_fall nodes logs n old new log there log_there low went in omega (arith, rest)

pub steps_stay : (nodes : List FollowedNode) (logs : List (List Step)) (n : ℕ) (old new : FollowedNode) → slice_get nodes n ≡ Some old → new.next ≡ old.next → left_steps (set nodes n new) logs ≡ left_steps nodes logs
steps_stay [] logs n old new there same = refl
steps_stay (t ∷ nodes) [] zero old new there same = refl
steps_stay (t ∷ nodes) [] (suc n) old new there same = steps_stay nodes [] n old new there same
steps_stay (t ∷ nodes) (l ∷ logs) zero old new there same = ap (λ k. (length l - k) + left_steps nodes logs) (same ∙ sym (ap (λ (t : FollowedNode). t.next) (same_Some t old there)))
steps_stay (t ∷ nodes) (l ∷ logs) (suc n) old new there same = ap (λ k. (length l - t.next) + k) (steps_stay nodes logs n old new there same)
