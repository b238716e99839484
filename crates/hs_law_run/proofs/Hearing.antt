-- What the coordinator hears, message by message, while the nodes stand as they stood.
use Rattle.std.proofs.Common.{◌≡◌, inl, inr, ℕ, suc, List, [], ◌∷◌, ◌++◌, length, drop, refl, sym, ap, subst, ◌∙◌, Some, None, map, slice_get}
use Rattle.hs_law_run.proofs.Prelude.{AllByRecursion, option_and_then, drop_length, option_unmap, all_at, NodeId, Message, Step, PlainJournal, PlainSettings, PlainWorkload, ClientSends, node_sends, node_behind, run_behind, NodeRun, Run, log_at, step_of, message_of, hear, followed, Leads, Stays, Goes, Known, Machine, coordinator_hears, IsReached}
use Rattle.hs_law_run.specs.Parts.{CoordinatorHears, CoordinatorHearsSo}
use Rattle.hs_law_journal.specs.Performing.{after_names}
use Rattle.hs_law_run.proofs.Followed.{behind_left, hear_there}
use Rattle.hs_law_run.proofs.Keeping.{own_sends}
use Rattle.hs_law_run.proofs.Standing.{kept, through_at}

-- ---- messages

-- where no node has a step left, all that is performed is that the coordinator hears
leads_names : (settings : PlainSettings) (run last : Run) → AllByRecursion (λ (node : NodeRun). node.left ≡ []) run.nodes → Leads settings run last → last.left ≡ [] → after_names run.nodes run.left run.heard ≡ Some last.heard
leads_names settings run last through (Stays r) e = ap (λ (left : List NodeId). after_names r.nodes left r.heard) e
leads_names settings run last through (Goes r next l (inl s) leads) e =
    let none = all_at (λ (node : NodeRun). node.left ≡ []) r.nodes s.place s.node through s.stands in
    let never : None ≡ Some s.stepped = ap (step_of settings r.heard s.node) (sym none) ∙ s.ready in absurd cc
leads_names settings run last through (Goes r next l (inr heard) leads) e = go (λ through. leads_names settings next last through leads e) r.left refl heard
  where
    go : (AllByRecursion (λ (node : NodeRun). node.left ≡ []) next.nodes → after_names next.nodes next.left next.heard ≡ Some last.heard) → (left : List NodeId) → r.left ≡ left → hear r left ≡ Some next → after_names r.nodes r.left r.heard ≡ Some last.heard
    go on [] is h = let never : None ≡ Some next = h in absurd cc
    go on (name ∷ rest) is h =
        let t = option_unmap (λ (m : Message). record r { left = rest; heard = r.heard ++ m ∷ [] }) (message_of r.nodes r.heard name) next h in
        ap (λ (left : List NodeId). after_names r.nodes left r.heard) is
        ∙ ap (option_and_then (λ m. after_names r.nodes rest (r.heard ++ m ∷ []))) t.1
        ∙ ap (λ (n : Run). after_names n.nodes n.left n.heard) t.2
        ∙ on (subst (λ (n : Run). AllByRecursion (λ (node : NodeRun). node.left ≡ []) n.nodes) t.2 through)

map_same : {X : Type 0} (f : X → X) (xs : List X) → ((i : ℕ) (x : X) → slice_get xs i ≡ Some x → f x ≡ x) → map f xs ≡ xs
map_same f [] each = refl
map_same {X = X} f (x ∷ xs) each = ap (λ (x : X). x ∷ map f xs) (each 0 x refl) ∙ ap (λ (rest : List X). x ∷ rest) (map_same f xs (λ i y h. each (suc i) y h))

module _ (k : Known) (W : PlainWorkload) (m : Machine) (r : IsReached W m) where
  abbrev J : PlainJournal
  J = m.journal

  abbrev K : PlainJournal
  K = (coordinator_hears W m).journal

  node_same : (i : ℕ) (node : NodeRun) → slice_get (followed W J).nodes i ≡ Some node → node_behind W J K node ≡ node
  node_same i node stands =
      let through = through_at k W m r i node stands in
      ap (λ (left : List Step). record node { sends = node_sends W J node.node; left = left ++ drop (length (log_at J node.node)) (log_at J node.node) }) through
      ∙ ap (λ (left : List Step). record node { sends = node_sends W J node.node; left = left }) (drop_length (log_at J node.node) ∙ sym through)
      ∙ ap (λ (sends : List ClientSends). record node { sends = sends }) (sym (own_sends k W J i node stands))

  nodes_same : map (node_behind W J K) (followed W J).nodes ≡ (followed W J).nodes
  nodes_same = map_same (node_behind W J K) (followed W J).nodes node_same

  pub hears_so : CoordinatorHears W m (coordinator_hears W m)
  hears_so =
      let done = (kept k W m r).done in
      let h = hear_there k W m done in
      let left = behind_left k W m done in
      let through : AllByRecursion (λ (node : NodeRun). node.left ≡ []) (map (node_behind W J K) (followed W J).nodes) = subst (AllByRecursion (λ (node : NodeRun). node.left ≡ [])) (sym nodes_same) done.over.nodes in
      record {
        heard =
            sym (ap (λ (left : List NodeId). after_names (followed W J).nodes left (followed W J).heard) left)
            ∙ sym (ap (λ (nodes : List NodeRun). after_names nodes (run_behind W J K (followed W J)).left (followed W J).heard) nodes_same)
            ∙ leads_names W.settings (run_behind W J K (followed W J)) (followed W K) through h.there.leads h.there.over.left;
        nodes = h.nodes ∙ nodes_same;
      }

pub coordinator_hears_so : Known → CoordinatorHearsSo
coordinator_hears_so k W valid m r = hears_so k W m r
