-- The coordinator's asks go to the agents behind the rounds.
use Rattle.std.proofs.Common.{ℕ, List, arith}
use Rattle.hs_run.proofs.Prelude.{slice_get_within, get_there, Messages, PlainWorkload, PlainCoordinatorActor, IsCoordinatorActor, asked_all, PlainClosedAgent, NodeWork, moved_by, asked_by, EachChanged, AllSents, IsAsked, Asked}

pub asked_so : (W : PlainWorkload) (sents : AllSents) (heard : Messages) (begun : ℕ → NodeWork) (old nodes : List PlainClosedAgent) (c c' : PlainCoordinatorActor) (h : Asked W sents heard begun old old c) → EachChanged (IsAsked c.asks) old nodes
    → IsCoordinatorActor W heard (moved_by h.works) (asked_by (asked_all c.asks h.works)) c' → Asked W sents heard begun old nodes c'
asked_so W sents heard begun old nodes c c' h asked coordinates =
    record {
      works = asked_all c.asks h.works;
      few = let many = asked.many in let few = h.few in omega (arith, many, few);
      same = λ k. let s = h.same k in (record { node = s.0.node; pool = s.0.pool; events = s.0.events; came = s.0.came }, s.1);
      stands =
          record {
            each = λ k z at.
                let low = slice_get_within nodes k z at in
                let many = asked.many in
                let (x, was) = get_there old k (omega (arith, low, many)) in
                let stood = h.stands.each k x was in
                record { node_is = stood.node_is; is = (asked.each k x z was at).shut W (h.works k) (sents k) stood.is h.coordinates.askable };
          };
      only = record { many = asked.many; each = λ k x y was now. (asked.each k x y was now).only };
      coordinates = coordinates;
    }
