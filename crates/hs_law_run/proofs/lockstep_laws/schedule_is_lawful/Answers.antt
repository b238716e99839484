use Rattle.hs_law_run.proofs.lockstep_laws.schedule_is_lawful.Goals as goal

pub returns : goal.returns
returns c = λ W valid.
    let runs = c.valid_workloads_run.ensures W valid in
    record {
      L1 = c.schedule_has_shape.ensures W runs.laid;
      L2 = c.schedule_has_pools.ensures.stamps W runs.laid;
      L3 = c.schedule_has_pools.ensures.history W;
      L4 = c.schedule_has_pools.ensures.answers W;
      L5 = c.schedule_has_order.ensures.passes W;
      L6 = c.schedule_has_order.ensures.offers W;
      L7 = c.schedule_has_order.ensures.unreads W;
      L8 = c.schedule_has_order.ensures.followed W;
      L9 = c.schedule_has_order.ensures.rounds W;
      L10 = c.schedule_is_bare.ensures W runs;
      L11 = c.schedule_has_pace.ensures W valid;
    }
