use Rattle.std.proofs.Common.{rules, ◌≡◌, ◌∷◌, ◌++◌, [], Some, refl}
use Rattle.hs_c.specs.Opening.{HandsOut, HoldsPort, left_in}
use Rattle.hs_c.proofs.opening.hindcore_client_open.Goals as goal

pub returns-in-Some-clause-done : goal.returns-in-Some-clause-done
returns-in-Some-clause-done c cell holds done =
    record {
      next = c.in-Some.next.value.client;
      others = c.next_of-next.new.cell;
      live = refl;
      held = search rules;
      port_live = search rules;
      port_held = search rules;
      left = search rules;
      only = search rules;
    }
