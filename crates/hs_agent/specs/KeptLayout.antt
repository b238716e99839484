-- How an agent's chunks lie in its fields. There is always room to send all that is pinned, so that a turn takes no memory.
use Rattle.std.specs.Prelude.{◌≡◌, ◌+◌, ◌<◌, ◌≤◌, ◌++◌, length, map, IsSome}
use Rattle.std.specs.VecDeque.{deque_len, deque_capacity}
use Rattle.std.specs.Option.{option_map, option_to_list}
use Rattle.hs_pins.specs.PinsLayout.{KnowsThat}
use Rattle.hs_agent.specs.declared.holdings.Holdings.TheInside.{Inside}
use Rattle.hs_agent.specs.Keeping.{Kept}
use Rattle.hs_agent.specs.declared.hand.Out.{Out}
use Rattle.hs_agent.specs.Parting.{going_of, going_left, hand_of, sent_pin}

abbrev pub kept_in : {L : Type 0} {g : _} → Inside L g → Kept L
kept_in a =
    record {
      node = a.node.0;
      index = a.index;
      pins = a.pins;
      sent = map sent_pin a.sent.items;
      hand = hand_of a.hand.items;
      offered = option_map (λ (out : Out). out.place.0) a.offered;
      lefts = option_to_list (option_map (λ (out : Out). out.left) a.offered) ++ map going_left (map going_of a.hand.items);
      again = a.again;
      standings = a.standings.items;
      claims = a.claims.items;
      pages = a.pages.items;
      keeps = a.standings.keeps;
    }

-- There is room to send all that is pinned, and for an offered chunk to come back. All notes can be had at the end, or none.
pub record HasRoom {L : Type 0} {g : _} (a : Inside L g) : Type 0 where
  pub sent : KnowsThat a.pins (λ memory. deque_len a.sent + length memory.pinned ≤ deque_capacity a.sent)
  pub hand : IsSome a.offered → deque_len a.hand < deque_capacity a.hand
  pub claims : a.claims.keeps ≡ a.standings.keeps
  pub pages : a.pages.keeps ≡ a.standings.keeps
