use Rattle.std.proofs.Common.{None, false, map, sym, subst}
use Rattle.hs_agent.proofs.Prelude.{sent_pin, going_left, going_of, hand_of, Kept, first_point, Holds}
use Rattle.hs_records.specs.Plain.{settings_of}
use Rattle.hs_agent.proofs.Started.{holds-start}
use Rattle.hs_agent.proofs.holdings.Holdings.empty.Goals as goal

pub returns : goal.returns
returns g c =
    let settings = settings_of c.args.settings.now in
    let keeps = c.args.standings.keeps in
    subst (λ (k : Kept g.row.L.Denot). Holds k (first_point settings c.args.node.0 keeps))
    (λ i. record {
      node = c.args.node.0;
      index = sym c.in_ok-make.ensures i;
      pins = c.in_ok-make-2.field-0;
      sent = map sent_pin (sym c.new.ensures.items i);
      hand = hand_of (sym c.new-2.ensures.items i);
      offered = None;
      lefts = map going_left (map going_of (sym c.new-2.ensures.items i));
      again = false;
      standings = sym c.requires.standings i;
      claims = sym c.requires.claims.0 i;
      pages = sym c.requires.pages.0 i;
      keeps = keeps;
    })
    (holds-start settings c.args.node.0 keeps c.in_ok-make-2.field-0 c.in_ok-make-2.ensures.fresh)
