use Rattle.std.proofs.Common.{arith, inr, refl, get_or}
use Rattle.hs_check_follow.proofs.Prelude.{lent_is, lent_from, FollowedClient}
use Rattle.hs_check_follow.proofs.clients.next_crumb.Goals as goal

pub returns : goal.returns
returns c =
    let items = c.args.clients.now.items in
    let now = c.as_mut_slice.result.now in
    let old : FollowedClient = get_or now c.args.client c.index-as_mut_slice-client.result in
    let new : FollowedClient = record old { crumbs = c.pop_front.new.self } in
    inr
    (record {
      before = old;
      stood = lent_from items now c.args.client c.index-as_mut_slice-client.result c.as_mut_slice.ensures.value (omega (arith, c.if-client-len.false, c.len.ensures));
      now = new;
      set = lent_is items now c.args.client new c.as_mut_slice.ensures.value;
      became =
          record {
            items = c.pop_front.ensures.items;
            rest = c.pop_front.ensures.rest;
            chunks = refl;
            triggers = refl;
            beside = record { found = refl; book = refl };
          };
    })
