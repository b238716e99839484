use Rattle.std.proofs.Common.{arith, inr, get_or}
use Rattle.hs_check_follow.proofs.Prelude.{lent_is, lent_from, FollowedClient}
use Rattle.hs_check_follow.proofs.clients.next_chunk.Goals as goal

pub fill_next-requires : goal.fill_next-requires
fill_next-requires c =
    let items = c.args.clients.now.items in
    let now = c.as_mut_slice.result.now in
    let old : FollowedClient = get_or now c.args.client c.index-as_mut_slice-client.result in
    c.requires c.args.client old (lent_from items now c.args.client c.index-as_mut_slice-client.result c.as_mut_slice.ensures.value (omega (arith, c.if-client-len.false, c.len.ensures)))

pub returns : goal.returns
returns c =
    let items = c.args.clients.now.items in
    let now = c.as_mut_slice.result.now in
    let old : FollowedClient = get_or now c.args.client c.index-as_mut_slice-client.result in
    inr
    (record {
      before = old;
      stood = lent_from items now c.args.client c.index-as_mut_slice-client.result c.as_mut_slice.ensures.value (omega (arith, c.if-client-len.false, c.len.ensures));
      now = c.fill_next.new.sending;
      set = lent_is items now c.args.client c.fill_next.new.sending c.as_mut_slice.ensures.value;
      became = c.in_ok-held.ensures;
    })
