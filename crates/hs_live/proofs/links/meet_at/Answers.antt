use Rattle.hs_live.proofs.Ports.{met_at}
use Rattle.hs_live.proofs.links.meet_at.Goals as goal

pub returns : goal.returns
returns g c =
    met_at c.args.receivers.now.items c.as_mut_slice.result.now c.args.client c.index-as_mut_slice-client.result c.args.sender.now c.tell.new.self c.tell-2.new.sender c.tell.new.receiver c.tell-2.new.self
    c.as_mut_slice.ensures.value c.requires c.tell.ensures.sender c.tell.ensures.receiver c.tell.ensures.contents c.tell-2.ensures.receiver c.tell-2.ensures.sender
