use Rattle.std.proofs.Common.{map, sym, subst}
use Rattle.hs_run.proofs.Prelude.{IfOk-weaker, client_book_of, PlainNodeActors, site_of}
use Rattle.hs_run.specs.Ended.{IsEnded, HasClosedLinks}
use Rattle.hs_run.specs.declared.shutting.ClosedNode.{ClosedNode}
use Rattle.hs_run.proofs.Shut.{all_done, ends_left, closed_of}
use Rattle.hs_run.proofs.shutting.shut.Goals as goal

pub take_apart-parted-requires : goal.take_apart-parted-requires
take_apart-parted-requires c = all_done (site_of c.site.inside) (subst IsEnded (sym c.site.view_is) c.requires)

pub close_parted-requires : goal.close_parted-requires
close_parted-requires c =
    let e = c.take_apart-parted.ensures in ends_left (site_of c.site.inside) (subst IsEnded (sym c.site.view_is) c.requires) c.take_apart-parted.result e.chunks e.crumbs e.triggers

pub returns : goal.returns
returns c =
    let e = c.take_apart-parted.ensures in
    IfOk-weaker c.close_parted.result _ _
    (λ (closed : ClosedNode) is.
    subst (λ (s : PlainNodeActors). HasClosedLinks s (map client_book_of closed.books.items) closed.drawers.items closed.node) c.site.view_is
    (closed_of (site_of c.site.inside) c.take_apart-parted.result closed is e.books e.drawers e.chunks e.crumbs e.triggers)) c.close_parted.ensures
