-- What several proofs of this crate take from other crates and from its own specs: each imports it from here.
pub use Rattle.hs_base.specs.declared.ids.TraceId.{TraceId}
pub use Rattle.hs_base.specs.declared.told.Crumb.{Crumb}
pub use Rattle.hs_base.specs.declared.told.Trigger.{Trigger}
pub use Rattle.hs_client.specs.Core.{after_step, Core, Fits, NeedsPage, renewed_core}
pub use Rattle.hs_link.specs.Contents.{HasPlaces, Outgoing, sent}
pub use Rattle.hs_live.proofs.Cuts.{draws_none, draws_refilled, draws_trans}
pub use Rattle.hs_live.proofs.Senders.{goes_same, goes_trans}
pub use Rattle.hs_live.specs.Calls.{counts, renewed_of, WritesOnly}
pub use Rattle.hs_live.specs.Done.{Does, DoesNothing, HasDone}
pub use Rattle.hs_live.specs.Keys.{Key}
pub use Rattle.hs_live.specs.Live.{Flushes, GoesOn, PlainClient, Sends}
pub use Rattle.hs_live.specs.Writing.{DrawsOn, Made, Spends, Writing, writing_of}
pub use Rattle.hs_live.specs.declared.called.Called.TheVariants.{Done as LiveDone}
pub use Rattle.hs_node_client.specs.Clients.{KeepsEnds, NotesIt, nulls_of, PlainNodeClient, PutsThrough}
pub use Rattle.hs_node_client.specs.Inside.{HasCalls, IsNodeClient, node_client_of}
pub use Rattle.hs_node_client.specs.Known.{AreDeclared, rules_in}
pub use Rattle.hs_node_client.specs.Lives.{ClientLife, CoreLife, FollowsOn, HasLife, IsLow, Lives, LivesOn, Turns, with_op}
pub use Rattle.hs_node_client.specs.Notes.{Lacks, Notes, PutsOn}
pub use Rattle.hs_node_client.specs.declared.answers.CallAnswer.{CallAnswer}
pub use Rattle.hs_records.specs.Plain.{Begin, End, Fire, Operation, Point, Sample}
pub use Rattle.hs_ring.specs.Parts.{Drawing, Leased}
