-- Notes with rising numbers.
use Rattle.std.proofs.Common.{ℕ, ◌<◌, ◌≤◌, Bool, true, false, List, [], ◌∷◌, ◌++◌, sym, subst, arith}
use Rattle.std.specs.List.{AllByRecursion}
use Rattle.hs_base.specs.declared.ids.TraceId.{TraceId}
use Rattle.hs_link.specs.Contents.{sent}
use Rattle.hs_base.proofs.Alls.{all_push}
use Rattle.hs_node_client.specs.Notes.{AreNumbered, AreRising, Notes}
use Rattle.hs_node_client.specs.declared.notebook.Notebook.{Notebook}
use Rattle.hs_node_client.specs.declared.paged.NextPage.{NextPage}
use Rattle.hs_node_client.specs.declared.segment.SegmentNote.{SegmentNote}
use Rattle.hs_node_client.specs.declared.segment.SegmentState.{SegmentState}

-- what lies below a number lies below a greater one
below_more : (notes : List SegmentNote) (number more : ℕ) → number ≤ more → AllByRecursion (λ (note : SegmentNote). note.number < number) notes → AllByRecursion (λ (note : SegmentNote). note.number < more) notes
below_more [] number more up all = tt
below_more (note ∷ notes) number more up all = (omega (arith, up, all.0), below_more notes number more up all.1)

rising_push : (notes : List SegmentNote) (last : SegmentNote) → AreRising notes → AllByRecursion (λ (note : SegmentNote). note.number < last.number) notes → AreRising (notes ++ last ∷ [])
rising_push [] last rising below = (tt, tt)
rising_push (note ∷ notes) last rising below = (all_push (λ (other : SegmentNote). note.number < other.number) notes last rising.0 below.0, rising_push notes last rising.1 below.1)

pub numbered : (place : NextPage) (trace : TraceId) (state : SegmentState) (old : Notebook) (was_sent : Bool) (new : Notebook) → Notes place trace state old was_sent new → AreNumbered old → AreNumbered new
numbered place trace state old true new n h =
    let last : SegmentNote = record { number = old.number; trace = trace; core = place.core; page = place.page; state = state } in
    let up : old.number ≤ new.number = omega (arith, n.number) in
    record {
      rising = subst AreRising (sym n.sends) (rising_push (sent old.link) last h.rising h.below);
      below = subst (AllByRecursion (λ (note : SegmentNote). note.number < new.number)) (sym n.sends) (all_push (λ (note : SegmentNote). note.number < new.number) (sent old.link) last (below_more (sent old.link) old.number new.number up h.below) (omega (arith, n.number)));
    }
numbered place trace state old false new n h =
    let up : old.number ≤ new.number = omega (arith, n.number) in
    record {
      rising = subst AreRising (sym n.sends.0) h.rising;
      below = subst (AllByRecursion (λ (note : SegmentNote). note.number < new.number)) (sym n.sends.0) (below_more (sent old.link) old.number new.number up h.below);
    }
