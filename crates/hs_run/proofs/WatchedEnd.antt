-- What the watchers of a run saw, when it is over.
use Rattle.std.proofs.Common.{◌≡◌, ℕ, ◌+◌, ◌*◌, List, [], ◌∷◌, length, subst, ◌∙◌}
use Rattle.hs_run.proofs.Prelude.{length-map, AllByRecursion, all_each, Listing, Progress, items_of, ShownIsSeen, PlainCoordinatorActor, PlainJournal, PlainWorkload, NotesRounds, Showing, IsValid, ActingNode, AllWatched}
use Rattle.hs_run.specs.Seen.{IsSeen, AreSeen}
use Rattle.hs_board.specs.Watching.{HaveLookedInAll, IsSeenOf}
use Rattle.hs_run.specs.Watched.{HaveShown}

pub have_shown : ShownIsSeen → (W : PlainWorkload) (nodes : List ActingNode) (c : PlainCoordinatorActor) (watch : Showing) (w : AllWatched W nodes c watch) → IsValid W → (J : PlainJournal)
    → NotesRounds W w.over.rounds w.over.made.moment w.over.made.came J → HaveShown W J watch
have_shown law W nodes c watch w valid J notes =
    record {
      ended = w.ended;
      looks = subst (λ (n : ℕ). HaveLookedInAll (4 * n + 1) watch) w.all w.looks;
      seen = λ list of. law W w.over.rounds w.over.made.moment w.over.made.came J valid notes w.all watch.shown list w.shown w.last.0 w.last.1 w.last.2 of;
    }

-- the lists of all watchers
pub all_lists : (P : List Progress → Type 0) (lists : List (Listing Progress)) → AllByRecursion (λ (list : Listing Progress). P list.items) lists → AllByRecursion P (items_of lists)
all_lists P [] all = tt
all_lists P (x ∷ lists) all = (all.0, all_lists P lists all.1)

pub all_seen : (W : PlainWorkload) (J : PlainJournal) (watch : Showing) → HaveShown W J watch → (lists : List (Listing Progress)) → length lists ≡ 2 → AllByRecursion (λ (list : Listing Progress). IsSeenOf watch.shown list.items) lists
    → AreSeen W J (items_of lists)
all_seen W J watch shown lists two all = (
  length-map lists (λ (list : Listing Progress). list.items) ∙ two,
  all_lists (IsSeen W J) lists
      (all_each (λ (list : Listing Progress). IsSeenOf watch.shown list.items) (λ (list : Listing Progress). IsSeen W J list.items) lists (λ list is. shown.seen list.items is) all),
)
