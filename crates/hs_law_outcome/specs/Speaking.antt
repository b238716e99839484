-- When an agent speaks of a group: when it admits the group's trigger, when it is asked, and later of crumbs of traces that the
-- group holds there. So in a journal that is followed no node speaks out of turn, and what holds of orderly messages holds of
-- those that the coordinator hears: the asked set of a group that was heard of is the least that no crumb leads out of. And an
-- agent answers only an ask that it took, so a node's ask was answered exactly where it told an `Answer`.
use Rattle.std.specs.Prelude.{◌≡◌, ℕ, Bool, true, false, [], ◌∷◌, refl}
use Rattle.std.specs.List.{list_any}
use Rattle.hs_base.specs.declared.ids.GroupId.{GroupId}
use Rattle.hs_coord.specs.Following.{Messages, is_of, is_asked, has_ask, is_answer_from, is_answered}
use Rattle.hs_coord.specs.Messages.{nodes_where}
use Rattle.hs_coord.specs.Orderly.{IsOrderly, IsClosed}
use Rattle.hs_records.specs.Journals.{PlainJournal}
use Rattle.hs_records.specs.Plain.{PlainWorkload}
use Rattle.hs_law_journal.specs.Following.{Run, run_start, followed}
use Rattle.hs_law_journal.specs.Journals.{of_four_nodes}
use Rattle.hs_law_journal.specs.Orders.{Leads}
use Rattle.hs_law_journal.specs.Workloads.{four_nodes}

-- In a journal that is followed, in whatever order its steps come, no node speaks of a group out of turn.
abbrev pub MessagesAreOrderly : Type 0
MessagesAreOrderly =
    (W : PlainWorkload) (J : PlainJournal) (run : Run) → Leads W.settings (run_start W J) run → (group : GroupId) → IsOrderly group run.heard

-- A set is closed under the messages of a group, and lies within each set that is.
pub record IsLeastClosed (group : GroupId) (messages : Messages) (set : ℕ → Bool) : Type 0 where
  pub closed : IsClosed group messages set
  pub least : (other : ℕ → Bool) → IsClosed group messages other → (node : ℕ) → set node ≡ true → other node ≡ true

-- Where some message of a group was heard, the group's asked set is the least that is closed.
abbrev pub AskedSetsAreLeast : Type 0
AskedSetsAreLeast =
    (W : PlainWorkload) (J : PlainJournal) (group : GroupId) → list_any (is_of group) (followed W J).heard ≡ true
    → IsLeastClosed group (followed W J).heard (is_asked group (followed W J).heard)

-- In whatever order the steps of a journal come, a node that told an `Answer` of a group has an ask for it.
abbrev pub AnswersComeFromAsked : Type 0
AnswersComeFromAsked =
    (W : PlainWorkload) (J : PlainJournal) (group : GroupId) (node : ℕ) (run : Run) → Leads W.settings (run_start W J) run
    → list_any (is_answer_from group node) run.heard ≡ true → has_ask group run.heard node ≡ true

-- A node has an ask that was answered exactly where some message of the group is an `Answer` from the node.
abbrev pub AnswersAreToAsks : Type 0
AnswersAreToAsks =
    (W : PlainWorkload) (J : PlainJournal) (group : GroupId) (node : ℕ)
    → is_answered group (followed W J).heard node ≡ list_any (is_answer_from group node) (followed W J).heard

-- ---- examples

-- the first group of node 0, whose crumbs lead to node 1 and from there to node 2
abbrev pub first_group : GroupId
first_group = record { node = 0; number = 0 }

abbrev pub four_heard : Messages
four_heard = (followed four_nodes of_four_nodes).heard

three_of_four : (nodes_where (is_asked first_group four_heard) ≡ 0 ∷ 1 ∷ 2 ∷ []) × (nodes_where (is_answered first_group four_heard) ≡ 1 ∷ 2 ∷ [])
three_of_four = (refl, refl)

-- of a group that was never admitted nothing was heard, and nobody was asked
nobody_else : (list_any (is_of (record { node = 0; number = 1 })) four_heard ≡ false) × (nodes_where (is_asked (record { node = 0; number = 1 }) four_heard) ≡ [])
nobody_else = (refl, refl)
