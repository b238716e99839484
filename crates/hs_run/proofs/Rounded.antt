-- What a round more says of all rounds.
use Rattle.std.proofs.Common.{◌≡◌, ℕ, suc, ◌+◌, ◌*◌, ◌<◌, ◌≤◌, List, [], length, Some, true, false, sym, ap, subst, ◌∙◌, arith, slice_get}
use Rattle.hs_run.proofs.Prelude.{suc-mul, slice_get_within, get_there, ClientId, MAX_OPERATIONS, Operation, PlainSettings, PlainWorkload, operations_at, place_of, IsValid, PlainClientActor, ClientActorIsAt, HasSentSoFar, PlainCoordinatorActor, NodeWork, IsFew, PlainNodeActors, RunState, RunStands, Came, NoRoundsCome, AllBegin, ActingNode, IsHere, AreFew, ActedTo, MetTo, MovedTo, CanBegin, DoneIn, RoundsMade, RoundsOver, TellsLeft}
use Rattle.std.proofs.Math.Nat.{mul-le-mul_left}
use Rattle.hs_records.specs.declared.setting.Setting.TheVariants as settings
use Rattle.hs_records.proofs.Sizes.{operations_few}
use Rattle.hs_run_actors.specs.Work.{triggered}
use Rattle.hs_run.specs.Acting.{Acts}
use Rattle.hs_run.specs.Meeting.{AllMeet}
use Rattle.hs_run.specs.Moving.{Moves}
use Rattle.hs_run.specs.Coming.{RoundsGoOn}
use Rattle.hs_run.specs.Moments.{AllDone}
use Rattle.hs_run.specs.Movings.{AllStand}
use Rattle.hs_run.specs.Nodes.{AreWhole}
use Rattle.hs_run.proofs.FewTaken.{few_clients}
use Rattle.hs_run.proofs.Few.{few_met}
use Rattle.hs_run.proofs.Moments.{node_stands, node_low, node_there, site_there}
use Rattle.hs_outcome.proofs.Fitting.{pieces_at_place}

-- what clients have sent
abbrev pub SendSo : Type 0
SendSo = (settings : PlainSettings) (client : ClientId) (ops : List Operation) (caller : PlainClientActor) → ClientActorIsAt settings client ops caller → HasSentSoFar settings client ops caller

module _ (W : PlainWorkload) (m : RunState) (nodes : List ActingNode) (c : PlainCoordinatorActor) (here : IsHere W m nodes c) where
  pub whole_of : AreWhole W nodes
  whole_of = record { each = λ n node at. record { valid = here.stands.valid; low = node_low W m nodes c here n node at; clients = (node_stands W m nodes c here n node at).count } }

  pub stand_of : AllStand nodes
  stand_of = record { each = λ n node at. record { workload = W; valid = here.stands.valid; node = n; work = m.works n; stands = node_stands W m nodes c here n node at } }

-- a trace with the ends that all begin with
CameFrom : PlainWorkload → RunState → ℕ → Type 0
CameFrom W m rounds = (came : Came W rounds m) × AllBegin W (came.at 0)

-- ---- limits

pub few_operations : (W : PlainWorkload) → IsValid W → (place : ℕ) → length (operations_at W place) ≤ MAX_OPERATIONS
few_operations W valid place =
    let a = operations_few W.settings.size (operations_at W place) in
    let b = pieces_at_place W.settings.size W.clients place in
    let d = valid.few in
    omega (arith, a, b, d)

some_stride : (W : PlainWorkload) → IsValid W → 1 ≤ W.settings.stride
some_stride W valid = (valid.head settings.Stride).0

pub left_low : (W : PlainWorkload) (made : ℕ) (nodes : List ActingNode) (c : PlainCoordinatorActor) → RoundsMade W made nodes c → TellsLeft W nodes true → made < MAX_OPERATIONS
left_low W made nodes c h (n, node, at, (number, caller, found, less)) =
    let stands = h.here.stands in
    let place = place_of W.settings.clients n number in
    let done = h.done n number node.site caller (ap (λ (l : List PlainNodeActors). slice_get l n) h.here.nodes_are ∙ site_there nodes n node at) found in
    let most = few_operations W stands.valid place in
    let stride = some_stride W stands.valid in
    let rise : made * 1 ≤ made * W.settings.stride = mul-le-mul_left made stride in
    let one : made * 1 ≡ made = omega arith in
    omega (arith, done, most, rise, one, less)

-- ---- the first moment

no_triggers : (W : PlainWorkload) → IsValid W → (work : NodeWork) → work.events ≡ [] → IsFew W work
no_triggers W valid work none = let e = ap triggered none in record { clients = few_clients W valid; triggers = omega (arith, e) }

pub begin_made : NoRoundsCome → (W : PlainWorkload) (nodes : List ActingNode) (c : PlainCoordinatorActor) → CanBegin W nodes c → RoundsMade W 0 nodes c
begin_made none W nodes c b =
    let zero_times : 0 * W.settings.stride ≡ 0 = omega arith in
    let (came, first) = none W b.moment b.begun in
    record {
      moment = b.moment;
      came = came;
      ends = subst (AllBegin W) (sym first) b.ends;
      here = b.here;
      few = λ n low. no_triggers W b.here.stands.valid (b.moment.works n) (ap (λ (x : NodeWork). x.events) (b.begun.works n));
      done = λ n number site caller at found. let e = b.begun.done n number site caller at found in omega (arith, e, zero_times);
    }

-- ---- a round more

site_at : (W : PlainWorkload) (m : RunState) → RunStands W m → (n : ℕ) → n < W.settings.nodes → (site : PlainNodeActors) × (slice_get m.standing.nodes n ≡ Some site)
site_at W m stands n low = let count = stands.count in get_there m.standing.nodes n (omega (arith, low, count))

low_at : (W : PlainWorkload) (m : RunState) → RunStands W m → (n : ℕ) (site : PlainNodeActors) → slice_get m.standing.nodes n ≡ Some site → n < W.settings.nodes
low_at W m stands n site at = let count = stands.count in let low = slice_get_within m.standing.nodes n site at in omega (arith, low, count)

module _ (sent_so : SendSo) (W : PlainWorkload) (m acted met m' : RunState) (stands : RunStands W m) (acts : Acts W m acted) (meets : AllMeet W acted met) (moves : Moves W met m') where
  few_here : (n : ℕ) → n < W.settings.nodes → IsFew W (met.works n)
  few_here n low =
      let (site, at) = site_at W acted acts.stands n low in
      let (site', at') = site_at W met meets.stands n low in
      let few = few_met W stands.valid n low (acted.works n) site site' (acts.stands.each n site at) (meets.each n site site' at at') sent_so in
      subst (λ (works : ℕ → NodeWork). IsFew W (works n)) (sym meets.works) few

  pub few_next : AreFew W m'
  few_next n low =
      let few = few_here n low in
      let same = moves.works n in
      let e = ap triggered same.events in
      let most = few.triggers in
      record { clients = few.clients; triggers = omega (arith, e, most) }

  pub done_next : (rounds : ℕ) → DoneIn W rounds m.standing.nodes → DoneIn W (rounds + 1) m'.standing.nodes
  done_next rounds done n number site caller at found =
      let low = low_at W m' moves.stands n site at in
      let (site2, at2) = site_at W met meets.stands n low in
      let (site1, at1) = site_at W acted acts.stands n low in
      let (site0, at0) = site_at W m stands n low in
      let moved = moves.each n site2 site at2 at in
      let found2 : slice_get site2.callers number ≡ Some caller = sym (ap (λ (l : List PlainClientActor). slice_get l number) moved.callers) ∙ found in
      let below = slice_get_within site2.callers number caller found2 in
      let count2 = (meets.stands.each n site2 at2).count in
      let count1 = (acts.stands.each n site1 at1).count in
      let count0 = (stands.each n site0 at0).count in
      let (caller1, found1) = get_there site1.callers number (omega (arith, below, count2, count1)) in
      let (caller0, found0) = get_there site0.callers number (omega (arith, below, count2, count0)) in
      let same = ((meets.each n site1 site2 at1 at2).callers number caller1 caller found1 found2).done in
      let goes = ((acts.each n site0 site1 at0 at1).goes number caller0 caller1 found0 found1).done in
      let was = done n number site0 caller0 at0 found0 in
      let product : (rounds + 1) * W.settings.stride ≡ rounds * W.settings.stride + W.settings.stride = let e : rounds + 1 ≡ suc rounds = omega arith in ap (λ (k : ℕ). k * W.settings.stride) e ∙ suc-mul rounds W.settings.stride in
      omega (arith, same, goes, was, product)

pub made_more : RoundsGoOn → SendSo → (W : PlainWorkload) (made : ℕ) (nodes nodes1 nodes2 nodes3 : List ActingNode) (c c1 c3 : PlainCoordinatorActor) (h : RoundsMade W made nodes c) (a : ActedTo W h.moment nodes1 c1) (b : MetTo W a.next nodes2 c1)
    (d : MovedTo W b.next nodes3 c3) → RoundsMade W (made + 1) nodes3 c3
unfolding CameFrom
made_more on sent_so W made nodes nodes1 nodes2 nodes3 c c1 c3 h a b d =
    let next : suc made ≡ made + 1 = omega arith in
    let (came, first) = on W made h.moment a.next b.next d.next h.came a.acts b.meets d.moves in
    let whole : CameFrom W d.next (made + 1) = subst (CameFrom W d.next) next (came, subst (AllBegin W) (sym first) h.ends) in
    record {
      moment = d.next;
      came = whole.0;
      ends = whole.1;
      here = d.here;
      few = few_next sent_so W h.moment a.next b.next d.next h.here.stands a.acts b.meets d.moves;
      done = done_next sent_so W h.moment a.next b.next d.next h.here.stands a.acts b.meets d.moves made h.done;
    }

-- ---- all rounds

pub all_done : (W : PlainWorkload) (made : ℕ) (nodes : List ActingNode) (c : PlainCoordinatorActor) (h : RoundsMade W made nodes c) → TellsLeft W nodes false → AllDone W h.moment.standing.nodes
all_done W made nodes c h none n number site caller at found =
    let (node, there, is) = node_there nodes n site (sym (ap (λ (l : List PlainNodeActors). slice_get l n) h.here.nodes_are) ∙ at) in
    let done = h.done n number site caller at found in
    let all = none n node there number caller (ap (λ (s : PlainNodeActors). slice_get s.callers number) is ∙ found) in
    omega (arith, done, all)

pub all_rounds : (W : PlainWorkload) (made : ℕ) (nodes : List ActingNode) (c : PlainCoordinatorActor) → RoundsMade W made nodes c → TellsLeft W nodes false → RoundsOver W nodes c
all_rounds W made nodes c h none = record { rounds = made; made = h; all = all_done W made nodes c h none }
