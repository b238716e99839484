-- From which pass on the latest life of a node is sure, over any calls of a hub.
use Rattle.std.proofs.Common.{◌≡◌, ◌≢◌, ℕ, ◌<◌, ◌≤◌, ◌⊎◌, inl, inr, Bool, true, false, not, cond, ◌&&◌, ◌||◌, List, [], ◌∷◌, length, set, map, position, eqb, nat_le, nat_lt, Option, Some, None, refl, sym, ap, subst, ◌∙◌}
use Rattle.std.specs.Prelude.{slice_get, slice_set}
use Rattle.std.specs.Option.{option_map_or}
use Rattle.std.proofs.lemmas.Bool.{ltb-true, leb-true, eqb-true, eqb-false}
use Rattle.std.proofs.lemmas.List.{length-set, length-replicate, get_or-set_same, get_or-set_other}
use Rattle.std.proofs.lemmas.Option.{slice_get-get_or, slice_get_within, get_or_from_slice_get}
use Rattle.hs_base.proofs.Tests.{list_all_at}
use Rattle.hs_base.specs.declared.ids.NodeId.{NodeId}
use Rattle.hs_base.specs.declared.ids.TraceId.{TraceId}
use Rattle.hs_base.specs.declared.node_set.NodeSet.{NodeSet}
use Rattle.hs_base.specs.declared.told.Ask.{Ask}
use Rattle.hs_base.specs.declared.told.Told.{Told}
use Rattle.hs_base.specs.NodeSets.{nodes_of}
use Rattle.hs_wire.specs.declared.message.Standing.{Standing}
use Rattle.hs_groups.specs.declared.answers.LifeHeard.TheVariants as hearing
use Rattle.hs_groups.specs.declared.answers.ToldOutcome.TheVariants as of_group
use Rattle.hs_groups.specs.Following.{answer_of, taken, renewed, sent_to}
use Rattle.hs_groups.specs.Groups as groups
use Rattle.hs_groups.specs.Groups.{PlainGroups, latest_of, answer_of_hear, heard, is_known, is_full, is_of, changed_at, begins, followed_by}
use Rattle.hs_standings.specs.declared.answers.StandingOutcome as standing_answers
use Rattle.hs_standings.specs.declared.answers.StandingOutcome.TheVariants as of_standing
use Rattle.hs_standings.specs.Standing as standings
use Rattle.hs_traces.specs.declared.answers.Added as page_answers
use Rattle.hs_traces.specs.declared.answers.Added.TheVariants as of_page
use Rattle.hs_traces.specs.declared.key.PageKey.{PageKey}
use Rattle.hs_traces.specs.Traces as traces
use Rattle.hs_traces.specs.Traces.{keys_in}
use Rattle.hs_receipts.specs.declared.answers.MessageId.{MessageId}
use Rattle.hs_saved.specs.Saved.{parts_of}
use Rattle.hs_verdict.specs.Verdict.{claims, is_whole}
use Rattle.hs_hub.specs.declared.answers.OutReason.{OutReason}
use Rattle.hs_hub.specs.declared.answers.HubLimits.{HubLimits}
use Rattle.hs_hub.specs.Births.{with_birth, is_sure, are_nodes_sure, is_group_sure, are_sure}
use Rattle.hs_hub.specs.Hub.{PlainHub, no_hub, room, birth_of, node_of, life_of, after_answer_to_told, after_added, after_noted, after_ask, after_given, goes, after_saved_of, is_sure_of, is_whole_out}
use Rattle.hs_hub.specs.Life.{HubAct, Hears, Tells, Reports, Says, Asks, Passes, Gives, LetsGo, Names, after, life}
use Rattle.hs_hub.specs.SureLives.{latest_at, IsHeard, IsUnheard, IsOfSureLives}

-- ---- a list with one element set

record IsSet (xs : List ℕ) (i v b : ℕ) : Type 0 where
  within : i < length xs
  is : b ≡ v

read_same : (xs : List ℕ) (i v b : ℕ) → slice_get (set xs i v) i ≡ Some b → IsSet xs i v b
read_same xs i v b e =
    let within : i < length xs = subst (λ m. i < m) (length-set xs i v) (slice_get_within (set xs i v) i b e) in
    record { within = within; is = sym (get_or_from_slice_get (set xs i v) i b 0 e) ∙ get_or-set_same xs i v 0 within }

read_other : (xs : List ℕ) (i j v b : ℕ) → j ≢ i → slice_get (set xs i v) j ≡ Some b → slice_get xs j ≡ Some b
read_other xs i j v b apart e =
    let within : j < length xs = subst (λ m. j < m) (length-set xs i v) (slice_get_within (set xs i v) j b e) in
    slice_get-get_or xs j 0 within ∙ ap Some (sym (get_or-set_other xs i j v 0 apart) ∙ get_or_from_slice_get (set xs i v) j b 0 e)

-- ---- one call: the births stay, or a life is heard that is newer than all before

abbrev Births : Type 0
Births = List ℕ

abbrev AtNode : PlainGroups → PlainGroups → Births → (NodeId → ℕ) → ℕ → ℕ → Type 0
AtNode g new births birth node b =
    ((latest_of g (record { 0 = node }) < latest_of new (record { 0 = node })) × (b ≡ birth (record { 0 = node })))
    ⊎ ((latest_of new (record { 0 = node }) ≡ latest_of g (record { 0 = node })) × (slice_get births node ≡ Some b))

record Steps (g new : PlainGroups) (births then : Births) (birth : NodeId → ℕ) : Type 0 where
  size : length then ≡ length new.epochs
  at : (node b : ℕ) → slice_get then node ≡ Some b → AtNode g new births birth node b

stay : (g : PlainGroups) (births : Births) (birth : NodeId → ℕ) → length births ≡ length g.epochs → Steps g g births births birth
stay g births birth size = record { size = size; at = λ node b e. inr (refl, e) }

-- with the epoch of a node set
abbrev with_epoch : PlainGroups → NodeId → ℕ → PlainGroups
with_epoch g n epoch = record g { epochs = slice_set g.epochs n.0 epoch; groups = map (renewed n) g.groups }

newer_same : (g : PlainGroups) (births : Births) (n : NodeId) (epoch b : ℕ) (birth : NodeId → ℕ) → length births ≡ length g.epochs → latest_of g n < epoch
    → slice_get (set births n.0 (birth n)) n.0 ≡ Some b → AtNode g (with_epoch g n epoch) births birth n.0 b
newer_same g births n epoch b birth size later e =
    let read = read_same births n.0 (birth n) b e in
    let within : n.0 < length g.epochs = subst (λ m. n.0 < m) size read.within in
    inl (subst (λ m. latest_of g n < m) (sym (get_or-set_same g.epochs n.0 epoch 0 within)) later, read.is)

newer_at : (g : PlainGroups) (births : Births) (n : NodeId) (epoch : ℕ) (birth : NodeId → ℕ) → length births ≡ length g.epochs → latest_of g n < epoch
    → (node b : ℕ) → slice_get (set births n.0 (birth n)) node ≡ Some b → AtNode g (with_epoch g n epoch) births birth node b
newer_at g births n epoch birth size later node b e = by_node (eqb n.0 node) refl
  where
    by_node : (same : Bool) → eqb n.0 node ≡ same → AtNode g (with_epoch g n epoch) births birth node b
    by_node true is =
        subst (λ m. slice_get (set births n.0 (birth n)) m ≡ Some b → AtNode g (with_epoch g n epoch) births birth m b) (eqb-true n.0 node is)
        (newer_same g births n epoch b birth size later) e
    by_node false is =
        let apart : node ≢ n.0 = λ same. eqb-false n.0 node is (sym same) in
        inr (get_or-set_other g.epochs n.0 node epoch 0 apart, read_other births n.0 node (birth n) b apart e)

heard_steps : (g : PlainGroups) (births : Births) (n : NodeId) (epoch : ℕ) (birth : NodeId → ℕ) → length births ≡ length g.epochs
    → Steps g (heard g n epoch) births (with_birth (answer_of_hear g n epoch) n (birth n) births) birth
heard_steps g births n epoch birth size = by (nat_le g.limits.nodes n.0) (nat_lt (latest_of g n) epoch) refl
  where
    by : (out newer : Bool) → nat_lt (latest_of g n) epoch ≡ newer
        → Steps g (cond out g (cond newer (with_epoch g n epoch) g)) births (with_birth (cond out hearing.Refused (cond newer hearing.Newer hearing.Known)) n (birth n) births) birth
    by true newer is = stay g births birth size
    by false false is = stay g births birth size
    by false true is = record {
      size = length-set births n.0 (birth n) ∙ size ∙ sym (length-set g.epochs n.0 epoch);
      at = newer_at g births n epoch birth size (ltb-true (latest_of g n) epoch is);
    }

-- ---- a node tells of a group

told_steps : (g : PlainGroups) (births : Births) (n : NodeId) (epoch : ℕ) (told : Told) (birth : NodeId → ℕ) → length births ≡ length g.epochs
    → Steps g (heard (followed_by g n (answer_of told.why (latest_of g n) epoch n) told) n epoch) births (with_birth (answer_of_hear g n epoch) n (birth n) births) birth
told_steps g births n epoch told birth size = by (position (is_of told.group.id) g.groups)
  where
    answered : NodeSet
    answered = answer_of told.why (latest_of g n) epoch n

    by : (place : Option ℕ)
        → Steps g (heard (option_map_or (λ place. record g { groups = changed_at (λ followed. taken followed answered told) g.groups place }) place (begins g n answered told)) n epoch) births
        (with_birth (answer_of_hear g n epoch) n (birth n) births) birth
    by None = let steps = heard_steps (begins g n answered told) births n epoch birth size in record { size = steps.size; at = steps.at }
    by (Some place) =
        let steps = heard_steps (record g { groups = changed_at (λ followed. taken followed answered told) g.groups place }) births n epoch birth size in
        record { size = steps.size; at = steps.at }

abbrev Step : PlainHub → PlainHub → Type 0
Step h new = Steps h.groups new.groups h.births new.births (birth_of h)

tells : (h : PlainHub) (message : MessageId) (told : Told) → length h.births ≡ length h.groups.epochs → (full known many : Bool)
    → is_known h.groups (node_of message) told.crumbs ≡ known → is_full h.groups told.group.id ≡ many
    → Step h (cond full h (after_answer_to_told h message told (cond known (cond many of_group.Full (of_group.Taken (answer_of_hear h.groups (node_of message) message.epoch))) of_group.Refused)))
tells h message told size true known many is not_many = stay h.groups h.births (birth_of h) size
tells h message told size false false many is not_many = stay h.groups h.births (birth_of h) size
tells h message told size false true true is not_many = stay h.groups h.births (birth_of h) size
tells h message told size false true false is not_many =
    let g = h.groups in
    let n = node_of message in
    let new = heard (followed_by g n (answer_of told.why (latest_of g n) message.epoch n) told) n message.epoch in
    let same : groups.after_told g n message.epoch told ≡ new =
    ap (λ known. cond (known && not (is_full g told.group.id)) new g) is ∙ ap (λ many. cond (true && not many) new g) not_many in
    subst (λ after. Steps g after h.births (with_birth (answer_of_hear g n message.epoch) n (birth_of h n) h.births) (birth_of h)) (sym same)
    (told_steps g h.births n message.epoch told (birth_of h) size)

-- ---- a page or a standing comes

reports : (h : PlainHub) (message : MessageId) (trace : TraceId) (key : PageKey) (bytes : List ℕ) → length h.births ≡ length h.groups.epochs
    → (unknown full : Bool) (a : page_answers.Added) → Step h (cond unknown h (cond full h (after_added h message trace key bytes a)))
reports h message trace key bytes size true full a = stay h.groups h.births (birth_of h) size
reports h message trace key bytes size false true a = stay h.groups h.births (birth_of h) size
reports h message trace key bytes size false false of_page.Added = heard_steps h.groups h.births (node_of message) message.epoch (birth_of h) size
reports h message trace key bytes size false false of_page.Repeated = heard_steps h.groups h.births (node_of message) message.epoch (birth_of h) size
reports h message trace key bytes size false false of_page.NoPage = stay h.groups h.births (birth_of h) size
reports h message trace key bytes size false false of_page.Foreign = stay h.groups h.births (birth_of h) size
reports h message trace key bytes size false false of_page.Full = stay h.groups h.births (birth_of h) size

says : (h : PlainHub) (message : MessageId) (standing : Standing) → length h.births ≡ length h.groups.epochs
    → (unknown full : Bool) (a : standing_answers.StandingOutcome) → Step h (cond unknown h (cond full h (after_noted h message standing a)))
says h message standing size true full a = stay h.groups h.births (birth_of h) size
says h message standing size false true a = stay h.groups h.births (birth_of h) size
says h message standing size false false of_standing.Noted = heard_steps h.groups h.births (node_of message) message.epoch (birth_of h) size
says h message standing size false false of_standing.Older = heard_steps h.groups h.births (node_of message) message.epoch (birth_of h) size
says h message standing size false false of_standing.Full = stay h.groups h.births (birth_of h) size

-- ---- each other call leaves epochs and births as they are

sent : (h : PlainHub) (ask : NodeId × Ask) → length h.births ≡ length h.groups.epochs → (place : Option ℕ)
    → Steps h.groups (option_map_or (λ place. record h.groups { groups = changed_at (sent_to ask.0 h.passes) h.groups.groups place }) place h.groups) h.births h.births (birth_of h)
sent h ask size None = stay h.groups h.births (birth_of h) size
sent h ask size (Some place) = record { size = size; at = λ node b e. inr (refl, e) }

asks : (h : PlainHub) (ask : Option (NodeId × Ask)) → length h.births ≡ length h.groups.epochs → Step h (after_ask h ask)
asks h None size = stay h.groups h.births (birth_of h) size
asks h (Some ask) size = sent h ask size (position (is_of ask.1.group.id) h.groups.groups)

gives : (h : PlainHub) (trace : Option (TraceId × OutReason)) → length h.births ≡ length h.groups.epochs → Step h (after_given h trace)
gives h None size = stay h.groups h.births (birth_of h) size
gives h (Some trace) size = stay h.groups h.births (birth_of h) size

lets_go : (h : PlainHub) (trace : Option TraceId) → length h.births ≡ length h.groups.epochs → Step h (after_saved_of h trace)
lets_go h None size = stay h.groups h.births (birth_of h) size
lets_go h (Some trace) size = stay h.groups h.births (birth_of h) size

one_call : (h : PlainHub) → length h.births ≡ length h.groups.epochs → (act : HubAct) → Step h (after h act)
one_call h size (Hears node epoch) = heard_steps h.groups h.births node epoch (birth_of h) size
one_call h size (Tells message told) =
    tells h message told size (nat_le (room h) (length told.laterals)) (is_known h.groups (node_of message) told.crumbs) (is_full h.groups told.group.id) refl refl
one_call h size (Reports message trace key bytes) =
    reports h message trace key bytes size (nat_le h.limits.nodes message.node) (eqb (room h) 0) (traces.answer_to h.traces trace key (length bytes))
one_call h size (Says message standing) =
    says h message standing size (nat_le h.limits.nodes message.node) (eqb (room h) 0) (standings.answer_to h.standings standing.trace (life_of message) message.number)
one_call h size Asks = asks h (groups.next_ask h.groups) size
one_call h size Passes = record { size = size; at = λ node b e. inr (refl, e) }
one_call h size Gives = gives h (goes h) size
one_call h size LetsGo = lets_go h h.receipts.out size
one_call h size Names = stay h.groups h.births (birth_of h) size

-- ---- all calls

all_calls : (h : PlainHub) (acts : List HubAct) → length h.births ≡ length h.groups.epochs → (node b : ℕ) → slice_get (life h acts).births node ≡ Some b
    → IsHeard h acts node b ⊎ IsUnheard h acts node b
all_calls h [] size node b e = inr (record { latest = refl; sure = e })
all_calls h (act ∷ acts) size node b e = by (all_calls (after h act) acts step.size node b e)
  where
    step : Step h (after h act)
    step = one_call h size act

    first : latest_at (life (after h act) acts) node ≡ latest_at (after h act) node → AtNode h.groups (after h act).groups h.births (birth_of h) node b → IsHeard h (act ∷ acts) node b ⊎ IsUnheard h (act ∷ acts) node b
    first same (inl newer) = inl (record { before = []; act = act; later = acts; split = refl; newer = newer.0; latest = sym same; sure = newer.1 })
    first same (inr still) = inr (record { latest = same ∙ still.0; sure = still.1 })

    by : IsHeard (after h act) acts node b ⊎ IsUnheard (after h act) acts node b → IsHeard h (act ∷ acts) node b ⊎ IsUnheard h (act ∷ acts) node b
    by (inl later) =
        inl (record { before = act ∷ later.before; act = later.act; later = later.later; split = ap (λ (xs : List HubAct). act ∷ xs) later.split; newer = later.newer; latest = later.latest; sure = later.sure })
    by (inr none) = first none.latest (step.at node b none.sure)

-- ---- what is called whole

left : (a b : Bool) → (a && b) ≡ true → a ≡ true
left true b e = refl
left false b e = let never : false ≡ true = e in absurd cc

right : (a b : Bool) → (a && b) ≡ true → b ≡ true
right true b e = e
right false b e = let never : false ≡ true = e in absurd cc

second : (a b : Bool) → (not a || b) ≡ true → a ≡ true → b ≡ true
second true b e y = e
second false b e y = let never : false ≡ true = y in absurd cc

sure_at : (since : ℕ) (o : Option ℕ) → option_map_or (λ birth. nat_le birth since) o false ≡ true → (birth : ℕ) × (o ≡ Some birth) × (birth ≤ since)
sure_at since (Some birth) e = (birth, refl, leb-true birth since e)
sure_at since None e = let never : false ≡ true = e in absurd cc

said : (h : PlainHub) (acts : List HubAct) (trace : TraceId) → length h.births ≡ length h.groups.epochs → is_sure_of (life h acts) trace ≡ true → IsOfSureLives h acts trace
said h acts trace size e =
    let k = life h acts in
    let parts = eqb (parts_of k.saved trace) 0 in
    let all = are_sure k.births k.out_since trace k.groups.groups in
    record {
      first = eqb-true (parts_of k.saved trace) 0 (left parts all e);
      sure = λ place followed there claimed at node here.
          let of_group = second (claims trace followed) (are_nodes_sure k.births k.out_since followed.asked)
          (list_all_at (is_group_sure k.births k.out_since trace) k.groups.groups place followed (right parts all e) there) claimed in
          let (birth, is, within) = sure_at k.out_since (slice_get k.births node) (list_all_at (is_sure k.births k.out_since) (nodes_of followed.asked) at node of_group here) in
          (birth, within, all_calls h acts size node birth is);
    }

pub sure_said : (epoch : ℕ) (is_fresh : Bool) (limits : HubLimits) (acts : List HubAct) (trace : TraceId)
    → (life (no_hub epoch is_fresh limits) acts).receipts.out ≡ Some trace → is_whole_out (life (no_hub epoch is_fresh limits) acts) ≡ true → IsOfSureLives (no_hub epoch is_fresh limits) acts trace
sure_said epoch is_fresh limits acts trace out e =
    let h = no_hub epoch is_fresh limits in
    let k = life h acts in
    let whole = is_whole k.groups k.standings trace (keys_in k.traces.out trace) in
    let both : (whole && is_sure_of k trace) ≡ true =
    sym (ap (λ (o : Option TraceId). option_map_or (λ trace. is_whole k.groups k.standings trace (keys_in k.traces.out trace) && is_sure_of k trace) o false) out) ∙ e in
    said h acts trace (length-replicate limits.nodes _ ∙ sym (length-replicate limits.nodes 0)) (right whole (is_sure_of k trace) both)
