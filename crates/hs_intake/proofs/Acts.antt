-- How an intake goes on: by ends that received, by acts of its agent, and one after another.
use Rattle.std.proofs.Common.{◌≡◌, ℕ, List, [], ◌∷◌, ◌++◌, length, Option, Some, None, refl, sym, ap, subst, ◌∙◌, append_assoc}
use Rattle.std.specs.Prelude.{Bool, true, false, filter_map, Result, Ok, Err, OnOk, OnErr, IsErr}
use Rattle.std.proofs.lemmas.Bool.{false_from_ne_true}
use Rattle.std.specs.Option.{option_to_list}
use Rattle.hs_base.proofs.Alls.{all_push}
use Rattle.hs_base.specs.declared.told.Crumb.{Crumb}
use Rattle.hs_base.specs.declared.told.Group.{Group}
use Rattle.hs_base.specs.declared.told.Told.{Told}
use Rattle.hs_words.specs.Buffers.{Buffer}
use Rattle.hs_ring.specs.Parts.{Leased}
use Rattle.hs_link.specs.Contents.{Incoming}
use Rattle.hs_live.specs.Keys.{Key, IsChunkOf, IsCrumbOf}
use Rattle.hs_live.specs.Live.{Port, IsEnd, ReceivesAt}
use Rattle.hs_agent.specs.Keeping.{PlainAgent}
use Rattle.hs_agent.specs.Runs.{AgentRun, state_of, Follows, IsSpent, after_chunk, after_turn, forgetting}
use Rattle.hs_agent.specs.Tries.{after_crumb}
use Rattle.hs_law_agent.specs.Stepping.{Crumbed, told_by}
use Rattle.hs_mail.specs.Letters.{Letters}
use Rattle.hs_claimed.specs.Claims.{PlainClaims}
use Rattle.hs_intake.specs.Intakes.{PlainIntake, Waiting, Chunk, Crumbs, IntakeAct, after_act, life, told_at, told_in, IsPooled, MayWait, MayWaitIf, Stands, Tells, Goes, SaysIt, claim_by, chunk_line, crumb_line}
use Rattle.hs_intake.specs.Taking.{Receives, TakesOne, HoldsOne}
use Rattle.hs_intake.proofs.Claiming.{tells_nothing, tells_more, tells_said, tells_listed, crumb_claims}
use Rattle.hs_intake.proofs.Lines.{keys_after, receives_one, chunk_came, crumb_came, length_set}

-- ---- acts one after another

pub life_append : (xs ys : List IntakeAct) (run : AgentRun Leased) → life run (xs ++ ys) ≡ life (life run xs) ys
life_append [] ys run = refl
life_append (x ∷ xs) ys run = life_append xs ys (after_act run x)

pub told_append : (xs ys : List IntakeAct) (run : AgentRun Leased) → told_in run (xs ++ ys) ≡ told_in run xs ++ told_in (life run xs) ys
told_append [] ys run = refl
told_append (x ∷ xs) ys run = ap (λ (l : List Told). told_at run x ++ l) (told_append xs ys (after_act run x)) ∙ sym (append_assoc (told_at run x) (told_in (after_act run x) xs) (told_in (life (after_act run x) xs) ys))

pub goes_nothing : (run : AgentRun Leased) (old new : PlainIntake) → Stands run new → new.mail ≡ old.mail → new.unsaid ≡ old.unsaid → new.claims ≡ old.claims → Goes run [] old new
goes_nothing run old new stands mail unsaid claims = record { stands = stands; tells = tells_nothing old new mail unsaid claims }

pub goes_more : (run : AgentRun Leased) (xs ys : List IntakeAct) (a b c : PlainIntake) → Goes run xs a b → Goes (life run xs) ys b c → Goes run (xs ++ ys) a c
goes_more run xs ys a b c first second =
    record {
      stands = subst (λ (r : AgentRun Leased). Stands r c) (sym (life_append xs ys run)) second.stands;
      tells = subst (λ (l : List Told). Tells a l c) (sym (told_append xs ys run)) (tells_more a b c (told_in run xs) (told_in (life run xs) ys) first.tells second.tells);
    }

-- ---- an end received

pub chunks_moved : (run : AgentRun Leased) (d : PlainIntake) (client : ℕ) (items : List (Buffer Leased)) (ends : List (Incoming (Buffer Leased) Key))
    → Stands run d → Receives client items d.port.chunks ends → Stands run (record d { port = record d.port { chunks = ends } })
chunks_moved run d client items ends stands receives =
    record {
      follows = stands.follows;
      offered = stands.offered;
      size = stands.size;
      chunks = keys_after run.settings run.node d.port.giver d.clients client d.port.chunks ends items stands.chunks receives;
      crumbs = stands.crumbs;
      triggers = stands.triggers;
      late = stands.late;
      pooled = stands.pooled;
      waits = stands.waits;
      inbox = stands.inbox;
    }

pub crumbs_moved : (run : AgentRun Leased) (d : PlainIntake) (client : ℕ) (items : List Crumb) (ends : List (Incoming Crumb Key))
    → Stands run d → Receives client items d.port.crumbs ends → Stands run (record d { port = record d.port { crumbs = ends } })
crumbs_moved run d client items ends stands receives =
    record {
      follows = stands.follows;
      offered = stands.offered;
      size = stands.size;
      chunks = stands.chunks;
      crumbs = keys_after run.settings run.node d.port.giver d.clients client d.port.crumbs ends items stands.crumbs receives;
      triggers = stands.triggers;
      late = stands.late;
      pooled = stands.pooled;
      waits = stands.waits;
      inbox = stands.inbox;
    }

-- ---- the agent took

pub chunk_taken : (run : AgentRun Leased) (d : PlainIntake) (client : ℕ) (buffer : Buffer Leased) (agent : PlainAgent Leased)
    → Stands run d → IsPooled d.port.giver buffer → Follows agent (after_chunk run client buffer) → Stands (after_chunk run client buffer) (record d { agent = agent })
chunk_taken run d client buffer agent stands pooled follows =
    record {
      follows = follows;
      offered = stands.offered;
      size = stands.size;
      chunks = stands.chunks;
      crumbs = stands.crumbs;
      triggers = stands.triggers;
      late = stands.late;
      pooled = all_push (IsPooled d.port.giver) run.buffers buffer stands.pooled pooled;
      waits = stands.waits;
      inbox = stands.inbox;
    }

pub crumb_taken : (run : AgentRun Leased) (d : PlainIntake) (client : ℕ) (crumb : Crumb) (agent : PlainAgent Leased)
    → Stands run d → Follows agent (after_crumb run client crumb) → Stands (after_crumb run client crumb) (record d { agent = agent })
crumb_taken run d client crumb agent stands follows =
    record {
      follows = follows;
      offered = stands.offered;
      size = stands.size;
      chunks = stands.chunks;
      crumbs = stands.crumbs;
      triggers = stands.triggers;
      late = stands.late;
      pooled = stands.pooled;
      waits = stands.waits;
      inbox = stands.inbox;
    }

pub said_since : (run : AgentRun Leased) (d : PlainIntake) (m : Letters) (claims : PlainClaims) (unsaid : Option Told) → Stands run d → Stands run (record d { mail = m; claims = claims; unsaid = unsaid })
said_since run d m claims unsaid stands =
    record {
      follows = stands.follows;
      offered = stands.offered;
      size = stands.size;
      chunks = stands.chunks;
      crumbs = stands.crumbs;
      triggers = stands.triggers;
      late = stands.late;
      pooled = stands.pooled;
      waits = stands.waits;
      inbox = stands.inbox;
    }

-- ---- what comes waits at the front

pub waits_now : (run : AgentRun Leased) (d : PlainIntake) (waiting : Waiting) → Stands run d → MayWait run.settings run.node d.port.giver waiting → Stands run (record d { back = Some waiting })
waits_now run d waiting stands may =
    record {
      follows = stands.follows;
      offered = stands.offered;
      size = stands.size;
      chunks = stands.chunks;
      crumbs = stands.crumbs;
      triggers = stands.triggers;
      late = stands.late;
      pooled = stands.pooled;
      waits = may;
      inbox = stands.inbox;
    }

-- ---- one chunk

chunk_stands : (run : AgentRun Leased) (d : PlainIntake) (client : ℕ) (buffer : Buffer Leased) (port : Port) (agent : PlainAgent Leased)
    → Stands run d → (r : Incoming (Buffer Leased) Key) × IsEnd client d.port.chunks r × IsChunkOf r.key buffer → ReceivesAt client d.port.chunks (Some buffer) port.chunks
    → port ≡ record d.port { chunks = port.chunks } → Follows agent (after_chunk run client buffer) → Stands (after_chunk run client buffer) (record d { agent = agent; port = port })
chunk_stands run d client buffer port agent stands fact receives only follows =
    let one = receives_one client buffer d.port.chunks port.chunks receives in
    let moved = chunks_moved run d client (buffer ∷ []) port.chunks stands one in
    let came = chunk_came run.settings run.node d.port.giver d.clients client d.port.chunks buffer stands.chunks stands.size fact in
    let taken = chunk_taken run (record d { port = record d.port { chunks = port.chunks } }) client buffer agent moved came.1 follows in
    subst (λ (p : Port). Stands (after_chunk run client buffer) (record d { agent = agent; port = p })) (sym only) taken

pub took_chunk : (run : AgentRun Leased) (d : PlainIntake) (client : ℕ) (buffer : Buffer Leased) (port : Port) (agent : PlainAgent Leased)
    → Stands run d → (r : Incoming (Buffer Leased) Key) × IsEnd client d.port.chunks r × IsChunkOf r.key buffer → ReceivesAt client d.port.chunks (Some buffer) port.chunks
    → port ≡ record d.port { chunks = port.chunks } → Follows agent (after_chunk run client buffer) → TakesOne run chunk_line client d (record d { agent = agent; port = port })
took_chunk run d client buffer port agent stands fact receives only follows =
    record {
      item = buffer;
      moves = record { receives = receives_one client buffer d.port.chunks port.chunks receives; others = ap (λ (p : Port). record { port = p; late = d.late }) only; clients = refl };
      back = refl;
      goes =
          record {
            stands = chunk_stands run d client buffer port agent stands fact receives only follows;
            tells = tells_nothing d (record d { agent = agent; port = port }) refl refl refl;
          };
    }

pub held_chunk : (run : AgentRun Leased) (d : PlainIntake) (client : ℕ) (buffer : Buffer Leased) (port : Port)
    → Stands run d → (r : Incoming (Buffer Leased) Key) × IsEnd client d.port.chunks r × IsChunkOf r.key buffer → ReceivesAt client d.port.chunks (Some buffer) port.chunks
    → port ≡ record d.port { chunks = port.chunks } → HoldsOne run chunk_line client d (record d { port = port; back = Some (Chunk client buffer) })
held_chunk run d client buffer port stands fact receives only =
    let one = receives_one client buffer d.port.chunks port.chunks receives in
    let moved = chunks_moved run d client (buffer ∷ []) port.chunks stands one in
    let came = chunk_came run.settings run.node d.port.giver d.clients client d.port.chunks buffer stands.chunks stands.size fact in
    let held = waits_now run (record d { port = record d.port { chunks = port.chunks } }) (Chunk client buffer) moved came in
    record {
      item = buffer;
      moves = record { receives = one; others = ap (λ (p : Port). record { port = p; late = d.late }) only; clients = refl };
      only = refl;
      stands = subst (λ (p : Port). Stands run (record d { port = p; back = Some (Chunk client buffer) })) (sym only) held;
    }

pub chunks_counted : (client count : ℕ) (items : List (Buffer Leased)) (old new : List (Incoming (Buffer Leased) Key)) → Receives client items old new → length old ≡ count → length new ≡ count
chunks_counted client count items old new receives counted = ap (λ (es : List (Incoming (Buffer Leased) Key)). length es) receives.new_is ∙ length_set old client receives.later ∙ counted

pub took_alive : (d : PlainIntake) (client : ℕ) (buffer : Buffer Leased) (port : Port) (agent : PlainAgent Leased) → (run : AgentRun Leased) × Stands run d
    → (r : Incoming (Buffer Leased) Key) × IsEnd client d.port.chunks r × IsChunkOf r.key buffer → ReceivesAt client d.port.chunks (Some buffer) port.chunks
    → port ≡ record d.port { chunks = port.chunks } → ((run : AgentRun Leased) → Follows d.agent run → Follows agent (after_chunk run client buffer))
    → (run : AgentRun Leased) × Stands run (record d { agent = agent; port = port })
took_alive d client buffer port agent known fact receives only after =
    (after_chunk known.0 client buffer, chunk_stands known.0 d client buffer port agent known.1 fact receives only (after known.0 known.1.follows))

pub held_alive : (d : PlainIntake) (client : ℕ) (buffer : Buffer Leased) (port : Port) → (run : AgentRun Leased) × Stands run d
    → (r : Incoming (Buffer Leased) Key) × IsEnd client d.port.chunks r × IsChunkOf r.key buffer → ReceivesAt client d.port.chunks (Some buffer) port.chunks
    → port ≡ record d.port { chunks = port.chunks } → (run : AgentRun Leased) × Stands run (record d { port = port; back = Some (Chunk client buffer) })
held_alive d client buffer port known fact receives only = (known.0, (held_chunk known.0 d client buffer port known.1 fact receives only).stands)

-- ---- one crumb

crumb_stands : (run : AgentRun Leased) (d : PlainIntake) (client : ℕ) (crumb : Crumb) (port : Port) (agent : PlainAgent Leased) (m : Letters) (claims : PlainClaims) (unsaid : Option Told)
    → Stands run d → ReceivesAt client d.port.crumbs (Some crumb) port.crumbs → port ≡ record d.port { crumbs = port.crumbs } → Follows agent (after_crumb run client crumb)
    → Stands (after_crumb run client crumb) (record d { agent = agent; port = port; mail = m; claims = claims; unsaid = unsaid })
crumb_stands run d client crumb port agent m claims unsaid stands receives only follows =
    let one = receives_one client crumb d.port.crumbs port.crumbs receives in
    let moved = crumbs_moved run d client (crumb ∷ []) port.crumbs stands one in
    let taken = crumb_taken run (record d { port = record d.port { crumbs = port.crumbs } }) client crumb agent moved follows in
    subst (λ (p : Port). Stands (after_crumb run client crumb) (record d { agent = agent; port = p; mail = m; claims = claims; unsaid = unsaid })) (sym only) (said_since (after_crumb run client crumb) (record d { agent = agent; port = record d.port { crumbs = port.crumbs } }) m claims unsaid taken)

pub took_crumb : (run : AgentRun Leased) (d : PlainIntake) (client : ℕ) (crumb : Crumb) (port : Port) (agent : PlainAgent Leased) (told : Option Told) (m : Letters) (claims : PlainClaims) (unsaid : Option Told)
    → Stands run d → ReceivesAt client d.port.crumbs (Some crumb) port.crumbs → port ≡ record d.port { crumbs = port.crumbs } → Follows agent (after_crumb run client crumb)
    → d.unsaid ≡ None → told ≡ told_by run.settings run.node (state_of run) (Crumbed client crumb) → SaysIt d.mail d.claims told m claims unsaid
    → TakesOne run crumb_line client d (record d { agent = agent; port = port; mail = m; claims = claims; unsaid = unsaid })
took_crumb run d client crumb port agent told m claims unsaid stands receives only follows none is says_it =
    record {
      item = crumb;
      moves = record { receives = receives_one client crumb d.port.crumbs port.crumbs receives; others = ap (λ (p : Port). record { port = p; late = d.late }) only; clients = refl };
      back = refl;
      goes =
          record {
            stands = crumb_stands run d client crumb port agent m claims unsaid stands receives only follows;
            tells =
                tells_listed d (record d { agent = agent; port = port; mail = m; claims = claims; unsaid = unsaid }) told (told_by run.settings run.node (state_of run) (Crumbed client crumb)) is
                (tells_said d (record d { agent = agent; port = port; mail = m; claims = claims; unsaid = unsaid }) told none
                (ap (λ (o : Option Told). filter_map claim_by (option_to_list o)) is ∙ crumb_claims run.settings run.node (state_of run) client crumb) says_it);
          };
    }

pub held_crumb : (run : AgentRun Leased) (d : PlainIntake) (client : ℕ) (crumb : Crumb) (port : Port)
    → Stands run d → (r : Incoming Crumb Key) × IsEnd client d.port.crumbs r × IsCrumbOf r.key crumb → ReceivesAt client d.port.crumbs (Some crumb) port.crumbs
    → port ≡ record d.port { crumbs = port.crumbs } → HoldsOne run crumb_line client d (record d { port = port; back = Some (Crumbs client crumb) })
held_crumb run d client crumb port stands fact receives only =
    let one = receives_one client crumb d.port.crumbs port.crumbs receives in
    let moved = crumbs_moved run d client (crumb ∷ []) port.crumbs stands one in
    let came = crumb_came run.settings run.node d.port.giver d.clients client d.port.crumbs crumb stands.crumbs fact in
    let held = waits_now run (record d { port = record d.port { crumbs = port.crumbs } }) (Crumbs client crumb) moved came in
    record {
      item = crumb;
      moves = record { receives = one; others = ap (λ (p : Port). record { port = p; late = d.late }) only; clients = refl };
      only = refl;
      stands = subst (λ (p : Port). Stands run (record d { port = p; back = Some (Crumbs client crumb) })) (sym only) held;
    }

pub crumb_alive : (d : PlainIntake) (client : ℕ) (crumb : Crumb) (port : Port) (agent : PlainAgent Leased) (m : Letters) (claims : PlainClaims) (unsaid : Option Told) → (run : AgentRun Leased) × Stands run d
    → ReceivesAt client d.port.crumbs (Some crumb) port.crumbs → port ≡ record d.port { crumbs = port.crumbs }
    → ((run : AgentRun Leased) → Follows d.agent run → Follows agent (after_crumb run client crumb)) → (run : AgentRun Leased) × Stands run (record d { agent = agent; port = port; mail = m; claims = claims; unsaid = unsaid })
crumb_alive d client crumb port agent m claims unsaid known receives only after =
    (after_crumb known.0 client crumb, crumb_stands known.0 d client crumb port agent m claims unsaid known.1 receives only (after known.0 known.1.follows))

pub held_crumb_alive : (d : PlainIntake) (client : ℕ) (crumb : Crumb) (port : Port) → (run : AgentRun Leased) × Stands run d
    → (r : Incoming Crumb Key) × IsEnd client d.port.crumbs r × IsCrumbOf r.key crumb → ReceivesAt client d.port.crumbs (Some crumb) port.crumbs
    → port ≡ record d.port { crumbs = port.crumbs } → (run : AgentRun Leased) × Stands run (record d { port = port; back = Some (Crumbs client crumb) })
held_crumb_alive d client crumb port known fact receives only = (known.0, (held_crumb known.0 d client crumb port known.1 fact receives only).stands)

pub crumbs_counted : (client count : ℕ) (items : List Crumb) (old new : List (Incoming Crumb Key)) → Receives client items old new → length old ≡ count → length new ≡ count
crumbs_counted client count items old new receives counted = ap (λ (es : List (Incoming Crumb Key)). length es) receives.new_is ∙ length_set old client receives.later ∙ counted

-- ---- what waited at the front

pub front_chunk_alive : (d : PlainIntake) (client : ℕ) (buffer : Buffer Leased) (agent : PlainAgent Leased) (back : Option Waiting) → back ≡ None → d.back ≡ Some (Chunk client buffer)
    → (run : AgentRun Leased) × Stands run d → ((run : AgentRun Leased) → Follows d.agent run → Follows agent (after_chunk run client buffer))
    → (run : AgentRun Leased) × Stands run (record d { agent = agent; back = back })
front_chunk_alive d client buffer agent back none there known after =
    let run = known.0 in
    let stands = known.1 in
    let may : MayWaitIf run.settings run.node d.port.giver (Some (Chunk client buffer)) = subst (λ (o : Option Waiting). MayWaitIf run.settings run.node d.port.giver o) there stands.waits in (
      after_chunk run client buffer,
      subst (λ (o : Option Waiting). Stands (after_chunk run client buffer) (record d { agent = agent; back = o })) (sym none)
          (record {
            follows = after run stands.follows;
            offered = stands.offered;
            size = stands.size;
            chunks = stands.chunks;
            crumbs = stands.crumbs;
            triggers = stands.triggers;
            late = stands.late;
            pooled = all_push (IsPooled d.port.giver) run.buffers buffer stands.pooled may.1;
            waits = tt;
            inbox = stands.inbox;
          }),
    )

pub front_crumb_alive : (d : PlainIntake) (client : ℕ) (crumb : Crumb) (agent : PlainAgent Leased) (back : Option Waiting) (m : Letters) (claims : PlainClaims) (unsaid : Option Told) → back ≡ None
    → (run : AgentRun Leased) × Stands run d → ((run : AgentRun Leased) → Follows d.agent run → Follows agent (after_crumb run client crumb))
    → (run : AgentRun Leased) × Stands run (record d { agent = agent; back = back; mail = m; claims = claims; unsaid = unsaid })
front_crumb_alive d client crumb agent back m claims unsaid none known after =
    let run = known.0 in
    let stands = known.1 in (
      after_crumb run client crumb,
      subst (λ (o : Option Waiting). Stands (after_crumb run client crumb) (record d { agent = agent; back = o; mail = m; claims = claims; unsaid = unsaid })) (sym none)
          (record {
            follows = after run stands.follows;
            offered = stands.offered;
            size = stands.size;
            chunks = stands.chunks;
            crumbs = stands.crumbs;
            triggers = stands.triggers;
            late = stands.late;
            pooled = stands.pooled;
            waits = tt;
            inbox = stands.inbox;
          }),
    )

-- ---- a turn

pub turn_stands : (run : AgentRun Leased) (d : PlainIntake) (agent : PlainAgent Leased) → Stands run d → Follows agent (after_turn run) → Stands (after_turn run) (record d { agent = agent })
turn_stands run d agent stands follows =
    record {
      follows = follows;
      offered = stands.offered;
      size = stands.size;
      chunks = stands.chunks;
      crumbs = stands.crumbs;
      triggers = stands.triggers;
      late = stands.late;
      pooled = stands.pooled;
      waits = stands.waits;
      inbox = stands.inbox;
    }

-- an agent that was spent stays so, and one that memory failed is spent now
pub turn_alive : {A E : Type 0} (d : PlainIntake) (agent : PlainAgent Leased) (answer : Result A E) → ((run : AgentRun Leased) → Follows d.agent run → OnOk answer (Follows agent (after_turn run)))
    → OnErr answer (IsSpent agent) → (IsSpent d.agent → IsErr answer) → (d.agent.spent ≡ false → (run : AgentRun Leased) × Stands run d) → agent.spent ≡ false
    → (run : AgentRun Leased) × Stands run (record d { agent = agent })
turn_alive d agent (Ok x) after spent stays stands alive =
    let known = stands (false_from_ne_true d.agent.spent (λ was. let none : false ≡ true = stays was in absurd cc)) in
    (after_turn known.0, turn_stands known.0 d agent known.1 (after known.0 known.1.follows))
turn_alive d agent (Err x) after spent stays stands alive = let both : false ≡ true = sym alive ∙ spent in absurd cc

-- ---- forgetting

pub forgot_stands : (run : AgentRun Leased) (d : PlainIntake) (group : Group) (agent : PlainAgent Leased) → Stands run d → Follows agent (forgetting group run) → Stands (forgetting group run) (record d { agent = agent })
forgot_stands run d group agent stands follows =
    record {
      follows = follows;
      offered = stands.offered;
      size = stands.size;
      chunks = stands.chunks;
      crumbs = stands.crumbs;
      triggers = stands.triggers;
      late = stands.late;
      pooled = stands.pooled;
      waits = stands.waits;
      inbox = stands.inbox;
    }

pub forgot_alive : (d : PlainIntake) (group : Group) (agent : PlainAgent Leased) (did : Bool) → (run : AgentRun Leased) × Stands run d
    → ((run : AgentRun Leased) → Follows d.agent run → did ≡ true → Follows agent (forgetting group run)) → (did ≡ false → agent ≡ d.agent) → (run : AgentRun Leased) × Stands run (record d { agent = agent })
forgot_alive d group agent true known after same = (forgetting group known.0, forgot_stands known.0 d group agent known.1 (after known.0 known.1.follows refl))
forgot_alive d group agent false known after same = (known.0, subst (λ (a : PlainAgent Leased). Stands known.0 (record d { agent = a })) (sym (same refl)) known.1)
