-- How a node goes on by each part of a pass.
use Rattle.std.proofs.Common.{◌≡◌, ℕ, Bool, true, false, if◌then◌else◌, inl, inr, List, [], ◌∷◌, ◌++◌, map, Option, Some, None, refl, sym, ap, subst, ◌∙◌, append-nil}
use Rattle.std.specs.Prelude.{Result, Ok, Err, OnOk, OnErr, filter_map, fold, option_map, nat_le}
use Rattle.std.specs.Option.{option_to_list, option_map_or}
use Rattle.hs_words.specs.Buffers.{Buffer}
use Rattle.hs_base.specs.declared.told.Told.{Told}
use Rattle.hs_ring.specs.Parts.{Leased}
use Rattle.hs_agent.specs.Runs.{AgentRun}
use Rattle.hs_claimed.specs.Claims.{PlainClaims, advanced, after_said}
use Rattle.hs_link.specs.Contents.{Incoming}
use Rattle.hs_live.specs.Live.{ReceivesAt}
use Rattle.hs_law_agent.specs.Standings.{Taken}
use Rattle.hs_mail.specs.Letters.{Letters, Says}
use Rattle.hs_mail.specs.Letters as letters
use Rattle.hs_mail.specs.Lives as mail
use Rattle.hs_mail.specs.declared.mail.Unposted.{Unposted}
use Rattle.hs_wire.specs.Messages.{Said, PlainReported, SaysTold, SaysReported, SaysStanding}
use Rattle.hs_wire.specs.declared.message.Standing.{Standing}
use Rattle.hs_node_client.specs.declared.segment.SegmentNote.{SegmentNote}
use Rattle.hs_node_client.specs.declared.segment.SegmentKey.{SegmentKey}
use Rattle.hs_node_client.specs.declared.segment.SegmentState.{SegmentState}
use Rattle.hs_node_client.specs.declared.segment.SegmentState.TheVariants.{Opened, Closed, Refused, Led}
use Rattle.hs_node_client.specs.declared.segment.SegmentCounts.{SegmentCounts}
use Rattle.hs_base.specs.declared.node_set.NodeSet.{NodeSet}
use Rattle.hs_whole.specs.Notes.{PlainNotes, missed, searched, finds_place, after_opened, after_closed, after_refused, after_led}
use Rattle.hs_whole.specs.History.{NoteDeed, Misses, Drops, after}
use Rattle.hs_intake.specs.declared.took.Took.{Took}
use Rattle.hs_intake.specs.declared.took.TookTriggers.{TookTriggers}
use Rattle.hs_intake.specs.declared.took.Turned.{Turned}
use Rattle.hs_intake.specs.declared.took.Turned.TheVariants as turned
use Rattle.hs_intake.specs.declared.took.Handed.TheVariants as handed
use Rattle.hs_intake.specs.declared.took.PartedChunk.{PartedChunk}
use Rattle.hs_intake.specs.declared.took.Stated.{Stated}
use Rattle.hs_intake.specs.declared.took.Stated.TheVariants as stated
use Rattle.hs_intake.specs.Intakes.{PlainIntake, Waiting, Chunk, Crumbs, Triggers, IntakeAct, TakesTrigger, TakesAsk, LetsGo, Forgets, Turns, after_act, Line, chunk_line, crumb_line, late_line, acts_in, SaysIt, Stands}
use Rattle.hs_intake.specs.Taking.{TakesLine, TakesTriggers, TakesAsks, TakesBack, MakesTurn, ForgetsOldest, StatesIt}
use Rattle.hs_intake.specs.Handing.{first_taken, first_page, was_offered, word_of, PostsPage, HandsOut}
use Rattle.hs_intake.proofs.Acts.{said_since}
use Rattle.hs_node.specs.Nodes.{PlainNode, told_of, page_of, Part, part_of, part_at, parts_in, IsPart, AreParted, posted_of, report_of, place_of, note_if, note_of, HearsIf, NotesIt, Receives, Note, Gone, deed_for, GoesOn, GoesOnIf, is_unspent}
use Rattle.hs_node.proofs.Joining.{on_same, on_nothing, on_tells, tolds, no_pages, all_say}

-- ---- what the agent takes

-- acts at which nothing leaves
no_parts : {T : Type 0} (f : T → IntakeAct) → ((run : AgentRun Leased) (x : T) → part_at run (f x) ≡ None) → (xs : List T) (run : AgentRun Leased) → parts_in run (map f xs) ≡ []
no_parts f none [] run = refl
no_parts f none (x ∷ xs) run = ap (λ (o : Option Part). option_to_list o ++ parts_in (after_act run (f x)) (map f xs)) (none run x) ∙ no_parts f none xs (after_act run (f x))

line_on : {T : Type 0} (run : AgentRun Leased) (line : Line T) (client : ℕ) (old : PlainNode) (took : Took) (intake : PlainIntake) → Stands run old.intake
    → ((later : AgentRun Leased) (x : T) → part_at later (line.takes client x) ≡ None) → TakesLine run line client old.intake took intake → GoesOn run old (record old { intake = intake })
line_on run line client old took intake stands none (inl (high, (is, same))) =
    subst (λ (d : PlainIntake). GoesOn run old (record old { intake = d })) (sym same) (on_nothing run old stands)
line_on run line client old took intake stands none (inr (inl (low, (front, (is, same))))) =
    subst (λ (d : PlainIntake). GoesOn run old (record old { intake = d })) (sym same) (on_nothing run old stands)
line_on run line client old took intake stands none (inr (inr (low, (front, many)))) =
    on_tells run (map (line.takes client) many.items) old intake many.goes.stands many.goes.tells (no_parts (line.takes client) none many.items run)

pub chunks_on : (run : AgentRun Leased) (client : ℕ) (old : PlainNode) (took : Took) (intake : PlainIntake) → Stands run old.intake → TakesLine run chunk_line client old.intake took intake
    → GoesOn run old (record old { intake = intake })
chunks_on run client old took intake stands takes = line_on run chunk_line client old took intake stands (λ later x. refl) takes

pub crumbs_on : (run : AgentRun Leased) (client : ℕ) (old : PlainNode) (took : Took) (intake : PlainIntake) → Stands run old.intake → TakesLine run crumb_line client old.intake took intake
    → GoesOn run old (record old { intake = intake })
crumbs_on run client old took intake stands takes = line_on run crumb_line client old took intake stands (λ later x. refl) takes

pub lates_on : (run : AgentRun Leased) (client : ℕ) (old : PlainNode) (took : Took) (intake : PlainIntake) → Stands run old.intake → TakesLine run late_line client old.intake took intake
    → GoesOn run old (record old { intake = intake })
lates_on run client old took intake stands takes = line_on run late_line client old took intake stands (λ later x. refl) takes

-- the count of limited triggers is none of what a run knows
counted : (run : AgentRun Leased) (old : PlainNode) (intake : PlainIntake) (limited : ℕ) → GoesOn run old (record old { intake = intake }) → GoesOn run old (record old { intake = intake; limited = limited })
counted run old intake limited on =
    record {
      acts = on.acts;
      stands = on.stands;
      said = on.said;
      mail = on.mail;
      told = on.told;
      heard = on.heard;
      notes = on.notes;
      ends = on.ends;
      noted = on.noted;
      parts = on.parts;
    }

pub triggers_on : (run : AgentRun Leased) (client : ℕ) (old : PlainNode) (took : TookTriggers) (intake : PlainIntake) (limited : ℕ) → Stands run old.intake → TakesTriggers run client old.intake took intake
    → GoesOn run old (record old { intake = intake; limited = limited })
triggers_on run client old took intake limited stands (inl (high, (is, same))) =
    subst (λ (d : PlainIntake). GoesOn run old (record old { intake = d; limited = limited })) (sym same) (counted run old old.intake limited (on_nothing run old stands))
triggers_on run client old took intake limited stands (inr (inl (low, (front, (is, same))))) =
    subst (λ (d : PlainIntake). GoesOn run old (record old { intake = d; limited = limited })) (sym same) (counted run old old.intake limited (on_nothing run old stands))
triggers_on run client old took intake limited stands (inr (inr (low, (front, inl (room, (many, count)))))) =
    counted run old intake limited (on_tells run (map (TakesTrigger client) many.items) old intake many.goes.stands many.goes.tells (no_parts (TakesTrigger client) (λ later x. refl) many.items run))
triggers_on run client old took intake limited stands (inr (inr (low, (front, inr (short, drops))))) =
    counted run old intake limited (on_same run old intake drops.stands (ap (λ (d : PlainIntake). d.mail) drops.only) (ap (λ (d : PlainIntake). d.unsaid) drops.only))

pub asks_on : (run : AgentRun Leased) (old : PlainNode) (took : Took) (intake : PlainIntake) → TakesAsks run old.intake took intake → GoesOn run old (record old { intake = intake })
asks_on run old took intake takes =
    on_tells run (map TakesAsk takes.asks) old intake takes.goes.stands takes.goes.tells (no_parts TakesAsk (λ later x. refl) takes.asks run)

none_at_front : (run : AgentRun Leased) (back : Option Waiting) → parts_in run (acts_in back) ≡ []
none_at_front run None = refl
none_at_front run (Some (Chunk client buffer)) = refl
none_at_front run (Some (Crumbs client crumb)) = refl
none_at_front run (Some (Triggers client trigger)) = refl

pub back_on : (run : AgentRun Leased) (old : PlainNode) (did : Bool) (intake : PlainIntake) → Stands run old.intake → TakesBack run old.intake did intake → GoesOn run old (record old { intake = intake })
back_on run old true intake stands (free, (lines, (clients, goes))) = on_tells run (acts_in old.intake.back) old intake goes.stands goes.tells (none_at_front run old.intake.back)
back_on run old false intake stands (there, same) = subst (λ (d : PlainIntake). GoesOn run old (record old { intake = d })) (sym same) (on_nothing run old stands)

pub turn_on : (run : AgentRun Leased) (old : PlainNode) (did : Turned) (intake : PlainIntake) → Stands run old.intake → MakesTurn run old.intake did intake
    → GoesOnIf run (is_unspent did) old (record old { intake = intake })
turn_on run old turned.Done intake stands (places, (only, goes)) = on_tells run (Turns ∷ []) old intake goes.stands goes.tells refl
turn_on run old turned.Full intake stands (none, same) = subst (λ (d : PlainIntake). GoesOn run old (record old { intake = d })) (sym same) (on_nothing run old stands)
turn_on run old turned.Spent intake stands (places, (only, spent)) = spent

-- ---- what is said

pub say_on : (run : AgentRun Leased) (old : PlainNode) (m : Letters) (claims : PlainClaims) (unsaid : Option Told) → Stands run old.intake
    → SaysIt old.intake.mail old.intake.claims old.intake.unsaid m claims unsaid → GoesOn run old (record old { intake = record old.intake { mail = m; claims = claims; unsaid = unsaid } })
say_on run old m claims unsaid stands says_it =
    record {
      acts = [];
      stands = said_since run old.intake m claims unsaid stands;
      said = map SaysTold says_it.said;
      mail = says_it.mail ∙ ap (λ (ds : List letters.MailDeed). mail.life old.intake.mail ds) (sym (all_say says_it.said));
      told = append-nil (option_to_list old.intake.unsaid) ∙ says_it.all ∙ ap (λ (l : List Told). l ++ option_to_list unsaid) (sym (tolds says_it.said));
      heard = [];
      notes = refl;
      ends = refl;
      noted = tt;
      parts = no_pages says_it.said;
    }

pub state_on : (run : AgentRun Leased) (old : PlainNode) (standing : Standing) (did : Stated) (intake : PlainIntake) → Stands run old.intake → StatesIt old.intake standing did intake
    → GoesOn run old (record old { intake = intake })
state_on run old standing stated.Said intake stands (news, (number, posts, only)) =
    let m = intake.mail in
    record {
      acts = [];
      stands = subst (λ (d : PlainIntake). Stands run d) (sym only) (said_since run old.intake m (after_said old.intake.claims standing number) old.intake.unsaid stands);
      said = SaysStanding standing ∷ [];
      mail = posts.done;
      told = append-nil (option_to_list old.intake.unsaid) ∙ ap (λ (d : PlainIntake). option_to_list d.unsaid) (sym only);
      heard = [];
      notes = refl;
      ends = refl;
      noted = tt;
      parts = refl;
    }
state_on run old standing stated.Known intake stands (news, same) = subst (λ (d : PlainIntake). GoesOn run old (record old { intake = d })) (sym same) (on_nothing run old stands)
state_on run old standing (stated.Waits fault) intake stands (news, (same, posts)) = subst (λ (d : PlainIntake). GoesOn run old (record old { intake = d })) (sym same) (on_nothing run old stands)

pub look_on : (run : AgentRun Leased) (old : PlainNode) (intake : PlainIntake) → Stands run old.intake → intake ≡ record old.intake { claims = advanced old.intake.claims } → GoesOn run old (record old { intake = intake })
look_on run old intake stands only =
    subst (λ (d : PlainIntake). GoesOn run old (record old { intake = d })) (sym only)
    (on_same run old (record old.intake { claims = advanced old.intake.claims }) (said_since run old.intake old.intake.mail (advanced old.intake.claims) old.intake.unsaid stands) refl refl)

pub forget_on : (run : AgentRun Leased) (old : PlainNode) (did : Bool) (intake : PlainIntake) → Stands run old.intake → ForgetsOldest run old.intake did intake → GoesOn run old (record old { intake = intake })
forget_on run old true intake stands (one, oldest, due, only, later) =
    record {
      acts = Forgets one.group ∷ [];
      stands = later;
      said = [];
      mail = ap (λ (d : PlainIntake). d.mail) only;
      told = append-nil (option_to_list old.intake.unsaid) ∙ ap (λ (d : PlainIntake). option_to_list d.unsaid) (sym only);
      heard = [];
      notes = refl;
      ends = refl;
      noted = tt;
      parts = refl;
    }
forget_on run old false intake stands (same, not_due) = subst (λ (d : PlainIntake). GoesOn run old (record old { intake = d })) (sym same) (on_nothing run old stands)

-- ---- the hand

-- the messages by which the first of the hand is said, and its pages
record Spoken (old : Letters) (part : Part) (unposted : Option Unposted) (new : Letters) : Type 0 where
  pub said : List Said
  pub mail : new ≡ mail.life old (map Says said)
  pub told : filter_map told_of said ≡ []
  pub pages : filter_map page_of said ≡ posted_of part unposted

spoken : (run : AgentRun Leased) (old new : PlainIntake) (taken : Taken) (page : Option PlainReported) (unposted : Option Unposted) → first_page run ≡ page → PostsPage page (word_of old) unposted (word_of new)
    → Spoken old.mail (part_of run taken) unposted new.mail
spoken run old new taken None None is (none, same) =
    record { said = []; mail = ap (λ w. w.mail) same; told = refl; pages = ap (λ (o : Option PlainReported). option_to_list o) (sym is) }
spoken run old new taken None (Some fault) is (none, same) = let never : Some fault ≡ None = none in absurd cc
spoken run old new taken (Some page) None is (number, posts, noted) =
    record { said = SaysReported page ∷ []; mail = posts.done; told = refl; pages = ap (λ (o : Option PlainReported). option_to_list o) (sym is) }
spoken run old new taken (Some page) (Some fault) is (never, posts, noted) = record { said = []; mail = posts.same; told = refl; pages = refl }

-- the first of the hand leaves at its first offer, and never later
fresh_part : (run : AgentRun Leased) (taken : Taken) (offered : Bool) (first : Option Taken) → offered ≡ false → first ≡ Some taken → option_to_list (if offered then None else option_map (part_of run) first) ≡ part_of run taken ∷ []
fresh_part run taken true first not_yet is = let never : true ≡ false = not_yet in absurd cc
fresh_part run taken false first not_yet is = ap (λ (o : Option Taken). option_to_list (option_map (part_of run) o)) is

no_part : (run : AgentRun Leased) (offered : Bool) (first : Option Taken) → offered ≡ true → option_to_list (if offered then None else option_map (part_of run) first) ≡ []
no_part run true first was = refl
no_part run false first was = let never : false ≡ true = was in absurd cc

pub offered_on : (run : AgentRun Leased) (old : PlainNode) (parted : Option PartedChunk) (was_given : Bool) (intake : PlainIntake) (notes : PlainNotes) → HandsOut run old.intake (handed.Offered parted was_given) intake
    → notes ≡ fold after old.notes (map deed_for (option_to_list parted)) → GoesOn run old (record old { intake = intake; notes = notes })
offered_on run old None was_given intake notes (only, ((again, same), offers)) heard =
    record {
      acts = LetsGo offers.answer offers.back ∷ [];
      stands = offers.stands;
      said = [];
      mail = ap (λ w. w.mail) same;
      told = append-nil (option_to_list old.intake.unsaid) ∙ ap (λ (d : PlainIntake). option_to_list d.unsaid) (sym only);
      heard = [];
      notes = heard;
      ends = refl;
      noted = tt;
      parts = subst (λ (l : List Part). AreParted (l ++ []) [] []) (sym (no_part run (was_offered run) (first_taken run) again)) refl;
    }
offered_on run old (Some parted) was_given intake notes (only, ((fresh, (is_parted, posts)), offers)) heard =
    let taken = is_parted.taken in
    let word = spoken run old.intake intake taken (first_page run) parted.unposted refl posts in
    let core = is_parted.core ∙ sym (ap (λ (o : Option (Buffer Leased)). option_map_or (λ (buffer : Buffer Leased). buffer.lease.mark) o 0) is_parted.next) in
    let is_it : IsPart (part_of run taken) parted = (is_parted.trace, (is_parted.client, (core, (is_parted.page, is_parted.left)))) in
    record {
      acts = LetsGo offers.answer offers.back ∷ [];
      stands = offers.stands;
      said = word.said;
      mail = word.mail;
      told =
          append-nil (option_to_list old.intake.unsaid) ∙ ap (λ (d : PlainIntake). option_to_list d.unsaid) (sym only)
          ∙ ap (λ (l : List Told). l ++ option_to_list intake.unsaid) (sym word.told);
      heard = Gone parted ∷ [];
      notes = heard;
      ends = refl;
      noted = tt;
      parts =
          subst (λ (l : List Part). AreParted (l ++ []) (parted ∷ []) (filter_map page_of word.said)) (sym (fresh_part run taken (was_offered run) (first_taken run) fresh is_parted.first))
          (is_it, ([], word.pages ∙ sym (append-nil (posted_of (part_of run taken) parted.unposted)), refl));
    }

pub stopped_on : (run : AgentRun Leased) (old : PlainNode) (intake : PlainIntake) → Stands run old.intake → intake ≡ old.intake → GoesOn run old (record old { intake = intake })
stopped_on run old intake stands same = subst (λ (d : PlainIntake). GoesOn run old (record old { intake = d })) (sym same) (on_nothing run old stands)

-- ---- notes of segments

pub came_one : (client : ℕ) (segment : SegmentNote) (old new : List (Incoming SegmentNote SegmentKey)) → ReceivesAt client old (Some segment) new → Receives client segment old new
came_one client segment old new (r, s, at, is, same, received, begins) = record { before = r; later = s; at = at; new_is = is; same = same; received = received }

pub hear_on : (run : AgentRun Leased) (old : PlainNode) (client : ℕ) (segment : SegmentNote) (ends : List (Incoming SegmentNote SegmentKey)) (notes : PlainNotes) → Stands run old.intake
    → ReceivesAt client old.segments (Some segment) ends → NotesIt old.notes client segment notes → GoesOn run old (record old { segments = ends; notes = notes })
hear_on run old client segment ends notes stands receives (deed, is, heard) =
    record {
      acts = [];
      stands = stands;
      said = [];
      mail = refl;
      told = append-nil (option_to_list old.intake.unsaid);
      heard = Note client segment deed ∷ [];
      notes = heard;
      ends = (ends, came_one client segment old.segments ends receives, refl);
      noted = (is, tt);
      parts = refl;
    }

pub no_note_on : (run : AgentRun Leased) (old : PlainNode) (client : ℕ) (ends : List (Incoming SegmentNote SegmentKey)) → Stands run old.intake → ReceivesAt client old.segments None ends
    → GoesOn run old (record old { segments = ends })
no_note_on run old client ends stands (r, at, same, all) =
    subst (λ (es : List (Incoming SegmentNote SegmentKey)). GoesOn run old (record old { segments = es })) (sym same) (on_nothing run old stands)

-- a note that is heard, or for which memory is wanting
heard_if : (old new : PlainNotes) (client : ℕ) (segment : SegmentNote) (gone found : Bool)
    → new ≡ (if gone then missed old else if found then after old (note_of client segment) else missed (searched old segment.trace))
    → (deed : NoteDeed) × HearsIf gone found client segment deed × (new ≡ after old deed)
heard_if old new client segment true found heard = (Misses, inl refl, heard)
heard_if old new client segment false true heard = (note_of client segment, inl refl, heard)
heard_if old new client segment false false heard = (Drops segment.trace, refl, heard)

dropped_if : (old new : PlainNotes) (client : ℕ) (segment : SegmentNote) (gone found : Bool) → new ≡ missed (searched old segment.trace)
    → (deed : NoteDeed) × HearsIf gone found client segment deed × (new ≡ after old deed)
dropped_if old new client segment true found heard = (Drops segment.trace, inr refl, heard)
dropped_if old new client segment false true heard = (Drops segment.trace, inr refl, heard)
dropped_if old new client segment false false heard = (Drops segment.trace, refl, heard)

heard_so : {A E : Type 0} (old new : PlainNotes) (client : ℕ) (segment : SegmentNote) (result : Result A E)
    → OnOk result (new ≡ (if nat_le old.limits.clients client then missed old else if finds_place old segment.trace then after old (note_of client segment) else missed (searched old segment.trace)))
    → OnErr result (new ≡ missed (searched old segment.trace)) → NotesIt old client segment new
heard_so old new client segment (Ok x) done failed = heard_if old new client segment (nat_le old.limits.clients client) (finds_place old segment.trace) done
heard_so old new client segment (Err x) done failed = dropped_if old new client segment (nat_le old.limits.clients client) (finds_place old segment.trace) failed

-- what is heard in each state of the segment
abbrev Comes : {A E : Type 0} → Result A E → PlainNotes → ℕ → SegmentNote → SegmentState → PlainNotes → Type 0
Comes result old client segment state new =
    OnOk result (new ≡ (if nat_le old.limits.clients client then missed old else if finds_place old segment.trace then after old (note_if client segment state) else missed (searched old segment.trace)))

pub opened_so : {A E : Type 0} (old new : PlainNotes) (client : ℕ) (segment : SegmentNote) (result : Result A E) → segment.state ≡ Opened → OnOk result (new ≡ after_opened old client segment.number segment.trace (place_of segment))
    → OnErr result (new ≡ missed (searched old segment.trace)) → NotesIt old client segment new
opened_so old new client segment result is done failed = heard_so old new client segment result (subst (λ (s : SegmentState). Comes result old client segment s new) (sym is) done) failed

pub closed_so : {A E : Type 0} (old new : PlainNotes) (client : ℕ) (segment : SegmentNote) (counts : SegmentCounts) (result : Result A E) → segment.state ≡ Closed counts
    → OnOk result (new ≡ after_closed old client segment.number segment.trace (place_of segment) (report_of counts)) → OnErr result (new ≡ missed (searched old segment.trace)) → NotesIt old client segment new
closed_so old new client segment counts result is done failed = heard_so old new client segment result (subst (λ (s : SegmentState). Comes result old client segment s new) (sym is) done) failed

pub refused_so : {A E : Type 0} (old new : PlainNotes) (client : ℕ) (segment : SegmentNote) (result : Result A E) → segment.state ≡ Refused → OnOk result (new ≡ after_refused old client segment.number segment.trace)
    → OnErr result (new ≡ missed (searched old segment.trace)) → NotesIt old client segment new
refused_so old new client segment result is done failed = heard_so old new client segment result (subst (λ (s : SegmentState). Comes result old client segment s new) (sym is) done) failed

pub led_so : {A E : Type 0} (old new : PlainNotes) (client : ℕ) (segment : SegmentNote) (nodes : NodeSet) (result : Result A E) → segment.state ≡ Led nodes → OnOk result (new ≡ after_led old client segment.number segment.trace nodes)
    → OnErr result (new ≡ missed (searched old segment.trace)) → NotesIt old client segment new
led_so old new client segment nodes result is done failed = heard_so old new client segment result (subst (λ (s : SegmentState). Comes result old client segment s new) (sym is) done) failed
