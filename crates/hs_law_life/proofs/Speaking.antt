-- What is said where the agent does some acts: what these tell, and the pages of what leaves at them.
use Rattle.std.proofs.Common.{◌≡◌, ℕ, ◌+◌, Bool, true, false, cond, if◌then◌else◌, inl, inr, arith, List, [], ◌∷◌, ◌++◌, map, Option, Some, None, refl, sym, ap, subst, ◌∙◌, append_assoc, append-nil}
use Rattle.std.specs.Prelude.{Ok, Err, filter_map, option_map}
use Rattle.std.specs.Option.{option_to_list}
use Rattle.std.proofs.lemmas.List.Elements.{filter_map-append}
use Rattle.hs_base.specs.declared.told.Told.{Told}
use Rattle.hs_ring.specs.Parts.{Leased, Giving}
use Rattle.hs_agent.specs.Runs.{AgentRun}
use Rattle.hs_law_agent.specs.Standings.{Taken}
use Rattle.hs_law_agent.specs.Stepping.{Answered, Given, Missed, Unread}
use Rattle.hs_words.specs.Buffers.{Buffer}
use Rattle.hs_words.specs.Chunks.{with_page}
use Rattle.hs_mail.specs.Letters.{Letters, MailDeed, Says, HandsOut, Acknowledges, OffersAgain, Causes, Posts, after, both, first_offered, is_page, message_of}
use Rattle.hs_mail.specs.Lives as mail
use Rattle.hs_mail.specs.declared.mail.Unposted.{Unposted}
use Rattle.hs_mail.specs.declared.mail.Unposted.TheVariants.{Full, TooLong, NoSpelling, Ended}
use Rattle.hs_outbox.specs.Queue.{Pending, Queue, may_put, has_number, pending_of}
use Rattle.hs_outbox.specs.Queue as queue
use Rattle.hs_wire.specs.Messages.{Said, PlainReported, SaysTold, SaysReported, SaysStanding}
use Rattle.hs_wire.specs.declared.message.Standing.{Standing}
use Rattle.hs_intake.specs.declared.took.PartedChunk.{PartedChunk}
use Rattle.hs_intake.specs.Intakes.{PlainIntake, Waiting, Chunk, Crumbs, Triggers, IntakeAct, LetsGo, after_act, life, told_in, says, acts_in, ArePut, Tells, SaysIt}
use Rattle.hs_intake.specs.Handing.{first_taken, first_page, was_offered, may_wait, word_of, Word, PostsPage, Offers, Returns, SaysIf}
use Rattle.hs_intake.proofs.Claiming.{map_append, mail_append}
use Rattle.hs_intake.proofs.Acts.{told_append}
use Rattle.hs_node.specs.Nodes.{told_of, page_of, Part, part_of, part_at, parts_in}
use Rattle.hs_node.proofs.Joining.{tolds, no_pages, all_say}
use Rattle.hs_law_life.specs.Reports.{ComesBack, IsBackAt, AreBack}
use Rattle.hs_law_life.specs.Saying.{MailPlace, place_in, CannotBeSaid, IsReported, AreReported, ArePosted}

-- ---- lists

pub parts_append : (xs ys : List IntakeAct) (run : AgentRun Leased) → parts_in run (xs ++ ys) ≡ parts_in run xs ++ parts_in (life run xs) ys
parts_append [] ys run = refl
parts_append (x ∷ xs) ys run =
    ap (λ (l : List Part). option_to_list (part_at run x) ++ l) (parts_append xs ys (after_act run x))
    ∙ sym (append_assoc (option_to_list (part_at run x)) (parts_in (after_act run x) xs) (parts_in (life (after_act run x) xs) ys))

pub reported_append : (place : MailPlace) (xs ys : List Part) (pages more : List PlainReported) → AreReported place xs pages → AreReported place ys more → AreReported place (xs ++ ys) (pages ++ more)
reported_append place [] ys pages more none second = subst (λ (l : List PlainReported). AreReported place ys (l ++ more)) (sym none) second
reported_append place (x ∷ xs) ys pages more (own, rest, parts, is, others) second = (
  own,
  rest ++ more,
  ap (λ (l : List PlainReported). l ++ more) parts ∙ append_assoc own rest more,
  is,
  reported_append place xs ys rest more others second,
)

-- ---- places stay

put_room : (q : Queue) (p : Pending) (b : Bool) → (cond b (queue.with q p) q).room ≡ q.room
put_room q p true = refl
put_room q p false = refl

said_place : (m : Letters) (p : Pending) (b : Bool)
    → place_in (cond b (record m { fresh = m.fresh + 1; pages = queue.after m.pages (queue.Puts p) }) (record m { fresh = m.fresh + 1; words = queue.after m.words (queue.Puts p) })) ≡ place_in m
said_place m p true = ap (λ (room : ℕ). record { node = m.node; epoch = m.epoch; room = room }) (put_room m.pages p (may_put m.pages p))
said_place m p false = refl

handed_room : (q : Queue) (number : ℕ) (b : Bool) → (cond b (record q { handed = number + 1 }) q).room ≡ q.room
handed_room q number true = refl
handed_room q number false = refl

handed_place : (m : Letters) (number : ℕ) (b : Bool) → place_in (cond b (both m (queue.HandsOut number)) m) ≡ place_in m
handed_place m number true = ap (λ (room : ℕ). record { node = m.node; epoch = m.epoch; room = room }) (handed_room m.pages number (has_number (queue.first_offered m.pages) number))
handed_place m number false = refl

place_after : (m : Letters) (deed : MailDeed) → place_in (after m deed) ≡ place_in m
place_after m (Says said) = said_place m (pending_of (message_of m said)) (is_page said)
place_after m (HandsOut number) = handed_place m number (has_number (first_offered m) number)
place_after m (Acknowledges number) = refl
place_after m OffersAgain = refl

pub place_stays : (deeds : List MailDeed) (m : Letters) → place_in (mail.life m deeds) ≡ place_in m
place_stays [] m = refl
place_stays (deed ∷ deeds) m = place_stays deeds (after m deed) ∙ place_after m deed

-- ---- more of what is said

pub posted_append : (xs ys : List MailDeed) (m : Letters) → ArePosted m xs → ArePosted (mail.life m xs) ys → ArePosted m (xs ++ ys)
posted_append [] ys m first second = second
posted_append (x ∷ xs) ys m (is, others) second = (is, posted_append xs ys (after m x) others second)

-- acts at which nothing leaves
pub no_parts : {T : Type 0} (f : T → IntakeAct) → ((run : AgentRun Leased) (x : T) → part_at run (f x) ≡ None) → (xs : List T) (run : AgentRun Leased) → parts_in run (map f xs) ≡ []
no_parts f none [] run = refl
no_parts f none (x ∷ xs) run = ap (λ (o : Option Part). option_to_list o ++ parts_in (after_act run (f x)) (map f xs)) (none run x) ∙ no_parts f none xs (after_act run (f x))

pub none_at_front : (run : AgentRun Leased) (back : Option Waiting) → parts_in run (acts_in back) ≡ []
none_at_front run None = refl
none_at_front run (Some (Chunk client buffer)) = refl
none_at_front run (Some (Crumbs client crumb)) = refl
none_at_front run (Some (Triggers client trigger)) = refl

pub back_append : (xs ys : List IntakeAct) (run : AgentRun Leased) → AreBack run xs → AreBack (life run xs) ys → AreBack run (xs ++ ys)
back_append [] ys run first second = second
back_append (x ∷ xs) ys run (is, others) second = (is, back_append xs ys (after_act run x) others second)

-- acts that offer nothing
pub back_map : {T : Type 0} (f : T → IntakeAct) → ((run : AgentRun Leased) (x : T) → IsBackAt run (f x)) → (xs : List T) (run : AgentRun Leased) → AreBack run (map f xs)
back_map f each [] run = tt
back_map f each (x ∷ xs) run = (each run x, back_map f each xs (after_act run (f x)))

pub back_front : (run : AgentRun Leased) (back : Option Waiting) → AreBack run (acts_in back)
back_front run None = tt
back_front run (Some (Chunk client buffer)) = (tt, tt)
back_front run (Some (Crumbs client crumb)) = (tt, tt)
back_front run (Some (Triggers client trigger)) = (tt, tt)

tolds_posted : (said : List Told) (m : Letters) → ArePut m said → ArePosted m (map Says (map SaysTold said))
tolds_posted [] m put = tt
tolds_posted (told ∷ said) m (is, others) = (is, tolds_posted said (after m (says told)) others)

-- ---- what is said at some acts

pub record Speaks (run : AgentRun Leased) (acts : List IntakeAct) (old new : PlainIntake) : Type 0 where
  pub said : List Said
  pub mail : new.mail ≡ mail.life old.mail (map Says said)
  pub told : option_to_list old.unsaid ++ told_in run acts ≡ filter_map told_of said ++ option_to_list new.unsaid
  pub parts : AreReported (place_in old.mail) (parts_in run acts) (filter_map page_of said)
  pub posted : ArePosted old.mail (map Says said)
  pub backs : AreBack run acts

pub speaks_more : (run : AgentRun Leased) (xs ys : List IntakeAct) (a b c : PlainIntake) → Speaks run xs a b → Speaks (life run xs) ys b c → Speaks run (xs ++ ys) a c
speaks_more run xs ys a b c one two =
    let later = life run xs in
    record {
      said = one.said ++ two.said;
      mail =
          two.mail ∙ ap (λ (m : Letters). mail.life m (map Says two.said)) one.mail
          ∙ sym (ap (λ (ds : List MailDeed). mail.life a.mail ds) (map_append Says one.said two.said) ∙ mail_append (map Says one.said) (map Says two.said) a.mail);
      told =
          ap (λ (l : List Told). option_to_list a.unsaid ++ l) (told_append xs ys run)
          ∙ sym (append_assoc (option_to_list a.unsaid) (told_in run xs) (told_in later ys)) ∙ ap (λ (l : List Told). l ++ told_in later ys) one.told
          ∙ append_assoc (filter_map told_of one.said) (option_to_list b.unsaid) (told_in later ys)
          ∙ ap (λ (l : List Told). filter_map told_of one.said ++ l) two.told
          ∙ sym (append_assoc (filter_map told_of one.said) (filter_map told_of two.said) (option_to_list c.unsaid))
          ∙ ap (λ (l : List Told). l ++ option_to_list c.unsaid) (sym (filter_map-append told_of one.said two.said));
      parts =
          subst (λ (l : List Part). AreReported (place_in a.mail) l (filter_map page_of (one.said ++ two.said))) (sym (parts_append xs ys run))
          (subst (λ (l : List PlainReported). AreReported (place_in a.mail) (parts_in run xs ++ parts_in later ys) l) (sym (filter_map-append page_of one.said two.said))
          (reported_append (place_in a.mail) (parts_in run xs) (parts_in later ys) (filter_map page_of one.said) (filter_map page_of two.said) one.parts
          (subst (λ (place : MailPlace). AreReported place (parts_in later ys) (filter_map page_of two.said)) (ap place_in one.mail ∙ place_stays (map Says one.said) a.mail) two.parts)));
      posted =
          subst (λ (ds : List MailDeed). ArePosted a.mail ds) (sym (map_append Says one.said two.said))
          (posted_append (map Says one.said) (map Says two.said) a.mail one.posted (subst (λ (m : Letters). ArePosted m (map Says two.said)) one.mail two.posted));
      backs = back_append xs ys run one.backs two.backs;
    }

-- acts that tell nothing and let nothing go
pub speaks_quiet : (run : AgentRun Leased) (acts : List IntakeAct) (old new : PlainIntake) → told_in run acts ≡ [] → parts_in run acts ≡ [] → AreBack run acts → new.mail ≡ old.mail → new.unsaid ≡ old.unsaid → Speaks run acts old new
speaks_quiet run acts old new untold none backs same kept =
    record {
      said = [];
      mail = same;
      told =
          ap (λ (l : List Told). option_to_list old.unsaid ++ l) untold ∙ append-nil (option_to_list old.unsaid) ∙ ap (λ (o : Option Told). option_to_list o) (sym kept);
      parts = subst (λ (l : List Part). AreReported (place_in old.mail) l []) (sym none) refl;
      posted = tt;
      backs = backs;
    }

pub speaks_tells : (run : AgentRun Leased) (acts : List IntakeAct) (old new : PlainIntake) → Tells old (told_in run acts) new → parts_in run acts ≡ [] → AreBack run acts → Speaks run acts old new
speaks_tells run acts old new tells none backs =
    record {
      said = map SaysTold tells.said;
      mail = tells.mail ∙ ap (λ (ds : List MailDeed). mail.life old.mail ds) (sym (all_say tells.said));
      told = tells.all ∙ ap (λ (l : List Told). l ++ option_to_list new.unsaid) (sym (tolds tells.said));
      parts = subst (λ (l : List Part). AreReported (place_in old.mail) l (filter_map page_of (map SaysTold tells.said))) (sym none) (no_pages tells.said);
      posted = tolds_posted tells.said old.mail tells.put;
      backs = backs;
    }

pub speaks_says : (run : AgentRun Leased) (old new : PlainIntake) → SaysIt old.mail old.claims old.unsaid new.mail new.claims new.unsaid → Speaks run [] old new
speaks_says run old new says_it =
    record {
      said = map SaysTold says_it.said;
      mail = says_it.mail ∙ ap (λ (ds : List MailDeed). mail.life old.mail ds) (sym (all_say says_it.said));
      told = append-nil (option_to_list old.unsaid) ∙ says_it.all ∙ ap (λ (l : List Told). l ++ option_to_list new.unsaid) (sym (tolds says_it.said));
      parts = no_pages says_it.said;
      posted = tolds_posted says_it.said old.mail says_it.put;
      backs = tt;
    }

pub speaks_states : (run : AgentRun Leased) (old new : PlainIntake) (standing : Standing) (number : ℕ) → Posts old.mail (SaysStanding standing) (Ok number) new.mail → new.unsaid ≡ old.unsaid
    → Speaks run [] old new
speaks_states run old new standing number posts kept =
    record {
      said = SaysStanding standing ∷ [];
      mail = posts.done;
      told = append-nil (option_to_list old.unsaid) ∙ ap (λ (o : Option Told). option_to_list o) (sym kept);
      parts = refl;
      posted = ((refl, posts.cause.1), tt);
      backs = tt;
    }

-- ---- what leaves the hand

-- what is said of the page that may be posted
record Spoken (old : Letters) (page : Option PlainReported) (new : Letters) : Type 0 where
  pub said : List Said
  pub mail : new ≡ mail.life old (map Says said)
  pub told : filter_map told_of said ≡ []
  pub pages : IsReported (place_in old) page (filter_map page_of said)
  pub posted : ArePosted old (map Says said)

cannot : (m : Letters) (page : PlainReported) (fault : Unposted) → may_wait fault ≡ false → Causes m (SaysReported page) (Err fault) → CannotBeSaid (place_in m) page
cannot m page Full never cause = absurd cc
cannot m page TooLong never (has, (free, (spelled, long))) = (m.fresh, omega (arith, has), inr long)
cannot m page NoSpelling never (has, (free, unspelled)) = (m.fresh, omega (arith, has), inl unspelled)
cannot m page Ended never cause = absurd cc

spoken : (old new : Word) (page : Option PlainReported) (unposted : Option Unposted) → PostsPage page old unposted new → Spoken old.mail page new.mail
spoken old new None None (none, same) = record { said = []; mail = ap (λ (w : Word). w.mail) same; told = refl; pages = refl; posted = tt }
spoken old new None (Some fault) (none, same) = let never : Some fault ≡ None = none in absurd cc
spoken old new (Some page) None (number, posts, noted) = record { said = SaysReported page ∷ []; mail = posts.done; told = refl; pages = inl refl; posted = ((refl, posts.cause.1), tt) }
spoken old new (Some page) (Some fault) (never, posts, noted) =
    record { said = []; mail = posts.same; told = refl; pages = inr (refl, cannot old.mail page fault never posts.cause); posted = tt }

-- the first of the hand leaves at its first offer, and never later
fresh_part : (run : AgentRun Leased) (taken : Taken) (offered : Bool) (first : Option Taken) → offered ≡ false → first ≡ Some taken → option_to_list (if offered then None else option_map (part_of run) first) ≡ part_of run taken ∷ []
fresh_part run taken true first not_yet is = let never : true ≡ false = not_yet in absurd cc
fresh_part run taken false first not_yet is = ap (λ (o : Option Taken). option_to_list (option_map (part_of run) o)) is

no_part : (run : AgentRun Leased) (offered : Bool) (first : Option Taken) → offered ≡ true → option_to_list (if offered then None else option_map (part_of run) first) ≡ []
no_part run true first was = refl
no_part run false first was = let never : false ≡ true = was in absurd cc

comes_back : (old : Giving) (buffer : Buffer Leased) (answer : Answered) (back : Option (Buffer Leased)) (new : Giving) → Returns old buffer answer back new → ComesBack buffer answer back
comes_back old buffer (Given stamp) back new returns = returns.0
comes_back old buffer (Missed stamp) back new returns = (record buffer { chunk = with_page buffer.chunk None }, returns.0, refl)
comes_back old buffer Unread back new returns = (buffer, returns.0, refl)

pub speaks_offers : (run : AgentRun Leased) (old new : PlainIntake) (parted : Option PartedChunk) (was_given : Bool) (offers : Offers run old was_given new) → SaysIf run (word_of old) parted (word_of new) → new.unsaid ≡ old.unsaid
    → Speaks run (LetsGo offers.answer offers.back ∷ []) old new
speaks_offers run old new None was_given offers (again, same) kept =
    record {
      said = [];
      mail = ap (λ (w : Word). w.mail) same;
      told = append-nil (option_to_list old.unsaid) ∙ ap (λ (o : Option Told). option_to_list o) (sym kept);
      parts = subst (λ (l : List Part). AreReported (place_in old.mail) (l ++ []) []) (sym (no_part run (was_offered run) (first_taken run) again)) refl;
      posted = tt;
      backs = ((offers.buffer, offers.first, comes_back old.port.giver offers.buffer offers.answer offers.back new.port.giver offers.returns), tt);
    }
speaks_offers run old new (Some parted) was_given offers (fresh, (is_parted, posts)) kept =
    let taken = is_parted.taken in
    let word = spoken (word_of old) (word_of new) (first_page run) parted.unposted posts in
    record {
      said = word.said;
      mail = word.mail;
      told =
          append-nil (option_to_list old.unsaid) ∙ ap (λ (o : Option Told). option_to_list o) (sym kept)
          ∙ ap (λ (l : List Told). l ++ option_to_list new.unsaid) (sym word.told);
      parts =
          subst (λ (l : List Part). AreReported (place_in old.mail) (l ++ []) (filter_map page_of word.said)) (sym (fresh_part run taken (was_offered run) (first_taken run) fresh is_parted.first))
          (filter_map page_of word.said, [], sym (append-nil (filter_map page_of word.said)), word.pages, refl);
      posted = word.posted;
      backs = ((offers.buffer, offers.first, comes_back old.port.giver offers.buffer offers.answer offers.back new.port.giver offers.returns), tt);
    }
