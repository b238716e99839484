-- How a node goes on by one part after another.
use Rattle.std.proofs.Common.{◌≡◌, ℕ, List, [], ◌∷◌, ◌++◌, map, Option, refl, sym, ap, subst, ◌∙◌, append_assoc, append-nil}
use Rattle.std.specs.Prelude.{filter_map, fold}
use Rattle.std.specs.Option.{option_to_list}
use Rattle.std.proofs.lemmas.List.Elements.{filter_map-append}
use Rattle.std.proofs.lemmas.List.Sums.{fold-append}
use Rattle.hs_base.specs.declared.told.Told.{Told}
use Rattle.hs_ring.specs.Parts.{Leased}
use Rattle.hs_agent.specs.Runs.{AgentRun}
use Rattle.hs_link.specs.Contents.{Incoming}
use Rattle.hs_mail.specs.Letters.{Letters, Says}
use Rattle.hs_mail.specs.Letters as letters
use Rattle.hs_mail.specs.Lives as mail
use Rattle.hs_wire.specs.Messages.{PlainReported, SaysTold}
use Rattle.hs_node_client.specs.declared.segment.SegmentNote.{SegmentNote}
use Rattle.hs_node_client.specs.declared.segment.SegmentKey.{SegmentKey}
use Rattle.hs_whole.specs.Notes.{PlainNotes}
use Rattle.hs_whole.specs.History.{NoteDeed, after}
use Rattle.hs_intake.specs.declared.took.PartedChunk.{PartedChunk}
use Rattle.hs_intake.specs.Intakes.{PlainIntake, IntakeAct, after_act, life, told_in, says, Stands, Tells}
use Rattle.hs_intake.proofs.Claiming.{map_append, mail_append}
use Rattle.hs_intake.proofs.Acts.{life_append, told_append}
use Rattle.hs_node.specs.Nodes.{PlainNode, told_of, page_of, Part, part_at, parts_in, posted_of, AreParted, Came, Heard, Note, Gone, deed_in, note_in, parted_in, AreHeard, deed_for, GoesOn}

-- ---- lists

parts_append : (xs ys : List IntakeAct) (run : AgentRun Leased) → parts_in run (xs ++ ys) ≡ parts_in run xs ++ parts_in (life run xs) ys
parts_append [] ys run = refl
parts_append (x ∷ xs) ys run =
    ap (λ (l : List Part). option_to_list (part_at run x) ++ l) (parts_append xs ys (after_act run x))
    ∙ sym (append_assoc (option_to_list (part_at run x)) (parts_in (after_act run x) xs) (parts_in (life (after_act run x) xs) ys))

parted_append : (xs ys : List Part) (ps qs : List PartedChunk) (pages more : List PlainReported) → AreParted xs ps pages → AreParted ys qs more → AreParted (xs ++ ys) (ps ++ qs) (pages ++ more)
parted_append [] ys [] qs pages more none second = subst (λ (l : List PlainReported). AreParted ys qs (l ++ more)) (sym none) second
parted_append [] ys (p ∷ ps) qs pages more none second = absurd none
parted_append (x ∷ xs) ys [] qs pages more none second = absurd none
parted_append (x ∷ xs) ys (p ∷ ps) qs pages more (is, (rest, first, others)) second = (
  is,
  (
    rest ++ more,
    ap (λ (l : List PlainReported). l ++ more) first ∙ append_assoc (posted_of x p.unposted) rest more,
    parted_append xs ys ps qs rest more others second,
  ),
)

heard_append : (xs ys : List Heard) (s : PlainNotes) → AreHeard s xs → AreHeard (fold after s (map deed_in xs)) ys → AreHeard s (xs ++ ys)
heard_append [] ys s first second = second
heard_append (Note client segment deed ∷ xs) ys s (first, others) second = (first, heard_append xs ys (after s deed) others second)
heard_append (Gone parted ∷ xs) ys s first second = heard_append xs ys (after s (deed_for parted)) first second

came_append : (xs ys : List (ℕ × SegmentNote)) (a b c : List (Incoming SegmentNote SegmentKey)) → Came xs a b → Came ys b c → Came (xs ++ ys) a c
came_append [] ys a b c same second = subst (λ (l : List (Incoming SegmentNote SegmentKey)). Came ys l c) same second
came_append (x ∷ xs) ys a b c (mid, first, others) second = (mid, first, came_append xs ys mid b c others second)

-- ---- messages that tell

pub tolds : (said : List Told) → filter_map told_of (map SaysTold said) ≡ said
tolds [] = refl
tolds (told ∷ said) = ap (λ (l : List Told). told ∷ l) (tolds said)

pub no_pages : (said : List Told) → filter_map page_of (map SaysTold said) ≡ []
no_pages [] = refl
no_pages (told ∷ said) = no_pages said

pub all_say : (said : List Told) → map Says (map SaysTold said) ≡ map says said
all_say [] = refl
all_say (told ∷ said) = ap (λ (l : List letters.MailDeed). says told ∷ l) (all_say said)

-- ---- one after another

pub on_more : (run : AgentRun Leased) (a b c : PlainNode) → GoesOn run a b → ((later : AgentRun Leased) → Stands later b.intake → GoesOn later b c) → GoesOn run a c
on_more run a b c one next =
    let later = life run one.acts in
    let two = next later one.stands in
    record {
      acts = one.acts ++ two.acts;
      stands = subst (λ (r : AgentRun Leased). Stands r c.intake) (sym (life_append one.acts two.acts run)) two.stands;
      said = one.said ++ two.said;
      mail =
          two.mail ∙ ap (λ (m : Letters). mail.life m (map Says two.said)) one.mail
          ∙ sym (ap (λ (ds : List letters.MailDeed). mail.life a.intake.mail ds) (map_append Says one.said two.said) ∙ mail_append (map Says one.said) (map Says two.said) a.intake.mail);
      told =
          ap (λ (l : List Told). option_to_list a.intake.unsaid ++ l) (told_append one.acts two.acts run)
          ∙ sym (append_assoc (option_to_list a.intake.unsaid) (told_in run one.acts) (told_in later two.acts)) ∙ ap (λ (l : List Told). l ++ told_in later two.acts) one.told
          ∙ append_assoc (filter_map told_of one.said) (option_to_list b.intake.unsaid) (told_in later two.acts)
          ∙ ap (λ (l : List Told). filter_map told_of one.said ++ l) two.told
          ∙ sym (append_assoc (filter_map told_of one.said) (filter_map told_of two.said) (option_to_list c.intake.unsaid))
          ∙ ap (λ (l : List Told). l ++ option_to_list c.intake.unsaid) (sym (filter_map-append told_of one.said two.said));
      heard = one.heard ++ two.heard;
      notes =
          two.notes ∙ ap (λ (n : PlainNotes). fold after n (map deed_in two.heard)) one.notes
          ∙ sym (ap (λ (ds : List NoteDeed). fold after a.notes ds) (map_append deed_in one.heard two.heard) ∙ fold-append after a.notes (map deed_in one.heard) (map deed_in two.heard));
      ends =
          subst (λ (l : List (ℕ × SegmentNote)). Came l a.segments c.segments) (sym (filter_map-append note_in one.heard two.heard))
          (came_append (filter_map note_in one.heard) (filter_map note_in two.heard) a.segments b.segments c.segments one.ends two.ends);
      noted = heard_append one.heard two.heard a.notes one.noted (subst (λ (n : PlainNotes). AreHeard n two.heard) one.notes two.noted);
      parts =
          subst (λ (l : List Part). AreParted l (filter_map parted_in (one.heard ++ two.heard)) (filter_map page_of (one.said ++ two.said))) (sym (parts_append one.acts two.acts run))
          (subst (λ (l : List PlainReported). AreParted (parts_in run one.acts ++ parts_in later two.acts) (filter_map parted_in (one.heard ++ two.heard)) l) (sym (filter_map-append page_of one.said two.said))
          (subst (λ (l : List PartedChunk). AreParted (parts_in run one.acts ++ parts_in later two.acts) l (filter_map page_of one.said ++ filter_map page_of two.said)) (sym (filter_map-append parted_in one.heard two.heard))
          (parted_append (parts_in run one.acts) (parts_in later two.acts) (filter_map parted_in one.heard) (filter_map parted_in two.heard) (filter_map page_of one.said) (filter_map page_of two.said) one.parts two.parts)));
    }

-- nothing happened but what contracts of parts do not tell
pub on_same : (run : AgentRun Leased) (old : PlainNode) (intake : PlainIntake) → Stands run intake → intake.mail ≡ old.intake.mail → intake.unsaid ≡ old.intake.unsaid → GoesOn run old (record old { intake = intake })
on_same run old intake stands mail unsaid =
    record {
      acts = [];
      stands = stands;
      said = [];
      mail = mail;
      told = append-nil (option_to_list old.intake.unsaid) ∙ ap (λ (o : Option Told). option_to_list o) (sym unsaid);
      heard = [];
      notes = refl;
      ends = refl;
      noted = tt;
      parts = refl;
    }

pub on_nothing : (run : AgentRun Leased) (old : PlainNode) → Stands run old.intake → GoesOn run old old
on_nothing run old stands = on_same run old old.intake stands refl refl

-- the agent does these acts, and what they tell is said
pub on_tells : (run : AgentRun Leased) (acts : List IntakeAct) (old : PlainNode) (intake : PlainIntake) → Stands (life run acts) intake → Tells old.intake (told_in run acts) intake → parts_in run acts ≡ []
    → GoesOn run old (record old { intake = intake })
on_tells run acts old intake stands tells none =
    record {
      acts = acts;
      stands = stands;
      said = map SaysTold tells.said;
      mail = tells.mail ∙ ap (λ (ds : List letters.MailDeed). mail.life old.intake.mail ds) (sym (all_say tells.said));
      told = tells.all ∙ ap (λ (l : List Told). l ++ option_to_list intake.unsaid) (sym (tolds tells.said));
      heard = [];
      notes = refl;
      ends = refl;
      noted = tt;
      parts = subst (λ (l : List Part). AreParted l [] (filter_map page_of (map SaysTold tells.said))) (sym none) (no_pages tells.said);
    }
