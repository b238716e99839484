-- What is told and said, and what becomes of the claims by it.
use Rattle.std.proofs.Common.{◌≡◌, ℕ, ◌+◌, Bool, true, false, List, [], ◌∷◌, ◌++◌, length, map, Option, Some, None, refl, sym, ap, subst, ◌∙◌, arith, append_assoc, append-nil}
use Rattle.std.specs.Prelude.{filter, filter_map, if◌then◌else◌}
use Rattle.std.specs.Option.{option_to_list, option_and_then}
use Rattle.std.proofs.lemmas.List.Elements.{filter-append, filter_map-append}
use Rattle.std.proofs.lemmas.List.Sums.{fold-append}
use Rattle.hs_base.specs.declared.told.Crumb.{Crumb}
use Rattle.hs_base.specs.declared.told.Told.{Told}
use Rattle.hs_base.specs.declared.told.Why.{Why}
use Rattle.hs_base.specs.declared.told.Why.TheVariants.{Fired, Answer, Late}
use Rattle.hs_records.specs.Plain.{PlainSettings}
use Rattle.hs_wire.specs.Messages.{Said, SaysHello, SaysTold, SaysAsk, SaysReported, SaysStanding}
use Rattle.hs_claimed.specs.Claims.{PlainClaims}
use Rattle.hs_claimed.specs.Lives as claimed
use Rattle.hs_law_agent.specs.State.{AgentState, ClaimedTrace, claim_of}
use Rattle.hs_law_agent.specs.Messages.{has_crumb, late_of}
use Rattle.hs_law_agent.specs.Stepping.{Crumbed, told_by}
use Rattle.hs_mail.specs.Letters.{Letters, MailDeed}
use Rattle.hs_mail.specs.Letters as letters
use Rattle.hs_mail.specs.Lives as mail
use Rattle.hs_intake.specs.Intakes.{PlainIntake, says, ArePut, claims_life, claim_for, claim_by, note_of, notes_from, is_claim, is_note, HasRoom, HaveRoom, ClaimsBy, Tells, SaysIt}

-- ---- the mail

pub mail_append : (xs ys : List MailDeed) (m : Letters) → mail.life m (xs ++ ys) ≡ mail.life (mail.life m xs) ys
mail_append [] ys m = refl
mail_append (x ∷ xs) ys m = mail_append xs ys (letters.after m x)

pub map_append : {A B : Type 0} (f : A → B) (xs ys : List A) → map f (xs ++ ys) ≡ map f xs ++ map f ys
map_append f [] ys = refl
map_append f (x ∷ xs) ys = ap (λ l. f x ∷ l) (map_append f xs ys)

-- each message has the next number
numbers_rise : (said : List Told) (m : Letters) → (mail.life m (map says said)).fresh ≡ m.fresh + length (map SaysTold said)
numbers_rise [] m = omega arith
numbers_rise (told ∷ said) m = let rest = numbers_rise said (letters.after m (says told)) in omega (arith, rest)

-- ---- what is noted, and what is claimed

notes_append : (xs ys : List Said) (number : ℕ) → notes_from number (xs ++ ys) ≡ notes_from number xs ++ notes_from (number + length xs) ys
notes_append [] ys number = let same : number ≡ number + 0 = omega arith in ap (λ n. notes_from n ys) same
notes_append (x ∷ xs) ys number =
    let same : number + 1 + length xs ≡ number + length (x ∷ xs) = omega arith in
    ap (λ l. option_to_list (note_of number x) ++ l) (notes_append xs ys (number + 1) ∙ ap (λ n. notes_from (number + 1) xs ++ notes_from n ys) same)
    ∙ sym (append_assoc (option_to_list (note_of number x)) (notes_from (number + 1) xs) (notes_from (number + length (x ∷ xs)) ys))

no_claim : (number : ℕ) (said : Said) → filter is_claim (option_to_list (note_of number said)) ≡ []
no_claim number (SaysHello hello) = refl
no_claim number (SaysTold told) = refl
no_claim number (SaysAsk ask) = refl
no_claim number (SaysReported reported) = refl
no_claim number (SaysStanding standing) = refl

all_note : (number : ℕ) (said : Said) → filter is_note (option_to_list (note_of number said)) ≡ option_to_list (note_of number said)
all_note number (SaysHello hello) = refl
all_note number (SaysTold told) = refl
all_note number (SaysAsk ask) = refl
all_note number (SaysReported reported) = refl
all_note number (SaysStanding standing) = refl

no_claims_noted : (said : List Said) (number : ℕ) → filter is_claim (notes_from number said) ≡ []
no_claims_noted [] number = refl
no_claims_noted (x ∷ said) number =
    filter-append is_claim (option_to_list (note_of number x)) (notes_from (number + 1) said)
    ∙ ap (λ l. l ++ filter is_claim (notes_from (number + 1) said)) (no_claim number x) ∙ no_claims_noted said (number + 1)

all_noted : (said : List Said) (number : ℕ) → filter is_note (notes_from number said) ≡ notes_from number said
all_noted [] number = refl
all_noted (x ∷ said) number =
    filter-append is_note (option_to_list (note_of number x)) (notes_from (number + 1) said)
    ∙ ap (λ l. l ++ filter is_note (notes_from (number + 1) said)) (all_note number x) ∙ ap (λ l. option_to_list (note_of number x) ++ l) (all_noted said (number + 1))

-- ---- room

room_append : (xs ys : List claimed.ClaimDeed) (s : PlainClaims) → HaveRoom s xs → HaveRoom (claims_life s xs) ys → HaveRoom s (xs ++ ys)
room_append [] ys s first second = second
room_append (x ∷ xs) ys s first second = (first.0, room_append xs ys (claimed.after s x) first.1 second)

one_roomy : (s : PlainClaims) (deed : claimed.ClaimDeed) → is_claim deed ≡ false → HaveRoom s (deed ∷ [])
one_roomy s deed none = (λ yes. (let never : true ≡ false = sym yes ∙ none in absurd cc), tt)

note_roomy : (s : PlainClaims) (number : ℕ) (said : Said) → HaveRoom s (option_to_list (note_of number said))
note_roomy s number (SaysHello hello) = tt
note_roomy s number (SaysTold told) = one_roomy s (claimed.Names told.group.id told.crumbs number) refl
note_roomy s number (SaysAsk ask) = tt
note_roomy s number (SaysReported reported) = one_roomy s (claimed.Speaks reported.group.id number) refl
note_roomy s number (SaysStanding standing) = one_roomy s (claimed.Says standing number) refl

notes_roomy : (said : List Said) (number : ℕ) (s : PlainClaims) → HaveRoom s (notes_from number said)
notes_roomy [] number s = tt
notes_roomy (x ∷ said) number s =
    room_append (option_to_list (note_of number x)) (notes_from (number + 1) said) s (note_roomy s number x) (notes_roomy said (number + 1) (claims_life s (option_to_list (note_of number x))))

-- ---- claims one after another

pub claims_nothing : (old new : PlainClaims) (number : ℕ) → new ≡ old → ClaimsBy old [] number [] new
claims_nothing old new number same = record { deeds = []; claims = same; made = refl; noted = refl; room = tt }

pub claims_more : (a b c : PlainClaims) (first second : List Told) (number : ℕ) (xs ys : List Said) → ClaimsBy a first number xs b → ClaimsBy b second (number + length xs) ys c
    → ClaimsBy a (first ++ second) number (xs ++ ys) c
claims_more a b c first second number xs ys one two =
    record {
      deeds = one.deeds ++ two.deeds;
      claims = two.claims ∙ ap (λ (s : PlainClaims). claims_life s two.deeds) one.claims ∙ sym (fold-append claimed.after a one.deeds two.deeds);
      made =
          filter-append is_claim one.deeds two.deeds ∙ ap (λ l. l ++ filter is_claim two.deeds) one.made ∙ ap (λ l. filter_map claim_by first ++ l) two.made
          ∙ sym (filter_map-append claim_by first second);
      noted =
          filter-append is_note one.deeds two.deeds ∙ ap (λ l. l ++ filter is_note two.deeds) one.noted ∙ ap (λ l. notes_from number xs ++ l) two.noted
          ∙ sym (notes_append xs ys number);
      room = room_append one.deeds two.deeds a one.room (subst (λ (s : PlainClaims). HaveRoom s two.deeds) one.claims two.room);
    }

-- what was said alone
pub claims_said : (old new : PlainClaims) (number : ℕ) (said : List Said) → new ≡ claims_life old (notes_from number said) → ClaimsBy old [] number said new
claims_said old new number said is =
    record { deeds = notes_from number said; claims = is; made = no_claims_noted said number; noted = all_noted said number; room = notes_roomy said number old }

claim_alone : (why : Why) (told : Told) → (filter is_claim (option_to_list (claim_for why told)) ≡ option_to_list (claim_for why told)) × (filter is_note (option_to_list (claim_for why told)) ≡ [])
claim_alone Fired told = (refl, refl)
claim_alone Answer told = (refl, refl)
claim_alone Late told = (refl, refl)

claim_roomy : (why : Why) (told : Told) (s : PlainClaims) → HasRoom s → HaveRoom s (option_to_list (claim_for why told))
claim_roomy Fired told s room = (λ yes. room, tt)
claim_roomy Answer told s room = (λ yes. room, tt)
claim_roomy Late told s room = tt

-- the claim of one message
pub claims_made : (old new : PlainClaims) (number : ℕ) (told : Option Told) → HasRoom old → new ≡ claims_life old (filter_map claim_by (option_to_list told)) → ClaimsBy old (option_to_list told) number [] new
claims_made old new number None room is = claims_nothing old new number is
claims_made old new number (Some told) room is =
    let one = single (claim_by told) in
    record {
      deeds = option_to_list (claim_by told);
      claims = is ∙ ap (λ l. claims_life old l) one;
      made = (claim_alone told.why told).0 ∙ sym one;
      noted = (claim_alone told.why told).1;
      room = claim_roomy told.why told old room;
    }
  where
    single : (o : Option claimed.ClaimDeed) → filter_map (λ (t : Told). o) (told ∷ []) ≡ option_to_list o
    single None = refl
    single (Some deed) = refl

-- ---- what is told

put_append : (xs ys : List Told) (m : Letters) → ArePut m xs → ArePut (mail.life m (map says xs)) ys → ArePut m (xs ++ ys)
put_append [] ys m first second = second
put_append (x ∷ xs) ys m (is, others) second = (is, put_append xs ys (letters.after m (says x)) others second)

pub tells_nothing : (old new : PlainIntake) → new.mail ≡ old.mail → new.unsaid ≡ old.unsaid → new.claims ≡ old.claims → Tells old [] new
tells_nothing old new mail unsaid claims =
    record {
      said = [];
      mail = mail;
      put = tt;
      all = append-nil (option_to_list old.unsaid) ∙ ap (λ (o : Option Told). option_to_list o) (sym unsaid);
      claims = claims_nothing old.claims new.claims old.mail.fresh claims;
    }

pub tells_more : (a b c : PlainIntake) (first second : List Told) → Tells a first b → Tells b second c → Tells a (first ++ second) c
tells_more a b c first second one two =
    let number : b.mail.fresh ≡ a.mail.fresh + length (map SaysTold one.said) = ap (λ (m : Letters). m.fresh) one.mail ∙ numbers_rise one.said a.mail in
    record {
      said = one.said ++ two.said;
      mail =
          two.mail ∙ ap (λ (m : Letters). mail.life m (map says two.said)) one.mail
          ∙ sym (ap (λ (ds : List MailDeed). mail.life a.mail ds) (map_append says one.said two.said) ∙ mail_append (map says one.said) (map says two.said) a.mail);
      put = put_append one.said two.said a.mail one.put (subst (λ (m : Letters). ArePut m two.said) one.mail two.put);
      all =
          sym (append_assoc (option_to_list a.unsaid) first second) ∙ ap (λ (l : List Told). l ++ second) one.all ∙ append_assoc one.said (option_to_list b.unsaid) second
          ∙ ap (λ (l : List Told). one.said ++ l) two.all ∙ sym (append_assoc one.said two.said (option_to_list c.unsaid));
      claims =
          subst (λ (l : List Said). ClaimsBy a.claims (first ++ second) a.mail.fresh l c.claims) (sym (map_append SaysTold one.said two.said))
          (claims_more a.claims b.claims c.claims first second a.mail.fresh (map SaysTold one.said) (map SaysTold two.said) one.claims
          (subst (λ (n : ℕ). ClaimsBy b.claims second n (map SaysTold two.said) c.claims) number two.claims));
    }

-- What one act tells is said, where nothing waited. It claims nothing.
pub tells_said : (old new : PlainIntake) (told : Option Told) → old.unsaid ≡ None → filter_map claim_by (option_to_list told) ≡ [] → SaysIt old.mail old.claims told new.mail new.claims new.unsaid
    → Tells old (option_to_list told) new
tells_said old new told none free says_it =
    let own = claims_said old.claims new.claims old.mail.fresh (map SaysTold says_it.said) says_it.noted in
    record {
      said = says_it.said;
      mail = says_it.mail;
      put = says_it.put;
      all = ap (λ (o : Option Told). option_to_list o ++ option_to_list told) none ∙ says_it.all;
      claims = record { deeds = own.deeds; claims = own.claims; made = own.made ∙ sym free; noted = own.noted; room = own.room };
    }

-- The group claims, and then what was told is said.
pub tells_claimed : (old new : PlainIntake) (told : Option Told) (mid : PlainClaims) → old.unsaid ≡ None → HasRoom old.claims → mid ≡ claims_life old.claims (filter_map claim_by (option_to_list told))
    → SaysIt old.mail mid told new.mail new.claims new.unsaid → Tells old (option_to_list told) new
tells_claimed old new told mid none room entered says_it =
    let number : old.mail.fresh ≡ old.mail.fresh + 0 = omega arith in
    record {
      said = says_it.said;
      mail = says_it.mail;
      put = says_it.put;
      all = ap (λ (o : Option Told). option_to_list o ++ option_to_list told) none ∙ says_it.all;
      claims =
          subst (λ (l : List Told). ClaimsBy old.claims l old.mail.fresh (map SaysTold says_it.said) new.claims) (append-nil (option_to_list told))
          (claims_more old.claims mid new.claims (option_to_list told) [] old.mail.fresh [] (map SaysTold says_it.said) (claims_made old.claims mid old.mail.fresh told room entered)
          (subst (λ (n : ℕ). ClaimsBy mid [] n (map SaysTold says_it.said) new.claims) number (claims_said mid new.claims old.mail.fresh (map SaysTold says_it.said) says_it.noted)));
    }

-- a crumb claims nothing
pub crumb_claims : (settings : PlainSettings) (node : ℕ) (state : AgentState) (client : ℕ) (crumb : Crumb) → filter_map claim_by (option_to_list (told_by settings node state (Crumbed client crumb))) ≡ []
crumb_claims settings node state client crumb = at (claim_of state.claims crumb.trace)
  where
    one : (claim : ClaimedTrace) (known : Bool) → filter_map claim_by (option_to_list (if known then None else Some (late_of claim crumb))) ≡ []
    one claim true = refl
    one claim false = refl

    at : (o : Option ClaimedTrace)
        → filter_map claim_by (option_to_list (option_and_then (λ claim. if has_crumb state.crumbs crumb then None else Some (late_of claim crumb)) o)) ≡ []
    at None = refl
    at (Some claim) = one claim (has_crumb state.crumbs crumb)

-- what one act tells, as the list of one act
pub tells_listed : (old new : PlainIntake) (told by : Option Told) → told ≡ by → Tells old (option_to_list told) new → Tells old (option_to_list by ++ []) new
tells_listed old new told by is tells = subst (λ (l : List Told). Tells old l new) (ap (λ (o : Option Told). option_to_list o) is ∙ sym (append-nil (option_to_list by))) tells
