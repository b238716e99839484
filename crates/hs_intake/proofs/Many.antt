-- Items of one line, taken one after another.
use Rattle.std.proofs.Common.{◌≡◌, ℕ, zero, suc, ◌+◌, ◌<◌, ◌≤◌, List, [], ◌∷◌, ◌++◌, length, map, Option, Some, refl, sym, ap, subst, ◌∙◌, arith, length-append, slice_get}
use Rattle.std.specs.Option.{option_to_list}
use Rattle.hs_base.specs.declared.limits.TheConstants.{MAX_TAKEN}
use Rattle.hs_base.specs.declared.told.Told.{Told}
use Rattle.hs_ring.specs.Parts.{Leased}
use Rattle.hs_link.specs.Contents.{Incoming}
use Rattle.hs_live.specs.Keys.{Key}
use Rattle.hs_agent.specs.Runs.{AgentRun}
use Rattle.hs_claimed.specs.Claims.{PlainClaims}
use Rattle.hs_wire.specs.Messages.{SaysTold}
use Rattle.hs_intake.specs.declared.took.Next.TheVariants as nexts
use Rattle.hs_intake.specs.declared.took.Stop.{Stop}
use Rattle.hs_intake.specs.declared.took.Stop.TheVariants.{Empty, Most, Memory, Words, Claims}
use Rattle.hs_intake.specs.Intakes.{PlainIntake, Line, Lines, lines_of, IntakeAct, life, told_in, Stands, ClaimsBy, Tells, Goes}
use Rattle.hs_intake.specs.Taking.{IsDry, Moves, IsMute, IsShort, TakesOne, TakesNext, TakesMany}
use Rattle.hs_intake.proofs.Lines.{receives_none, receives_more}
use Rattle.hs_intake.proofs.Claiming.{map_append}
use Rattle.hs_intake.proofs.Acts.{goes_more, goes_nothing}

pub end_there : {A : Type 0} (xs : List A) (i : ℕ) → i < length xs → (x : A) × (slice_get xs i ≡ Some x)
end_there [] i low = absurd (omega arith)
end_there (x ∷ xs) zero low = (x, refl)
end_there (x ∷ xs) (suc i) low = end_there xs i (omega arith)

-- The line was asked so many times, and gave an item each time, which the agent took.
pub record SoFar {T : Type 0} (run : AgentRun Leased) (line : Line T) (client : ℕ) (old : PlainIntake) (count : ℕ) (new : PlainIntake) : Type 0 where
  pub items : List T
  pub count_is : length items ≡ count
  pub moves : Moves line client items old new
  pub back : new.back ≡ old.back
  pub goes : Goes run (map (line.takes client) items) old new

module _ {T : Type 0} (run : AgentRun Leased) (line : Line T) (client : ℕ) where
  pub moves_more : ((p : Lines) (xs ys : List (Incoming T Key)) → line.with_ends (line.with_ends p xs) ys ≡ line.with_ends p ys)
      → (xs ys : List T) (a b c : PlainIntake) → Moves line client xs a b → Moves line client ys b c → Moves line client (xs ++ ys) a c
  moves_more over xs ys a b c first second =
      record {
        receives = receives_more client xs ys (line.ends (lines_of a)) (line.ends (lines_of b)) (line.ends (lines_of c)) first.receives second.receives;
        others =
            second.others ∙ ap (λ (p : Lines). line.with_ends p (line.ends (lines_of c))) first.others ∙ over (lines_of a) (line.ends (lines_of b)) (line.ends (lines_of c));
        clients = second.clients ∙ first.clients;
      }

  unfoldable pub none_yet : (old : PlainIntake) → Stands run old → lines_of old ≡ line.with_ends (lines_of old) (line.ends (lines_of old)) → client < length (line.ends (lines_of old)) → SoFar run line client old 0 old
  none_yet old stands same low =
      let end = end_there (line.ends (lines_of old)) client low in
      record {
        items = [];
        count_is = refl;
        moves = record { receives = receives_none client (line.ends (lines_of old)) end.0 end.1; others = same; clients = refl };
        back = refl;
        goes = goes_nothing run old old stands refl refl refl;
      }

  unfoldable pub one_more : ((p : Lines) (xs ys : List (Incoming T Key)) → line.with_ends (line.with_ends p xs) ys ≡ line.with_ends p ys)
      → (old mid new : PlainIntake) (count : ℕ) → SoFar run line client old count mid → ((later : AgentRun Leased) → Stands later mid → TakesOne later line client mid new)
      → SoFar run line client old (count + 1) new
  one_more over old mid new count so next =
      let acts = map (line.takes client) so.items in
      let one = next (life run acts) so.goes.stands in
      record {
        items = so.items ++ one.item ∷ [];
        count_is = (let long = length-append so.items (one.item ∷ []) in let count = so.count_is in omega (arith, long, count));
        moves = moves_more over so.items (one.item ∷ []) old mid new so.moves one.moves;
        back = one.back ∙ so.back;
        goes =
            subst (λ (all : List IntakeAct). Goes run all old new) (sym (map_append (line.takes client) so.items (one.item ∷ [])))
            (goes_more run acts (line.takes client one.item ∷ []) old mid new so.goes one.goes);
      }

  pub tells_same : (told : List Told) (a b c : PlainIntake) → c.mail ≡ b.mail → c.unsaid ≡ b.unsaid → c.claims ≡ b.claims → Tells a told b → Tells a told c
  tells_same told a b c mail unsaid claims tells =
      record { said = tells.said; mail = mail ∙ tells.mail; put = tells.put; all = tells.all ∙ ap (λ (o : Option Told). tells.said ++ option_to_list o) (sym unsaid); claims = subst (λ (s : PlainClaims). ClaimsBy a.claims told a.mail.fresh (map SaysTold tells.said) s) (sym claims) tells.claims }

  unfoldable pub stopped : ((p : Lines) (xs ys : List (Incoming T Key)) → line.with_ends (line.with_ends p xs) ys ≡ line.with_ends p ys)
      → (old mid new : PlainIntake) (count : ℕ) (stop : Stop) → count ≤ MAX_TAKEN → SoFar run line client old count mid
      → ((later : AgentRun Leased) → Stands later mid → TakesNext later line client mid (nexts.Stopped stop) new)
      → TakesMany run line client old (record { count = count; stop = stop }) new
  stopped over old mid new count Empty few so next =
      let (same, dry) = next (life run (map (line.takes client) so.items)) so.goes.stands in
      record {
        items = so.items;
        count = so.count_is;
        few = (let is = so.count_is in omega (arith, is, few));
        goes = subst (λ (d : PlainIntake). Goes run (map (line.takes client) so.items) old d) (sym same) so.goes;
        stops = (
          subst (λ (d : PlainIntake). Moves line client so.items old d) (sym same) so.moves,
          ap (λ (d : PlainIntake). d.back) same ∙ so.back,
          subst (λ (d : PlainIntake). IsDry client (line.ends (lines_of d))) (sym same) dry,
        );
      }
  stopped over old mid new count Most few so next = absurd (next (life run (map (line.takes client) so.items)) so.goes.stands)
  stopped over old mid new count Memory few so next =
      let acts = map (line.takes client) so.items in
      let held = next (life run acts) so.goes.stands in
      record {
        items = so.items;
        count = so.count_is;
        few = (let is = so.count_is in omega (arith, is, few));
        goes =
            record {
              stands = held.stands;
              tells = tells_same (told_in run acts) old mid new (ap (λ (d : PlainIntake). d.mail) held.only) (ap (λ (d : PlainIntake). d.unsaid) held.only) (ap (λ (d : PlainIntake). d.claims) held.only) so.goes.tells;
            };
        stops = (held.item, moves_more over so.items (held.item ∷ []) old mid new so.moves held.moves, ap (λ (d : PlainIntake). d.back) held.only);
      }
  stopped over old mid new count Words few so next =
      let (same, mute) = next (life run (map (line.takes client) so.items)) so.goes.stands in
      record {
        items = so.items;
        count = so.count_is;
        few = (let is = so.count_is in omega (arith, is, few));
        goes = subst (λ (d : PlainIntake). Goes run (map (line.takes client) so.items) old d) (sym same) so.goes;
        stops = (
          subst (λ (d : PlainIntake). Moves line client so.items old d) (sym same) so.moves,
          ap (λ (d : PlainIntake). d.back) same ∙ so.back,
          subst (λ (d : PlainIntake). IsMute d) (sym same) mute,
        );
      }
  stopped over old mid new count Claims few so next =
      let (same, short) = next (life run (map (line.takes client) so.items)) so.goes.stands in
      record {
        items = so.items;
        count = so.count_is;
        few = (let is = so.count_is in omega (arith, is, few));
        goes = subst (λ (d : PlainIntake). Goes run (map (line.takes client) so.items) old d) (sym same) so.goes;
        stops = (
          subst (λ (d : PlainIntake). Moves line client so.items old d) (sym same) so.moves,
          ap (λ (d : PlainIntake). d.back) same ∙ so.back,
          subst (λ (d : PlainIntake). IsShort d) (sym same) short,
        );
      }

  unfoldable pub all_taken : (old new : PlainIntake) (count : ℕ) → count ≡ MAX_TAKEN → SoFar run line client old count new → TakesMany run line client old (record { count = MAX_TAKEN; stop = Most }) new
  all_taken old new count full so =
      record {
        items = so.items;
        count = so.count_is ∙ full;
        few = (let is = so.count_is in omega (arith, is, full));
        goes = so.goes;
        stops = (so.moves, so.back, so.count_is ∙ full);
      }
