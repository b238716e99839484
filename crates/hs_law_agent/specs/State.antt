-- What an agent is, as plain lists. It begins with nothing taken and nothing said, and each of its steps leads to the
-- next state.
use Rattle.std.specs.Prelude.{ℕ, Bool, List, [], filter, find, not, Option}
use Rattle.std.specs.List.{list_any}
use Rattle.hs_base.specs.declared.ids.TraceId.{TraceId}
use Rattle.hs_base.specs.declared.told.Group.{Group}
use Rattle.hs_base.specs.declared.told.Crumb.{Crumb}
use Rattle.hs_base.specs.declared.told.Told.{Told}
use Rattle.hs_base.specs.Ids.{same_trace}
use Rattle.hs_records.specs.declared.journal.Step.{Step}
use Rattle.hs_pins.specs.Remembered.{Tried}
pub use Rattle.hs_pins.specs.Remembered.{is_abandoned}
use Rattle.hs_records.specs.Plain.{PlainSettings}
use Rattle.hs_sched.specs.declared.share.Share.{Share}
use Rattle.hs_sched.specs.Turns.{shares_of}
use Rattle.hs_law_agent.specs.Standings.{Taken}

-- a trace that is claimed, for a group with these laterals
pub record ClaimedTrace : Type 0 where
  pub trace : TraceId
  pub group : Group
  pub laterals : List TraceId

-- a buffer that was given back: the place of the chunk that lay in it, and the stamp
pub record GivenPlace : Type 0 where
  pub place : ℕ
  pub stamp : ℕ

pub record AgentState : Type 0 where
  -- the chunks, in the order of arrival
  pub taken : List Taken
  -- the indexed traces, the one touched longest ago first
  pub touched : List TraceId
  -- the traces and nodes of the crumbs that are remembered
  pub crumbs : List Crumb
  -- the claims, in the order in which they were made
  pub claims : List ClaimedTrace
  -- the places of the pinned chunks, the one that was pinned first in front
  pub pinned : List ℕ
  -- the abandoned groups
  pub abandoned : List Group
  -- the triggers, the latest first, and how many of them were admitted
  pub tried : List Tried
  pub admitted : ℕ
  -- the declared trigger ids, rising, each with its weight and its deficit
  pub shares : List Share
  -- the places of the chunks whose buffers are to be given back, the next one first
  pub hand : List ℕ
  -- the buffers that were given back
  pub given : List GivenPlace
  -- the messages to the coordinator
  pub said : List Told
  -- the places of the reported chunks, the one that went out first in front
  pub reported : List ℕ
  -- the steps
  pub log : List Step

abbrev pub start : PlainSettings → AgentState
start settings =
    record {
      taken = [];
      touched = [];
      crumbs = [];
      claims = [];
      pinned = [];
      abandoned = [];
      tried = [];
      admitted = 0;
      shares = shares_of settings.triggers;
      hand = [];
      given = [];
      said = [];
      reported = [];
      log = [];
    }

-- the claim of a trace, where it is claimed
abbrev pub claim_of : List ClaimedTrace → TraceId → Option ClaimedTrace
claim_of claims trace = find (λ claim. same_trace trace claim.trace) claims

abbrev pub is_claimed : List ClaimedTrace → TraceId → Bool
is_claimed claims trace = list_any (λ claim. same_trace trace claim.trace) claims

-- the other traces
abbrev pub without_trace : TraceId → List TraceId → List TraceId
without_trace trace traces = filter (λ t. not (same_trace trace t)) traces

-- the crumbs of the other traces
abbrev pub without_crumbs : TraceId → List Crumb → List Crumb
without_crumbs trace crumbs = filter (λ crumb. not (same_trace trace crumb.trace)) crumbs
