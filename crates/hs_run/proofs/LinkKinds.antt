-- The three kinds of links of a client.
use Rattle.std.proofs.Common.{ℕ, sym, ap, ◌∙◌, filter}
use Rattle.hs_run.proofs.Prelude.{length-map, Incoming, Key, PlainClient, Port, PlainWorkload, Leased, Buffer, crumbs_in, triggers_in, NodeWork, is_of, came_of}
use Rattle.hs_base.specs.declared.told.Crumb.{Crumb}
use Rattle.hs_base.specs.declared.told.Trigger.{Trigger}
use Rattle.hs_run_actors.specs.Intakes.{linked}
use Rattle.hs_run.proofs.Links.{Kind}

module _ (W : PlainWorkload) (node client : ℕ) where
  abbrev pub chunk_links : Kind (Buffer Leased) W node client
  chunk_links =
      record {
        ends = λ (p : Port). p.chunks;
        sender = λ (c : PlainClient). c.chunks;
        got = came_of client;
        received = λ work port has r end. has.chunks client r end;
        each = λ work pass came old new passes. passes.chunks;
        flushed = λ ops old new goes. goes.chunks;
        met = λ port port' old new met. met.chunks;
        long = λ work site stands. sym (length-map site.agent.port.chunks (λ (r : Incoming (Buffer Leased) Key). linked r)) ∙ stands.agent.stands.lines_are.chunks.count;
        same = λ old new same. ap (filter (is_of client)) same.came;
      }

  abbrev pub crumb_links : Kind Crumb W node client
  crumb_links =
      record {
        ends = λ (p : Port). p.crumbs;
        sender = λ (c : PlainClient). c.crumbs;
        got = λ (work : NodeWork). crumbs_in client work.events;
        received = λ work port has r end. has.crumbs client r end;
        each = λ work pass came old new passes. passes.crumbs;
        flushed = λ ops old new goes. goes.crumbs;
        met = λ port port' old new met. met.crumbs;
        long = λ work site stands. sym (length-map site.agent.port.crumbs (λ (r : Incoming Crumb Key). linked r)) ∙ stands.agent.stands.lines_are.crumbs.count;
        same = λ old new same. ap (crumbs_in client) same.events;
      }

  abbrev pub trigger_links : Kind Trigger W node client
  trigger_links =
      record {
        ends = λ (p : Port). p.triggers;
        sender = λ (c : PlainClient). c.triggers;
        got = λ (work : NodeWork). triggers_in client work.events;
        received = λ work port has r end. has.triggers client r end;
        each = λ work pass came old new passes. passes.triggers;
        flushed = λ ops old new goes. goes.triggers;
        met = λ port port' old new met. met.triggers;
        long = λ work site stands. sym (length-map site.agent.port.triggers (λ (r : Incoming Trigger Key). linked r)) ∙ stands.agent.stands.lines_are.triggers.count;
        same = λ old new same. ap (triggers_in client) same.events;
      }
