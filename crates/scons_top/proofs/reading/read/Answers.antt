use Rattle.scons_top.specs.declared.step.Step.TheVariants as step
use Rattle.scons_top.proofs.Stepping.{stops_exit, sink_at, host_at}
use Rattle.std.proofs.Common.{◌∙◌, [], refl}
use Rattle.report_texts.specs.Texts.{reading_text, read_text}
use Rattle.scons_top.proofs.Printing.{printed_none, read_begun, read_cut, read_exit, read_host, read_nearly, read_such, read_whole}
use Rattle.scons_top.proofs.Watching.{watches_on}
use Rattle.scons_top.proofs.Causing.{same_world, same_out, host_same, exit_step, world_stop, sink_stop, host_end_at, stop_back}
use Rattle.scons_top.proofs.Declaring.{cut_tells, read_declared, read_silent, read_stopped, top_tells}
use Rattle.scons_top.proofs.reading.read.Goals as goal

pub returns-in_err-ask_for_top-clause-steps : goal.returns-in_err-ask_for_top-clause-steps
returns-in_err-ask_for_top-clause-steps g c = λ err. exit_step _ _ c.from_residual.result _ c.from_residual.ensures.1 (world_stop _ _ _ err _ c.in_err-ask_for_top.ensures.step)

pub returns-in_err-say-clause-steps : goal.returns-in_err-say-clause-steps
returns-in_err-say-clause-steps g c = λ err.
    let r = c.from_residual-in_err-say in
    exit_step _ _ r.result _ r.ensures.1 (stop_back _ _ _ _ (same_world _ _ _ err c.in_ok-ask_for_top.ensures.step) (sink_stop _ _ _ err _ c.in_err-say.ensures.step))

pub returns-in_err-graph : goal.returns-in_err-graph
returns-in_err-graph g c = record {
  reading = tt;
  stops = let r = c.from_residual-in_err-graph in stops_exit step.Reading r.result _ r.ensures.1 (host_at _);
  watches = watches_on _ _ _ _ c.ask_for_top.ensures.watches c.graph_of.ensures.watches;
  steps = λ err.
      let r = c.from_residual-in_err-graph in
      let same = same_out _ _ _ err c.in_ok-say.ensures.step ∙ same_world _ _ _ err c.in_ok-ask_for_top.ensures.step in
      exit_step _ _ r.result _ r.ensures.1 (stop_back _ _ _ _ same (host_end_at _ _ _ _ err _ c.in_err-graph.ensures.causes));
  prints =
      let m = g.O.Sink.meaning in
      let said = c.args.words.now in
      let r = c.from_residual-in_err-graph in
      read_such m said step.Reading _ _ _ r.result r.ensures.1 (read_host m said _ _ _ (c.in_ok-say.ensures.prints reading_text c.reading_text.ensures) c.graph_of.ensures.prints);
  reads =
      let r = c.from_residual-in_err-graph in
      read_stopped g.W.Disk.meaning g.O.Sink.meaning c.args.words.now c.args.world.now c.ask_for_top.new.world c.graph_of.new.world c.args.out.now c.say.new.out c.graph_of.new.out
      c.ask_for_top.ensures.watches.looks c.graph_of.ensures.watches.looks (c.in_ok-say.ensures.prints reading_text c.reading_text.ensures) c.graph_of.ensures.prints _ r.result r.ensures.1 c.in_err-graph.ensures.reads;
}

pub returns-in_err-say-2 : goal.returns-in_err-say-2
returns-in_err-say-2 g c = record {
  reading = tt;
  stops = let r = c.from_residual-in_err-say-2 in stops_exit step.Reading r.result _ r.ensures.1 (sink_at step.Reading _ _ _ c.in_err-say-2.ensures.step);
  watches = watches_on _ _ _ _ c.ask_for_top.ensures.watches c.graph_of.ensures.watches;
  steps = λ err.
      let r = c.from_residual-in_err-say-2 in
      let same = host_same _ _ _ _ err c.in_ok-graph.ensures.causes ∙ (same_out _ _ _ err c.in_ok-say.ensures.step ∙ same_world _ _ _ err c.in_ok-ask_for_top.ensures.step) in
      exit_step _ _ r.result _ r.ensures.1 (stop_back _ _ _ _ same (sink_stop _ _ _ err _ c.in_err-say-2.ensures.step));
  prints =
      let m = g.O.Sink.meaning in
      let said = c.args.words.now in
      let r = c.from_residual-in_err-say-2 in
      let h = c.in_err-say-2.ensures.prints read_text c.read_text.ensures in
      read_cut m said step.Reading _ _ r.result _ r.ensures.1 h.0
      (read_nearly m said _ _ _ (read_host m said _ _ _ (c.in_ok-say.ensures.prints reading_text c.reading_text.ensures) c.graph_of.ensures.prints) h.1);
  reads =
      let r = c.from_residual-in_err-say-2 in
      let h = c.in_err-say-2.ensures.prints read_text c.read_text.ensures in
      read_silent g.W.Disk.meaning g.O.Sink.meaning c.args.words.now c.args.world.now _ c.args.out.now _ r.result _ r.ensures.1 (λ Is. cut_tells Is _ h.0);
}

pub returns : goal.returns
returns g c = record {
  reading = tt;
  stops = tt;
  watches = watches_on _ _ _ _ c.ask_for_top.ensures.watches c.graph_of.ensures.watches;
  steps = λ err. same_out _ _ _ err c.in_ok-say-2.ensures.step ∙ (host_same _ _ _ _ err c.in_ok-graph.ensures.causes ∙ (same_out _ _ _ err c.in_ok-say.ensures.step ∙ same_world _ _ _ err c.in_ok-ask_for_top.ensures.step));
  prints =
      let m = g.O.Sink.meaning in
      let said = c.args.words.now in
      read_whole m said _ _ _ (read_host m said _ _ _ (c.in_ok-say.ensures.prints reading_text c.reading_text.ensures) c.graph_of.ensures.prints)
      (c.in_ok-say-2.ensures.prints read_text c.read_text.ensures);
  reads =
      read_declared g.W.Disk.meaning g.O.Sink.meaning c.args.words.now c.args.world.now c.ask_for_top.new.world c.graph_of.new.world c.args.out.now c.say.new.out c.graph_of.new.out
      c.ask_for_top.ensures.watches.looks c.graph_of.ensures.watches.looks (c.in_ok-say.ensures.prints reading_text c.reading_text.ensures) c.graph_of.ensures.prints c.say-2.new.out c.in_ok-graph.graph
      (c.in_ok-say-2.ensures.prints read_text c.read_text.ensures) c.in_ok-graph.ensures.reads;
}

pub returns-in_err-ask_for_top-clause-stops : goal.returns-in_err-ask_for_top-clause-stops
returns-in_err-ask_for_top-clause-stops g c = stops_exit step.Top c.from_residual.result _ c.from_residual.ensures.1 c.in_err-ask_for_top.ensures.stops

pub returns-in_err-say-clause-stops : goal.returns-in_err-say-clause-stops
returns-in_err-say-clause-stops g c = let r = c.from_residual-in_err-say in stops_exit step.Reading r.result _ r.ensures.1 (sink_at step.Reading _ _ _ c.in_err-say.ensures.step)

pub returns-in_err-ask_for_top-clause-prints : goal.returns-in_err-ask_for_top-clause-prints
returns-in_err-ask_for_top-clause-prints g c =
    let m = g.O.Sink.meaning in
    read_exit m c.args.words.now step.Top _ _ _ [] c.from_residual.result c.from_residual.ensures.1 (printed_none m c.args.out.now) refl

pub returns-in_err-say-clause-prints : goal.returns-in_err-say-clause-prints
returns-in_err-say-clause-prints g c =
    let m = g.O.Sink.meaning in
    let said = c.args.words.now in
    let r = c.from_residual-in_err-say in
    let h = c.in_err-say.ensures.prints reading_text c.reading_text.ensures in
    read_cut m said step.Reading _ _ r.result _ r.ensures.1 h.0 (read_begun m said _ _ h.1)

pub returns-in_err-ask_for_top-clause-reads : goal.returns-in_err-ask_for_top-clause-reads
returns-in_err-ask_for_top-clause-reads g c =
    read_silent g.W.Disk.meaning g.O.Sink.meaning c.args.words.now c.args.world.now _ c.args.out.now _ c.from_residual.result _ c.from_residual.ensures.1 (λ Is. top_tells Is _ c.in_err-ask_for_top.ensures.stops)

pub returns-in_err-say-clause-reads : goal.returns-in_err-say-clause-reads
returns-in_err-say-clause-reads g c =
    let r = c.from_residual-in_err-say in
    let h = c.in_err-say.ensures.prints reading_text c.reading_text.ensures in
    read_silent g.W.Disk.meaning g.O.Sink.meaning c.args.words.now c.args.world.now _ c.args.out.now _ r.result _ r.ensures.1 (λ Is. cut_tells Is _ h.0)
