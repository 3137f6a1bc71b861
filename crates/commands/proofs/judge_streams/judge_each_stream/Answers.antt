use Rattle.std.proofs.Common.{[], ◌++◌, get_or, map, subst, sym}
use Rattle.pk_documents.proofs.DocumentValues.{valued}
use Rattle.commands.specs.JudgedStreams.{JudgesStreams}
use Rattle.commands.specs.Judgements.{Goes, Tallied, part_of, sources_of}
use Rattle.commands.specs.Standards.{seen}
use Rattle.commands.proofs.Judgements.{goes_all, goes_on, stops_here, stops_later}
use Rattle.commands.proofs.judge_streams.judge_each_stream.Goals as goal

pub loop-name-init : goal.loop-name-init
loop-name-init g c = record {
  through = ([], c.new-tally.ensures, λ new last goes. goes);
  stops = λ new stops. stops;
  readable = c.requires.readable;
  writable = c.requires.writable;
}

pub loop-name-preserved : goal.loop-name-preserved
loop-name-preserved g c =
    let see =
    seen g.R.Source.remaining g.W.Target.contents g.W.Target.has_failed g.W.Flush.is_flushed g.E.Target.contents
    g.E.Target.has_failed in
    let Step = JudgesStreams valued (sources_of g.R.Source.has_failed g.R.Source.remaining g.O.Document.Source.has_failed
    g.O.Document.Source.remaining (g.O.Opener.known c.args.opener.now) (g.O.Opener.refuses c.args.opener.now))
    c.args.task.now in
    let names = c.args.names.now in
    let index = c.loop-name.name-index in
    let judged = c.judge_named_stream in
    let this = part_of (get_or names index (record { ref_ptr = (0, 0); now = [] })).now in
    let step = subst (Tallied (Step this (see c.loop-name.standard) (see judged.new.standard))) c.in_ok-next.was
    judged.ensures.judges in
    let before = c.loop-name.invariant.through in
    record {
      through = (
        before.0 ++ step.0,
        c.with_all-tally.ensures before.0 step.0 before.1 step.2,
        goes_on Step (λ it. it.now) names index (record { ref_ptr = (0, 0); now = [] }) c.loop-name-test.true
            (see c.args.standard.now) (see c.loop-name.standard) (see judged.new.standard) before.0 step.0 before.2 step.1,
      );
      stops = stops_later Step (λ it. it.now) names index (record { ref_ptr = (0, 0); now = [] }) c.loop-name-test.true
          (see c.args.standard.now) (see c.loop-name.standard) (see judged.new.standard)
          c.loop-name.invariant.stops step.0 step.1;
      readable = judged.ensures.readable;
      writable = c.in_ok-next.ensures.writable;
    }

pub returns-in_err-next : goal.returns-in_err-next
returns-in_err-next g c =
    let see =
    seen g.R.Source.remaining g.W.Target.contents g.W.Target.has_failed g.W.Flush.is_flushed g.E.Target.contents
    g.E.Target.has_failed in
    let Step = JudgesStreams valued (sources_of g.R.Source.has_failed g.R.Source.remaining g.O.Document.Source.has_failed
    g.O.Document.Source.remaining (g.O.Opener.known c.args.opener.now) (g.O.Opener.refuses c.args.opener.now))
    c.args.task.now in
    let names = c.args.names.now in
    let index = c.loop-name.name-index in
    let this = part_of (get_or names index (record { ref_ptr = (0, 0); now = [] })).now in
    let all = map part_of (map (λ it. it.now) names) in
    let old = see c.args.standard.now in
    let new = see c.judge_named_stream.new.standard in
    let step =
    subst (Tallied (Step this (see c.loop-name.standard) new)) c.in_err-next.was c.judge_named_stream.ensures.judges in
    subst (Tallied (Goes Step all old new)) (sym c.from_residual.ensures)
    (stops_here Step (λ it. it.now) names index (record { ref_ptr = (0, 0); now = [] }) c.loop-name-test.true old
    (see c.loop-name.standard) new c.loop-name.invariant.stops step)

pub returns : goal.returns
returns g c =
    let see =
    seen g.R.Source.remaining g.W.Target.contents g.W.Target.has_failed g.W.Flush.is_flushed g.E.Target.contents
    g.E.Target.has_failed in
    let Step = JudgesStreams valued (sources_of g.R.Source.has_failed g.R.Source.remaining g.O.Document.Source.has_failed
    g.O.Document.Source.remaining (g.O.Opener.known c.args.opener.now) (g.O.Opener.refuses c.args.opener.now))
    c.args.task.now in
    let before = c.loop-name.invariant.through in (
      before.0,
      goes_all Step (λ it. it.now) c.args.names.now c.loop-name.name-index (see c.args.standard.now)
          (see c.loop-name.standard) before.0 before.2 c.loop-name-test.false,
      before.1,
    )
