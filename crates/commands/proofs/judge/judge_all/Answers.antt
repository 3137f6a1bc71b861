use Rattle.std.proofs.Common.{ap, map, subst, sym}
use Rattle.std.specs.Option.{option_map}
use Rattle.pk_documents.proofs.DocumentValues.{valued}
use Rattle.commands.specs.Judgements.{Goes, Judges, Listed, Tallied, parts_named, sources_of}
use Rattle.commands.specs.Standards.{seen}
use Rattle.commands.proofs.Judgements.{input_alone, names_alone, none_named, some_named, stops_in_list, stops_in_names, through_list}
use Rattle.commands.proofs.judge.judge_all.Goals as goal

pub returns-then-is_empty : goal.returns-then-is_empty
returns-then-is_empty g c =
    let see =
    seen g.R.Source.remaining g.W.Target.contents g.W.Target.has_failed g.W.Flush.is_flushed g.E.Target.contents
    g.E.Target.has_failed in
    let Step = Judges valued (sources_of g.R.Source.has_failed g.R.Source.remaining g.O.Document.Source.has_failed
    g.O.Document.Source.remaining (g.O.Opener.known c.args.opener.now) (g.O.Opener.refuses c.args.opener.now))
    c.args.task.now in
    input_alone Step (map (λ it. it.now) c.args.names.now) (see c.args.standard.now) (see c.judge_input.new.standard)
    (option_map (λ it. it.now) c.args.list) c.judge_input.result
    (ap (option_map (λ it. it.now)) c.in_default.is)
    (none_named (λ it. it.now) c.args.names.now c.is_empty.result c.if-is_empty.true c.is_empty.ensures)
    c.judge_input.ensures.judges

pub returns-in_default : goal.returns-in_default
returns-in_default g c =
    let see =
    seen g.R.Source.remaining g.W.Target.contents g.W.Target.has_failed g.W.Flush.is_flushed g.E.Target.contents
    g.E.Target.has_failed in
    let Step = Judges valued (sources_of g.R.Source.has_failed g.R.Source.remaining g.O.Document.Source.has_failed
    g.O.Document.Source.remaining (g.O.Opener.known c.args.opener.now) (g.O.Opener.refuses c.args.opener.now))
    c.args.task.now in
    names_alone Step (map (λ it. it.now) c.args.names.now) (see c.args.standard.now) (see c.judge_names.new.standard)
    (option_map (λ it. it.now) c.args.list) c.judge_names.result
    (ap (option_map (λ it. it.now)) c.in_default.is)
    (some_named (λ it. it.now) c.args.names.now c.is_empty.result c.if-is_empty.false c.is_empty.ensures)
    c.judge_names.ensures.goes

pub returns-in_err-first : goal.returns-in_err-first
returns-in_err-first g c =
    let see =
    seen g.R.Source.remaining g.W.Target.contents g.W.Target.has_failed g.W.Flush.is_flushed g.E.Target.contents
    g.E.Target.has_failed in
    let Step = Judges valued (sources_of g.R.Source.has_failed g.R.Source.remaining g.O.Document.Source.has_failed
    g.O.Document.Source.remaining (g.O.Opener.known c.args.opener.now) (g.O.Opener.refuses c.args.opener.now))
    c.args.task.now in
    let names = map (λ it. it.now) c.args.names.now in
    let listed = option_map (λ it. it.now) c.args.list in
    let old = see c.args.standard.now in
    let new = see c.judge_names-2.new.standard in
    stops_in_names Step names old new c.in-Some.list.now listed (ap (option_map (λ it. it.now)) (sym c.in-Some.is))
    c.from_residual.result (sym c.from_residual.ensures)
    (subst (Tallied (Goes Step (parts_named names) old new)) c.in_err-first.was c.judge_names-2.ensures.goes)

pub returns-in_err-last : goal.returns-in_err-last
returns-in_err-last g c =
    let see =
    seen g.R.Source.remaining g.W.Target.contents g.W.Target.has_failed g.W.Flush.is_flushed g.E.Target.contents
    g.E.Target.has_failed in
    let Step = Judges valued (sources_of g.R.Source.has_failed g.R.Source.remaining g.O.Document.Source.has_failed
    g.O.Document.Source.remaining (g.O.Opener.known c.args.opener.now) (g.O.Opener.refuses c.args.opener.now))
    c.args.task.now in
    let names = map (λ it. it.now) c.args.names.now in
    let listed = option_map (λ it. it.now) c.args.list in
    let old = see c.args.standard.now in
    let between = see c.judge_names-2.new.standard in
    let new = see c.judge_list.new.standard in
    stops_in_list Step names old new c.in-Some.list.now listed (ap (option_map (λ it. it.now)) (sym c.in-Some.is))
    between c.in_ok-first.first
    (subst (Tallied (Goes Step (parts_named names) old between)) c.in_ok-first.was c.judge_names-2.ensures.goes)
    c.from_residual-in_err-last.result (sym c.from_residual-in_err-last.ensures)
    (subst (Tallied (Step (Listed c.in-Some.list.now) between new)) c.in_err-last.was c.judge_list.ensures.judges)

pub returns : goal.returns
returns g c =
    let see =
    seen g.R.Source.remaining g.W.Target.contents g.W.Target.has_failed g.W.Flush.is_flushed g.E.Target.contents
    g.E.Target.has_failed in
    let Step = Judges valued (sources_of g.R.Source.has_failed g.R.Source.remaining g.O.Document.Source.has_failed
    g.O.Document.Source.remaining (g.O.Opener.known c.args.opener.now) (g.O.Opener.refuses c.args.opener.now))
    c.args.task.now in
    let names = map (λ it. it.now) c.args.names.now in
    let listed = option_map (λ it. it.now) c.args.list in
    let old = see c.args.standard.now in
    let between = see c.judge_names-2.new.standard in
    let new = see c.judge_list.new.standard in
    through_list Step names old new c.in-Some.list.now listed (ap (option_map (λ it. it.now)) (sym c.in-Some.is))
    between c.in_ok-first.first
    (subst (Tallied (Goes Step (parts_named names) old between)) c.in_ok-first.was c.judge_names-2.ensures.goes)
    c.in_ok-last.last c.with_all.result
    (subst (Tallied (Step (Listed c.in-Some.list.now) between new)) c.in_ok-last.was c.judge_list.ensures.judges)
    c.with_all.ensures
