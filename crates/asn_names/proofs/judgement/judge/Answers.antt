use Rattle.std.proofs.Common.{◌≡◌, ◌∙◌, ◌++◌, Some, [], ap, false, subst, sym, true, ℕ}
use Rattle.x690.specs.DerTexts.{der}
use Rattle.x690.specs.Points.{outermost}
use Rattle.x690.specs.ReadTypes.{read_element}
use Rattle.ber_pull.specs.Hears.{Hears, heard_error}
use Rattle.asn_elements.proofs.Insides.{none_left, some_left}
use Rattle.pkix_shapes.specs.Terms.{term_of}
use Rattle.asn_names.specs.Judged.{judged}
use Rattle.asn_names.specs.declared.judgement.Judgement.TheVariants.{Refused}
use Rattle.asn_names.proofs.Judging.{judged_more, judged_refused, judged_whole}
use Rattle.asn_names.proofs.judgement.judge.Goals as goal

pub returns-in-Err-Fault : goal.returns-in-Err-Fault
returns-in-Err-Fault c =
    let l = c.args.limits in
    let T = term_of c.args.shape.now in
    let octets = c.args.octets.now in
    let left = c.read_shaped.new.src.now in
    let read =
    subst (λ e. (k : ℕ) × Hears (read_element l T [] outermost) 0 (Some octets) (heard_error e) k (Some left))
    c.in-Err-Fault.field-0-is c.in-Err-Fault.ensures.reads in
    let h : Refused c.in-Err-Fault.fault ≡ judged l T octets =
    judged_refused l T octets c.in-Err-Fault.fault read.0 (Some left) read.1 in
    let is = c.in-Err-Fault.fault-is in
    cc

pub returns-then-not-is_empty : goal.returns-then-not-is_empty
returns-then-not-is_empty c =
    let read = c.in-Ok.ensures.reads in
    judged_more c.args.limits (term_of c.args.shape.now) c.args.octets.now _ read.0 _
    (some_left _ (sym c.if-not-is_empty.true ∙ c.is_empty.ensures)) read.2

pub returns-then-eq : goal.returns-then-eq
returns-then-eq c =
    let read = c.in-Ok.ensures.reads in
    judged_whole c.args.limits (term_of c.args.shape.now) c.args.octets.now _ c.as_slice.result.now read.0 _ true
    (none_left _ (sym c.if-not-is_empty.false ∙ c.is_empty.ensures))
    (c.as_slice.ensures.value ∙ (read.1 ∙ ap (λ z. z ++ der read.0) c.new-text.ensures.items))
    (sym c.if-eq.true ∙ c.eq.ensures) read.2

pub returns : goal.returns
returns c =
    let read = c.in-Ok.ensures.reads in
    judged_whole c.args.limits (term_of c.args.shape.now) c.args.octets.now _ c.as_slice.result.now read.0 _ false
    (none_left _ (sym c.if-not-is_empty.false ∙ c.is_empty.ensures))
    (c.as_slice.ensures.value ∙ (read.1 ∙ ap (λ z. z ++ der read.0) c.new-text.ensures.items))
    (sym c.if-eq.false ∙ c.eq.ensures) read.2
