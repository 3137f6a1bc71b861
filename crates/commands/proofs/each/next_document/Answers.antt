use Rattle.std.proofs.Common.{[], None, Some, ap, append-nil, drop, rules, subst, sym, take, take-append-drop, true, ◌++◌, ◌∙◌, ◌∷◌, ◌≡◌}
use Rattle.pk_documents.proofs.DocumentValues.{valued}
use Rattle.commands.specs.Each.{IsNext, WentOn, kinds_for, name_in}
use Rattle.commands.proofs.EachSteps.{at_end, goes_further, handed_on, no_memory, not_passed, other_ends, stops_saying, took_next, unread}
use Rattle.commands.proofs.each.next_document.Goals as goal

pub returns-in_default-clause-steps : goal.returns-in_default-clause-steps
returns-in_default-clause-steps g c =
    let is_failed : Type 0 = (source : _) × (g.R.Source.has_failed source ≡ true) in
    λ before old pieces went. (pieces, None, no_memory went is_failed)

pub returns-in_default-name_in-clause-steps : goal.returns-in_default-name_in-clause-steps
returns-in_default-name_in-clause-steps g c =
    let is_failed : Type 0 = (source : _) × (g.R.Source.has_failed source ≡ true) in
    λ before old pieces went. (pieces, None, no_memory went is_failed)

-- ---- a document

pub returns-in_err-further-in-Document-clause-steps : goal.returns-in_err-further-in-Document-clause-steps
returns-in_err-further-in-Document-clause-steps g c =
    let is_failed : Type 0 = (source : _) × (g.R.Source.has_failed source ≡ true) in
    let stream = c.args.stream.now in
    let ahead = c.next_of.new.ahead.items in
    let named : c.as_slice-in-Document.result.now ≡ name_in stream.name.now stream.number stream.at =
    c.as_slice-in-Document.ensures.value ∙ c.in-Ok-name_in.ensures in
    let slice : c.as_slice.result.now ≡ ahead = c.as_slice.ensures.value in
    let count = c.in-Document.count in
    let failed = c.in_err-further-in-Document in
    λ before old pieces went. handed_on _ _ c.from_residual.result failed.field-0.0 (search rules)
    (stops_saying (took_next went c.in-Ok.ensures) is_failed named (take count c.as_slice.result.now)
    (drop count ahead)
    (sym (take-append-drop count ahead) ∙ ap (λ it. take count it ++ drop count ahead) (sym slice))
    (g.W.Target.contents c.say.new.dst) failed.field-0.0 failed.ensures.says)

pub returns-in_err-pass-in-Document-clause-steps : goal.returns-in_err-pass-in-Document-clause-steps
returns-in_err-pass-in-Document-clause-steps g c =
    let is_failed : Type 0 = (source : _) × (g.R.Source.has_failed source ≡ true) in
    let stream = c.args.stream.now in
    let task = c.args.task.now in
    let ahead = c.next_of.new.ahead.items in
    let named : c.as_slice-in-Document.result.now ≡ name_in stream.name.now stream.number stream.at =
    c.as_slice-in-Document.ensures.value ∙ c.in-Ok-name_in.ensures in
    let slice : c.as_slice.result.now ≡ ahead = c.as_slice.ensures.value in
    let count = c.in-Document.count in
    let is =
    subst
    (IsNext task.limits (kinds_for task.kind) (g.R.Source.has_failed c.next_of.new.src)
    (g.R.Source.remaining c.next_of.new.src) ahead) c.in-Document.is c.in-Ok.ensures.is_next in
    let out = c.in_ok-further-in-Document in
    let says = out.ensures.says in
    let failed = c.in_err-pass-in-Document in
    λ before old pieces went. handed_on _ _ c.from_residual-in_err-pass-in-Document.result failed.field-0.0
    (search rules)
    ((
      pieces ++ says.0 ∷ [],
      None,
      not_passed (took_next went c.in-Ok.ensures) is_failed named says.0 says.2
          (g.W.Target.contents c.say.new.dst) out.further.tally out.further.out count is.1
          (says.1 ∙ ap (take count) slice) is.2 says.3 failed.field-0.0 failed.ensures.passes,
    ))

pub returns-in-Document-clause-steps : goal.returns-in-Document-clause-steps
returns-in-Document-clause-steps g c =
    let is_failed : Type 0 = (source : _) × (g.R.Source.has_failed source ≡ true) in
    let contents = g.W.Target.contents c.say.new.dst in
    let stream = c.args.stream.now in
    let task = c.args.task.now in
    let ahead = c.next_of.new.ahead.items in
    let named : c.as_slice-in-Document.result.now ≡ name_in stream.name.now stream.number stream.at =
    c.as_slice-in-Document.ensures.value ∙ c.in-Ok-name_in.ensures in
    let slice : c.as_slice.result.now ≡ ahead = c.as_slice.ensures.value in
    let count = c.in-Document.count in
    let is =
    subst
    (IsNext task.limits (kinds_for task.kind) (g.R.Source.has_failed c.next_of.new.src)
    (g.R.Source.remaining c.next_of.new.src) ahead) c.in-Document.is c.in-Ok.ensures.is_next in
    let out = c.in_ok-further-in-Document in
    let says = out.ensures.says in
    let passed = c.pass.new.stream in
    λ before old pieces went. (
      says.0,
      subst
          (λ left. WentOn valued task stream.name.now before left passed.ahead.items old contents out.further.tally
          out.further.out passed.at passed.number (pieces ++ says.0 ∷ []))
          (sym (ap g.R.Source.remaining c.in_ok-pass-in-Document.ensures.source))
          (goes_further (took_next went c.in-Ok.ensures) is_failed named says.0 says.2 contents out.further.tally
          out.further.out count is.1 (says.1 ∙ ap (take count) slice) is.2 says.3 passed.ahead.items passed.at
          passed.number c.in_ok-pass-in-Document.ensures.passes),
    )

-- ---- none

pub returns-in-End-clause-steps : goal.returns-in-End-clause-steps
returns-in-End-clause-steps g c =
    let is_failed : Type 0 = (source : _) × (g.R.Source.has_failed source ≡ true) in
    let task = c.args.task.now in
    let is =
    subst
    (IsNext task.limits (kinds_for task.kind) (g.R.Source.has_failed c.next_of.new.src)
    (g.R.Source.remaining c.next_of.new.src) c.next_of.new.ahead.items) c.in-End.is c.in-Ok.ensures.is_next in
    λ before old pieces went. (pieces, None, at_end (took_next went c.in-Ok.ensures) is_failed is.1 is.2)

pub returns-in_err-last-in-Other-clause-steps : goal.returns-in_err-last-in-Other-clause-steps
returns-in_err-last-in-Other-clause-steps g c =
    let is_failed : Type 0 = (source : _) × (g.R.Source.has_failed source ≡ true) in
    let stream = c.args.stream.now in
    let named : c.as_slice-in-Other.result.now ≡ name_in stream.name.now stream.number stream.at =
    c.as_slice-in-Other.ensures.value ∙ c.in-Ok-name_in.ensures in
    let octets = c.as_slice-octets.result.now in
    let failed = c.in_err-last-in-Other in
    λ before old pieces went. handed_on _ _ c.from_residual-in_err-last-in-Other.result failed.field-0.0
    (search rules)
    (stops_saying (took_next went c.in-Ok.ensures) is_failed named octets []
    (sym c.as_slice-octets.ensures.value ∙ sym (append-nil octets)) (g.W.Target.contents c.say-in-Other.new.dst)
    failed.field-0.0 failed.ensures.says)

pub returns-in-Other-clause-steps : goal.returns-in-Other-clause-steps
returns-in-Other-clause-steps g c =
    let is_failed : Type 0 = (source : _) × (g.R.Source.has_failed source ≡ true) in
    let stream = c.args.stream.now in
    let task = c.args.task.now in
    let named : c.as_slice-in-Other.result.now ≡ name_in stream.name.now stream.number stream.at =
    c.as_slice-in-Other.ensures.value ∙ c.in-Ok-name_in.ensures in
    let is =
    subst
    (IsNext task.limits (kinds_for task.kind) (g.R.Source.has_failed c.next_of.new.src)
    (g.R.Source.remaining c.next_of.new.src) c.next_of.new.ahead.items) c.in-Other.is c.in-Ok.ensures.is_next in
    let out = c.in_ok-last-in-Other in
    let says = out.ensures.says in
    λ before old pieces went. (
      pieces,
      Some says.0,
      other_ends (took_next went c.in-Ok.ensures) is_failed named says.0 says.2
          (g.W.Target.contents c.say-in-Other.new.dst) out.last.tally out.last.out
          (says.1 ∙ c.as_slice-octets.ensures.value) is.1 says.3,
    )

pub returns-clause-steps : goal.returns-clause-steps
returns-clause-steps g c =
    let is_failed : Type 0 = (source : _) × (g.R.Source.has_failed source ≡ true) in
    let task = c.args.task.now in
    let is =
    subst
    (IsNext task.limits (kinds_for task.kind) (g.R.Source.has_failed c.next_of.new.src)
    (g.R.Source.remaining c.next_of.new.src) c.next_of.new.ahead.items) c.in-Unread.is c.in-Ok.ensures.is_next in
    λ before old pieces went. (
      pieces,
      None,
      unread (took_next went c.in-Ok.ensures) is_failed (c.next_of.new.src, is),
    )
