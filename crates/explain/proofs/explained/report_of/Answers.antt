use Rattle.std.proofs.Common.{ap, length, refl, subst, ◌∙◌}
use Rattle.explain.specs.FaultLines.{AddsFault}
use Rattle.explain.specs.Faults.{IsDiagnosisIf}
use Rattle.explain.specs.Insides.{HasInsides}
use Rattle.explain.specs.Listings.{IsListed}
use Rattle.explain.specs.Moduli.{modulus_by}
use Rattle.explain.specs.ProfileNotes.{notes_by}
use Rattle.explain.specs.Rules.{front_document}
use Rattle.explain.specs.Wordings.{announced_end, case_by}
use Rattle.explain.proofs.explained.report_of.Goals as goal

pub returns : goal.returns
returns c =
    let front = c.args.disclosed.front.now in
    let lines = c.in_ok-lines.lines.items in
    let insides = c.in_ok-insides.insides.items in
    let elements = c.in_ok-named.named.elements.items in
    record {
      word = c.words_of.ensures.word;
      type_name = c.words_of.ensures.type_name;
      octets = refl;
      answer = refl;
      listing = lines;
      is_listing = record {
        root = c.shape_of-root.result;
        is_shape = c.shape_of-root.ensures;
        elements = elements;
        mismatch = c.in_ok-named.named.mismatch;
        is_named = c.in_ok-named.ensures;
        insides = insides;
        has_insides = subst
            (λ in_extensions.
            HasInsides (record { limits = c.args.limits; in_extensions = in_extensions }) front elements
            (length elements) insides)
            c.is_accepted.ensures
            (subst
            (λ some.
            HasInsides (record { limits = c.args.limits; in_extensions = c.is_accepted.result }) front some
            (length some) insides)
            c.as_slice.ensures.value c.in_ok-insides.ensures);
        listed = subst (λ some. IsListed (front_document c.args.disclosed.answer front elements) some lines)
            c.as_slice-2.ensures.value c.in_ok-lines.ensures;
      };
      lines = subst (λ depth. AddsFault c.args.disclosed.answer depth lines c.push_fault_line.new.lines.items)
          (ap length c.as_slice-3.ensures.value)
          c.in_ok-push_fault_line.ensures;
      diagnosis = subst
          (λ some.
          IsDiagnosisIf c.args.disclosed.answer
          (case_by c.args.disclosed c.shape_of-root.result elements c.in_ok-named.named.mismatch some)
          c.args.disclosed.path.items c.in_ok-diagnosis.diagnosis)
          c.as_slice-4.ensures.value c.in_ok-diagnosis.ensures;
      announced = c.announced_end-announced.ensures ∙ ap announced_end c.as_slice-6.ensures.value;
      guess = refl;
      after = refl;
      notes = c.in_ok-notes.ensures.are ∙ ap (notes_by c.args.profile c.args.disclosed.answer) c.as_slice-5.ensures.value;
      few = c.in_ok-notes.ensures.few;
      modulus = c.modulus_by-modulus.ensures ∙ ap (modulus_by c.args.disclosed.answer) c.as_slice-7.ensures.value;
    }
