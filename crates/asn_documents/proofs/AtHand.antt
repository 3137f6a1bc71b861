-- A value that stands in DER in octets at hand.
use Rattle.std.proofs.Common.{◌≡◌, ◌∙◌, ◌+◌, ◌++◌, ◌-◌, ◌≤◌, List, Option, [], ap, arith, length, subst, sym, take, ℕ}
use Rattle.std.proofs.lemmas.List.{length-append, take_at}
use Rattle.std.specs.Io.KnownBytes.{Consumes}
use Rattle.tlv_core.specs.Limits.{Limits}
use Rattle.x690.specs.Answers.{Spelled, answer}
use Rattle.x690.specs.DerTexts.{der}
use Rattle.x690.specs.Fitting.{Spells}
use Rattle.x690.specs.Premises.{Lawful}
use Rattle.x690.specs.TypeTerms.{TypeTerm}
use Rattle.x690.specs.Values.{Value}
use Rattle.x690_laws.proofs.AnswersOfDocuments.{spelling_is_answered}
use Rattle.x690_laws.proofs.ValuesSame.{equivalence}
use Rattle.asn_elements.specs.InDer.{BeginsInDer, StandsInDer}
use Rattle.asn_documents.specs.AtHand.{StandsAtHand}
use Rattle.asn_documents.specs.ReadValues.{ReadsValue}
use Rattle.asn_documents.proofs.ReadValues.{is_answer}

spells_in_der : (l : Limits) (inner : ℕ) (T : TypeTerm) (v : Value) (octets rest : List ℕ) → inner + 1 ≤ l.depth
    → StandsInDer l.depth inner T [] v octets rest → length (der v) ≤ l.octets → Spells l T v (der v)
spells_in_der l inner T v octets rest deep s within = record {
  tree = s.tree;
  depth_fits = omega (arith, s.depth_fits);
  laid_out = s.laid_out;
  fits = s.fits;
  octets_fit = within;
  text_fits = within;
}

pub stands_at_hand : (l : Limits) (inner : ℕ) (T : TypeTerm) (octets rest : List ℕ) (taken : ℕ) → inner + 1 ≤ l.depth
    → BeginsInDer l.depth inner T octets rest → taken ≡ length octets - length rest → taken ≤ l.octets
    → StandsAtHand l T octets taken
stands_at_hand l inner T octets rest taken deep b count most =
    let v = b.0 in
    let s = b.1 [] in
    let whole : length octets ≡ length (der v) + length rest = ap length s.is ∙ length-append (der v) rest in
    let many : length (der v) ≡ taken = omega (arith, whole, count) in
    record {
      value = v;
      within = omega (arith, count);
      text = ap (take taken) s.is ∙ take_at (der v) rest taken many;
      many = many;
      spells = spells_in_der l inner T v octets rest deep s (omega (arith, many, most));
    }

-- what reading it answers
unfoldable pub reads_at_hand : (l : Limits) (T : TypeTerm) (octets : List ℕ) (before after : Option (List ℕ)) (taken : ℕ)
    → Lawful T → (s : StandsAtHand l T octets taken) → Consumes before after (take taken octets)
    → ReadsValue l T s.value before after taken
reads_at_hand l T octets before after taken lawful s takes =
    let v = s.value in
    let answers : (more : List ℕ) → answer l T (der v ++ more) ≡ Spelled (der v) taken =
    λ more. spelling_is_answered l T v (der v) more lawful.fair s.spells ∙ ap (Spelled (der v)) s.many in
    record {
      octets = der v;
      takes = subst (Consumes before after) s.text takes;
      taken_are = sym s.many;
      spelled = v;
      spells = s.spells;
      same = equivalence.same_refl v;
      is_answer = λ more. is_answer l T (der v ++ more) (Spelled (der v) taken) (answers more);
      answers = answers;
    }
