-- How long the DER texts of values are that were read.
use Rattle.std.proofs.Common.{◌≡◌, ℕ, ◌+◌, ◌<◌, Bool, List, [], ◌∷◌, ◌++◌, length, sym, subst, arith}
use Rattle.std.proofs.lemmas.List.{length-append}
use Rattle.tlv_core.specs.Identifier.{Tag, identifier}
use Rattle.tlv_core.specs.Limits.{Limits}
use Rattle.x690_laws.proofs.GrowthBounds.{growth_by_two}
use Rattle.x690_laws.proofs.ReadingOfElements.{sound}
use Rattle.x690_laws.proofs.ReadingLayoutsSound.{Laid}
use Rattle.x690_laws.proofs.ReadingSound.{type_took, open_took}
use Rattle.x690.specs.DerTexts.{der, texts_of}
use Rattle.x690.specs.Fitting.{Fits}
use Rattle.x690.specs.Layouts.{LaidOut, RawTree}
use Rattle.x690.specs.OpenValues.{FitsOpen}
use Rattle.x690.specs.Points.{Enclosing, outermost}
use Rattle.x690.specs.ReadTypes.{read_document, read_element}
use Rattle.x690.specs.Reading.{Took, run}
use Rattle.x690.specs.TypeTerms.{OpenType, TypeTerm}
use Rattle.x690.specs.Values.{Value}
use Rattle.x690_laws.specs.GrowthLaws.{ReadTexts, ShortText, TakenTexts}

-- octets from place to place that lay out a tree of the type
pub laid_text : (d : ℕ) (T : TypeTerm) (earlier : List Value) (r : RawTree) (v : Value) (b : List ℕ) (start stop : ℕ)
    → start + length b ≡ stop → stop < 2147483648 → LaidOut r b → Fits d T earlier r v → ShortText v start stop
laid_text d T earlier r v b start stop e h l f =
    let two = growth_by_two d T earlier r v b (omega arith) l f in
    record { by_two = omega arith; below = omega arith }

behind_text : (l : Limits) (T : TypeTerm) (earlier : List Value) (c : Enclosing) (p : ℕ) (t : Tag) (form : Bool) (k : ℕ)
    (s : List ℕ) (v : Value) (q : ℕ) (rest : List ℕ)
    → l.octets < 2147483648 → p + length (identifier t form) ≡ k
    → Laid l c k s t form (λ x. Fits l.depth T earlier x v) q rest → ShortText v p q
behind_text l T earlier c p t form k s v q rest h e m =
    laid_text l.depth T earlier m.tree v (identifier t form ++ m.octets) p q
    (omega (arith, m.place, length-append (identifier t form) m.octets))
    (let w = m.within in omega arith) m.laid_out m.fact

open_fits : (l : Limits) (c : Enclosing) (k : ℕ) (s : List ℕ) (t : Tag) (form : Bool) (v : Value) (q : ℕ)
    (rest : List ℕ)
    → Laid l c k s t form (λ x. FitsOpen x v) q rest → Laid l c k s t form (λ x. Fits l.depth OpenType [] x v) q rest
unfolding Fits
open_fits l c k s t form v q rest m = m

pub taken_texts : TakenTexts
taken_texts l T earlier c k s v n rest h t =
    laid_text l.depth T earlier t.tree v t.octets k (k + n) (omega (arith, t.count))
    (omega (arith, t.in_limit)) t.laid_out t.fits

element_text : (l : Limits) (T : TypeTerm) (earlier : List Value) (c : Enclosing) (k : ℕ) (s : List ℕ) (v : Value)
    (q : ℕ) (rest : List ℕ)
    → l.octets < 2147483648 → run (read_element l T earlier c) k s ≡ Took v q rest → ShortText v k q
element_text l T earlier c k s v q rest h e =
    let m = sound l T earlier c k s v q rest e in
    subst (ShortText v k) (sym m.1) (taken_texts l T earlier c k s v m.0 rest h m.2)

pub read_texts : ReadTexts
unfolding read_document
read_texts = record {
  element = element_text;
  document = λ l T b v n rest h e. element_text l T [] outermost 0 b v n rest h e;
  behind = λ l T earlier c p t form k s v q rest h g d e m.
      behind_text l T earlier c p t form k s v q rest h e (type_took l T earlier c v p t form k s q rest g d m);
  open_behind = λ l deep c p t form k s v q rest h g d e m.
      behind_text l OpenType [] c p t form k s v q rest h e
      (open_fits l c k s t form v q rest (open_took deep l c v p t form k s q rest g d m));
}

-- for readers that answer what a plain reading gives

-- one more value after those that were read: with `ShortText`, what a loop over members keeps
pub texts_pushed : (vs : List Value) (v : Value)
    → length (texts_of (vs ++ (v ∷ []))) ≡ length (texts_of vs) + length (der v)
texts_pushed [] v = omega (arith, length-append (der v) [])
texts_pushed (w ∷ vs) v = omega
    (arith, texts_pushed vs v, length-append (der w) (texts_of vs), length-append (der w) (texts_of (vs ++ (v ∷ []))))
