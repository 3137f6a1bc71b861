-- How long the text of an element is that was read.
use Rattle.std.proofs.Common.{◌≡◌, ◌+◌, ◌*◌, ◌≤◌, Bool, List, [], ℕ, Option, refl, length, arith}
use Rattle.tlv_core.specs.Identifier.{Tag}
use Rattle.tlv_core.specs.Limits.{Limits}
use Rattle.tlv_core.specs.declared.reason.Reason.TheVariants.{Missing}
use Rattle.x690.specs.DerTexts.{der}
use Rattle.x690.specs.Points.{Enclosing, fault}
use Rattle.x690.specs.ReadHeaders.{ContainerEnds, ElementStands, next_tag}
use Rattle.x690.specs.ReadTypes.{due_element, read_element, read_type}
use Rattle.x690.specs.Reading.{Fail, ◌>>=◌}
use Rattle.x690.specs.Reads.{Said}
use Rattle.x690.specs.TypeTerms.{TypeTerm}
use Rattle.x690.specs.Values.{Value}
use Rattle.x690_laws.proofs.LengthsOfReadTexts.{read_texts}
use Rattle.ber_pull.specs.Hears.{Hears}
use Rattle.ber_pull.proofs.Hearing.{hears_as, hears_given, hears_then}

pub due_is : (l : Limits) (type : TypeTerm) (c : Enclosing)
    → next_tag l c
    >>= (λ next. elim next [
      | ContainerEnds place ↦ Fail (fault place Missing)
      | ElementStands place tag constructed ↦ read_type l type [] c place tag constructed
    ])
    ≡ read_element l type [] c
unfolding due_element
due_is l type c = refl

-- its text is at most twice as long as the octets that were taken for it
pub element_short : (l : Limits) (type : TypeTerm) (c : Enclosing) (p : ℕ) (tag : Tag) (form : Bool) (v : Value)
    (k j i : ℕ) (t u w : Option (List ℕ))
    → l.octets ≤ 2147483647 → Hears (next_tag l c) k t (Said (ElementStands p tag form)) j u
    → Hears (read_type l type [] c p tag form) j u (Said v) i w → length (der v) + 2 * k ≤ 2 * i
element_short l type c p tag form v k j i t u w h x y =
    let whole = hears_given (read_element l type [] c) v k i t w
    (hears_as _ _ _ _ _ _ _ (due_is l type c)
    (hears_then (next_tag l c) _ (ElementStands p tag form) _ _ _ _ _ _ _ x y)) in
    (read_texts.element l type [] c k whole.0 v i [] (omega arith) whole.2).by_two
