-- The lines of a report, one for each element that is shown.
use Rattle.std.specs.Prelude.{Bool, List, None, Option, Some, [], cond, false, length, min, nat_lt, true, unwrap_or, ℕ, ◌+◌, ◌++◌, ◌-◌, ◌^◌, ◌∷◌, ◌≡◌}
use Rattle.std.specs.Bool.{then_some}
use Rattle.std.specs.Option.{option_map}
use Rattle.asn_names.specs.declared.element.NamedElement.{NamedElement}
use Rattle.ber_outline.specs.declared.announced.Announced.{Announced}
use Rattle.ber_outline.specs.declared.event.ElementHeader.{ElementHeader}
use Rattle.explain.specs.Contents.{contents_in}
use Rattle.explain.specs.Public.{ShowsContents}
use Rattle.explain.specs.declared.document.places.Placed.{Placed}
use Rattle.reports.specs.declared.report.Carried.{Carried}
use Rattle.reports.specs.declared.report.Cause.{Cause}
use Rattle.reports.specs.declared.report.Length.{Length}
use Rattle.reports.specs.declared.report.Line.{Line}
use Rattle.reports.specs.declared.report.Value.{Value}
use Rattle.reports.specs.declared.report.Value.TheVariants.{Nothing, Size}

-- What length octets say is shown where they are at most four after their first one.
abbrev pub listed_by_length : ℕ → Option Announced → Option Length
listed_by_length at None = None
listed_by_length at (Some announced) =
    cond (nat_lt 6 (announced.contents - at)) None
    (Some (record { header = announced.contents - at; contents = announced.length }))

abbrev pub listed_length : ElementHeader → Option Length
listed_length header = listed_by_length header.at header.announced

-- where an element ends by its length and by where its contents end: after the two end-of-contents octets, where it is
-- indefinite (X.690 8.1.5)
abbrev pub end_of_announced : Option ℕ → ℕ → ℕ
end_of_announced None end = min (end + 2) (2 ^ 64 - 1)
end_of_announced (Some length) end = end

abbrev pub end_after : Option Announced → ℕ → ℕ
end_after None end = end
end_after (Some announced) end = end_of_announced announced.length end

-- an element's own place, header, tag, form and name
pub record IsHeaderLine (placed : Placed) (element : NamedElement) (line : Line) : Type 0 where
  pub at : line.at ≡ placed.at
  pub inside : line.inside ≡ then_some placed.is_inside element.header.at
  pub depth : line.depth ≡ min (placed.depth + element.header.depth) (2 ^ 64 - 1)
  pub around : line.around ≡ placed.around
  pub step : line.step ≡ element.step
  pub type_name : line.type_name.now ≡ unwrap_or (option_map (λ r. r.now) element.type_name) []
  pub tag : line.tag ≡ element.header.tag
  pub constructed : line.constructed ≡ element.header.constructed
  pub length : line.length ≡ listed_length element.header
  pub end : line.end ≡ placed.end

-- how many octets a private element of constructed form has; of others nothing
abbrev pub size_between : Bool → Option ℕ → Option ℕ → Value
size_between private None end = Nothing
size_between private (Some begin) None = Nothing
size_between private (Some begin) (Some end) = cond private (Size (end - begin)) Nothing

abbrev pub IsListedValueOf : Bool → NamedElement → Option (List ℕ) → Value → Type 0
IsListedValueOf carried element None value = value ≡ size_between element.private element.begin element.end
IsListedValueOf carried element (Some contents) value = ShowsContents carried element contents value

-- What the line of an element says of its contents, in the value of an extension or not.
abbrev pub IsListedValue : Bool → List ℕ → NamedElement → Value → Type 0
IsListedValue carried octets element value = IsListedValueOf carried element (contents_in octets element) value

-- What an element with a cause, and with what the value of an extension is, adds to the lines before: nothing where it is
-- hidden, else its own.
abbrev pub AddsLine : Bool → Bool → List ℕ → Placed → NamedElement → Option Cause → Option Carried → List Line
    → List Line → Type 0
AddsLine true carried octets placed element cause carries old new = new ≡ old
AddsLine false carried octets placed element cause carries old new =
    (line : Line)
    × (new ≡ old ++ (line ∷ []))
    × IsHeaderLine placed element line
    × IsListedValue carried octets element line.value
    × (line.cause ≡ cause)
    × (line.carries ≡ carries)
