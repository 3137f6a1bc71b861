use Rattle.std.proofs.Common.{◌∙◌, ap}
use Rattle.reports.specs.Listings.{place_width}
use Rattle.reports.proofs.text_listing.place_columns.Goals as goal

pub returns-in-Some : goal.returns-in-Some
returns-in-Some c = c.digits.ensures ∙ ap place_width c.in-Some.ensures.value

pub returns-in-None : goal.returns-in-None
returns-in-None c = ap place_width c.in-None.ensures.value
