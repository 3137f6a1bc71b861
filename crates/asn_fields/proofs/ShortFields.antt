-- How long the text of a field is that was read.
use Rattle.std.proofs.Common.{◌<◌, ◌^◌, Bool, List, [], ℕ, IfSome, None, Some, Option, ap, length, arith}
use Rattle.tlv_core.specs.Identifier.{Tag}
use Rattle.tlv_core.specs.Limits.{Limits}
use Rattle.x690.specs.DerTexts.{der}
use Rattle.x690.specs.Points.{Enclosing}
use Rattle.x690.specs.ReadHeaders.{ElementStands, next_tag}
use Rattle.x690.specs.ReadTypes.{read_type}
use Rattle.x690.specs.Reads.{Said}
use Rattle.x690.specs.TypeTerms.{TypeTerm}
use Rattle.x690.specs.Values.{Same, Value}
use Rattle.x690_laws.proofs.ReadingHeadersSound.{next_took}
use Rattle.x690_laws.proofs.LengthsOfReadTexts.{read_texts}
use Rattle.x690_laws.proofs.TextsAsLayouts.{canonical}
use Rattle.asn_fields.specs.Insides.{BeginsBefore}
use Rattle.ber_pull.specs.Hears.{Hears, next_at}
use Rattle.ber_pull.specs.Standing.{IsGiven, Standing, enclosing}
use Rattle.ber_pull.proofs.Hearing.{hears_given}

pub begins_here : (l : Limits) (c : Enclosing) (k p : ℕ) (n : Option (Tag × Bool)) (s : Standing)
    (o u : Option (List ℕ))
    → Hears (next_tag l c) k o (Said (next_at p n)) s.taken u → IfSome n (λ t. IsGiven t.0 s)
    → BeginsBefore s (next_at p n)
begins_here l c k p None s o u x fits = tt
begins_here l c k p (Some t) s o u x fits =
    let given = hears_given (next_tag l c) (ElementStands p t.0 t.1) k s.taken o u x in
    let next = next_took l c k given.0 (ElementStands p t.0 t.1) s.taken [] given.2 in
    (fits, (let at = next.at in let place = next.place in omega arith))

-- after any earlier fields
pub field_short : (T : TypeTerm) (earlier : List Value) (s : Standing) (p : ℕ) (t : Tag) (form : Bool)
    (v w : Value) (q : ℕ) (o u : Option (List ℕ))
    → BeginsBefore s (ElementStands p t form)
    → Hears (read_type s.limits T earlier (enclosing s) p t form) s.taken o (Said v) q u → Same v w
    → length (der w) < 2 ^ 32
field_short T earlier s p t form v w q o u b x same =
    let given = hears_given (read_type s.limits T earlier (enclosing s) p t form) v s.taken q o u x in
    let fits = b.0 in
    let few = fits.octets_fit in
    let short = read_texts.behind s.limits T earlier (enclosing s) p t form s.taken given.0 v q []
    (omega arith) fits.is_tag fits.depth_fits b.1 given.2 in
    let is = ap length (canonical v w same) in
    let below = short.below in
    omega arith
