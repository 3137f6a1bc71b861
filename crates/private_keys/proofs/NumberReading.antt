-- Reading an INTEGER that is due into a vector that is used again.
use Rattle.std.proofs.Common.{◌≡◌, List, Err, Ok, Option, Result, ℕ, true}
use Rattle.std.specs.Result.{MatchResult}
use Rattle.tlv_core.specs.Identifier.{Tag}
use Rattle.tlv_core.specs.declared.fault.ReadError.{ReadError}
use Rattle.x690.specs.Contents.{LeafKind}
use Rattle.x690.specs.ReadTypes.{read_type}
use Rattle.x690.specs.Reading.{Reading}
use Rattle.x690.specs.Reads.{Heard, Said}
use Rattle.x690.specs.TypeTerms.{LeafType, fits_tag}
use Rattle.x690.specs.Values.{Same, Value}
use Rattle.x690_laws.proofs.ValuesSame.{equivalence}
use Rattle.ber_pull.specs.Hears.{Hears, heard, heard_error}
use Rattle.ber_pull.specs.Standing.{Standing, enclosing}
use Rattle.ber_pull.specs.declared.state.Given.{Given}
use Rattle.ber_pull.proofs.Hearing.{hears_on}
use Rattle.asn_elements.specs.Reading.{read_given_leaf}

-- a leaf of the type's kind, under its tag
pub leaf_reads : (own : Tag) (kind : LeafKind) (fields : List Value) (s : Standing) (g : Given) (h : Heard Value)
    (k i : ℕ) (o u : Option (List ℕ))
    → fits_tag (LeafType own kind) g.tag ≡ true → Hears (read_given_leaf kind own s g) k o h i u
    → Hears (read_type s.limits (LeafType own kind) fields (enclosing s) g.at g.tag g.constructed) k o h i u
unfolding read_type fits_tag
leaf_reads own kind fields s g h k i o u on x = hears_on _ _ _ h k i o u on x

-- what was heard is that value, or that error
pub value_heard : {T : Type 0} (r : Result T ReadError) (value : T → Value) (p : Reading Value) (k i : ℕ)
    (s u : Option (List ℕ))
    → Hears p k s (heard value r) i u
    → MatchResult r (λ x. (v : Value) × Same v (value x) × Hears p k s (Said v) i u)
    (λ e. Hears p k s (heard_error e) i u)
value_heard (Ok x) value p k i s u h = (value x, equivalence.same_refl (value x), h)
value_heard (Err e) value p k i s u h = h
