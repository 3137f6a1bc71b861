-- The plain reading of a leaf, by the calls of a pull reader.
use Rattle.std.proofs.Common.{◌≡◌, ◌∙◌, ◌&&◌, not, Bool, true, false, List, [], ◌∷◌, ℕ, None, refl, ap, append-nil}
use Rattle.tlv_core.specs.Identifier.{Tag}
use Rattle.tlv_core.specs.Limits.{Limits}
use Rattle.tlv_core.specs.declared.reason.Reason.TheVariants.{BadBits, BadText, WrongForm}
use Rattle.x690.specs.Contents.{BitString, LeafKind, OctetString, Utf8String, bit_contents, bit_octets, clear_unused, unused_bits}
use Rattle.x690.specs.Lists.{join}
use Rattle.x690.specs.Points.{Enclosing, fault}
use Rattle.x690.specs.ReadContents.{bad_contents, der_contents, is_bit_segment, is_contents, is_next_segment, read_leaf, read_segment, segment_tag}
use Rattle.x690.specs.ReadHeaders.{each_member, in_container, primitive_contents}
use Rattle.x690.specs.Reading.{Done, Reading, require, run, ◌>>=◌}
use Rattle.x690.specs.Values.{Leaf, Value}
use Rattle.ber_pull.specs.Calls.{read_bits, read_octets, read_primitive, read_segments}
use Rattle.ber_pull.specs.Standing.{Standing, enclosing}
use Rattle.ber_pull.specs.declared.state.Given.{Given}
use Rattle.x690.proofs.Runs.{bind_assoc, bind_same}
use Rattle.asn_elements.specs.Reading.{read_given_leaf, string_kind}

-- what the contents of a primitive leaf are
abbrev pub judged : LeafKind → Tag → ℕ → List ℕ → Reading Value
judged kind own place contents =
    require (is_contents kind contents) (fault place (bad_contents kind)) (Done (Leaf own (der_contents kind contents)))

primitive_is : (kind : LeafKind) (own : Tag) (l : Limits) (c : Enclosing) (p : ℕ) (form : Bool)
    → (form ≡ true → segment_tag kind ≡ None)
    → require (not form) (fault p WrongForm) (primitive_contents l c p) >>= judged kind own p
    ≡ read_leaf l c kind p own form
unfolding read_leaf require ◌>>=◌
primitive_is kind own l c p false h = refl
primitive_is kind own l c p true h = let always = h refl in rw (always, read_leaf) refl

-- of one that is primitive, or of a kind that always is
pub leaf_is : (kind : LeafKind) (own : Tag) (s : Standing) (g : Given)
    → (g.constructed ≡ true → segment_tag kind ≡ None)
    → read_primitive s g >>= judged kind own g.at ≡ read_given_leaf kind own s g
unfolding read_primitive
leaf_is kind own s g h = primitive_is kind own s.limits (enclosing s) g.at g.constructed h

-- the segments of a string: of one that is primitive, or of those in it
abbrev pub segments_in : ℕ → Limits → Enclosing → ℕ → Reading (List (List ℕ))
segments_in number l c p =
    in_container l c p true (λ inside. each_member (read_segment l.depth l number inside) l.octets l inside [])
    >>= λ ended. Done ended.all

abbrev pub segment_alone : ℕ → Limits → Enclosing → ℕ → Reading (List (List ℕ))
segment_alone number l c p =
    primitive_contents l c p >>= λ o. require (is_next_segment number [] o) (fault p BadBits) (Done (o ∷ []))

-- a BIT STRING
abbrev pub bits_leaf : Tag → ℕ × List ℕ → Reading Value
bits_leaf own bits = Done (Leaf own (bits.0 ∷ bits.1))

abbrev bits_of : List (List ℕ) → Reading (ℕ × List ℕ)
bits_of o = Done (unused_bits o, clear_unused (unused_bits o) (bit_octets o))

alone_bits : (own : Tag) (p : ℕ) (b : Bool) (o : List ℕ) (k : ℕ) (s : List ℕ)
    → run (require (b && true) (fault p BadBits) (Done (o ∷ [])) >>= λ z. bits_of z >>= bits_leaf own) k s
    ≡ run (require b (fault p BadBits) (Done (Leaf own (bit_contents (o ∷ []))))) k s
unfolding require ◌>>=◌ run
alone_bits own p true o k s = refl
alone_bits own p false o k s = refl

joined_bits : (own : Tag) (p : ℕ) (z : List (List ℕ)) (k : ℕ) (s : List ℕ)
    → run (Done z >>= λ y. bits_of y >>= bits_leaf own) k s
    ≡ run (require true (fault p BadText) (Done (Leaf own (bit_contents z)))) k s
unfolding require ◌>>=◌
joined_bits own p z k s = refl

bits_is : (own : Tag) (l : Limits) (c : Enclosing) (p : ℕ) (form : Bool) (k : ℕ) (s : List ℕ)
    → run (elim form [ false ↦ segment_alone 3 l c p | true ↦ segments_in 3 l c p ] >>= bits_of >>= bits_leaf own) k s
    ≡ run (read_leaf l c BitString p own form) k s
unfolding read_leaf
bits_is own l c p false k s =
    bind_assoc (segment_alone 3 l c p) bits_of (bits_leaf own) k s
    ∙ bind_assoc (primitive_contents l c p) (λ o. require (is_next_segment 3 [] o) (fault p BadBits) (Done (o ∷ [])))
    (λ z. bits_of z >>= bits_leaf own) k s
    ∙ bind_same (primitive_contents l c p) _ _ (λ o. alone_bits own p (is_bit_segment o) o) k s
bits_is own l c p true k s =
    bind_assoc (segments_in 3 l c p) bits_of (bits_leaf own) k s
    ∙ bind_assoc
    (in_container l c p true (λ inside. each_member (read_segment l.depth l 3 inside) l.octets l inside []))
    (λ ended. Done ended.all) (λ z. bits_of z >>= bits_leaf own) k s
    ∙ bind_same
    (in_container l c p true (λ inside. each_member (read_segment l.depth l 3 inside) l.octets l inside [])) _ _
    (λ ended. joined_bits own p ended.all) k s

pub bits_leaf_is : (own : Tag) (s : Standing) (g : Given) (k : ℕ) (o : List ℕ)
    → run (read_bits s g >>= bits_leaf own) k o ≡ run (read_given_leaf BitString own s g) k o
unfolding read_bits read_segments
bits_leaf_is own s g k o = bits_is own s.limits (enclosing s) g.at g.constructed k o

-- the octets of a string, and UTF-8 where they have to be
abbrev pub octets_leaf : LeafKind → Tag → ℕ → List ℕ → Reading Value
octets_leaf kind own p o = require (is_contents kind o) (fault p BadText) (Done (Leaf own o))

alone_octets : (kind : LeafKind) (own : Tag) (p : ℕ) (o : List ℕ) (k : ℕ) (s : List ℕ)
    → run (require true (fault p BadBits) (Done (o ∷ [])) >>= λ z. Done (join z) >>= octets_leaf kind own p) k s
    ≡ run (octets_leaf kind own p o) k s
unfolding require ◌>>=◌
alone_octets kind own p o k s = ap (λ z. run (octets_leaf kind own p z) k s) (append-nil o)

joined_octets : (kind : LeafKind) (own : Tag) (p : ℕ) (z : List (List ℕ)) (k : ℕ) (s : List ℕ)
    → run (Done z >>= λ y. Done (join y) >>= octets_leaf kind own p) k s ≡ run (octets_leaf kind own p (join z)) k s
unfolding ◌>>=◌
joined_octets kind own p z k s = refl

octets_is : (own : Tag) (l : Limits) (c : Enclosing) (p : ℕ) (form : Bool) (k : ℕ) (s : List ℕ)
    → run (elim form [ false ↦ segment_alone 4 l c p | true ↦ segments_in 4 l c p ] >>= (λ z. Done (join z))
    >>= octets_leaf OctetString own p) k s
    ≡ run (read_leaf l c OctetString p own form) k s
unfolding read_leaf
octets_is own l c p false k s =
    bind_assoc (segment_alone 4 l c p) (λ z. Done (join z)) (octets_leaf OctetString own p) k s
    ∙ bind_assoc (primitive_contents l c p) (λ o. require (is_next_segment 4 [] o) (fault p BadBits) (Done (o ∷ [])))
    (λ z. Done (join z) >>= octets_leaf OctetString own p) k s
    ∙ bind_same (primitive_contents l c p) _ _ (λ o. alone_octets OctetString own p o) k s
octets_is own l c p true k s =
    bind_assoc (segments_in 4 l c p) (λ z. Done (join z)) (octets_leaf OctetString own p) k s
    ∙ bind_assoc
    (in_container l c p true (λ inside. each_member (read_segment l.depth l 4 inside) l.octets l inside []))
    (λ ended. Done ended.all) (λ z. Done (join z) >>= octets_leaf OctetString own p) k s
    ∙ bind_same
    (in_container l c p true (λ inside. each_member (read_segment l.depth l 4 inside) l.octets l inside [])) _ _
    (λ ended. joined_octets OctetString own p ended.all) k s

utf8_is : (own : Tag) (l : Limits) (c : Enclosing) (p : ℕ) (form : Bool) (k : ℕ) (s : List ℕ)
    → run (elim form [ false ↦ segment_alone 4 l c p | true ↦ segments_in 4 l c p ] >>= (λ z. Done (join z))
    >>= octets_leaf Utf8String own p) k s
    ≡ run (read_leaf l c Utf8String p own form) k s
unfolding read_leaf
utf8_is own l c p false k s =
    bind_assoc (segment_alone 4 l c p) (λ z. Done (join z)) (octets_leaf Utf8String own p) k s
    ∙ bind_assoc (primitive_contents l c p) (λ o. require (is_next_segment 4 [] o) (fault p BadBits) (Done (o ∷ [])))
    (λ z. Done (join z) >>= octets_leaf Utf8String own p) k s
    ∙ bind_same (primitive_contents l c p) _ _ (λ o. alone_octets Utf8String own p o) k s
utf8_is own l c p true k s =
    bind_assoc (segments_in 4 l c p) (λ z. Done (join z)) (octets_leaf Utf8String own p) k s
    ∙ bind_assoc
    (in_container l c p true (λ inside. each_member (read_segment l.depth l 4 inside) l.octets l inside []))
    (λ ended. Done ended.all) (λ z. Done (join z) >>= octets_leaf Utf8String own p) k s
    ∙ bind_same
    (in_container l c p true (λ inside. each_member (read_segment l.depth l 4 inside) l.octets l inside [])) _ _
    (λ ended. joined_octets Utf8String own p ended.all) k s

pub octets_leaf_is : (own : Tag) (s : Standing) (g : Given) (k : ℕ) (o : List ℕ)
    → run (read_octets s g >>= octets_leaf OctetString own g.at) k o ≡ run (read_given_leaf OctetString own s g) k o
unfolding read_octets read_segments
octets_leaf_is own s g k o = octets_is own s.limits (enclosing s) g.at g.constructed k o

pub utf8_leaf_is : (own : Tag) (s : Standing) (g : Given) (k : ℕ) (o : List ℕ)
    → run (read_octets s g >>= octets_leaf Utf8String own g.at) k o ≡ run (read_given_leaf Utf8String own s g) k o
unfolding read_octets read_segments
utf8_leaf_is own s g k o = utf8_is own s.limits (enclosing s) g.at g.constructed k o

pub string_leaf_is : (utf8 : Bool) (own : Tag) (s : Standing) (g : Given) (k : ℕ) (o : List ℕ)
    → run (read_octets s g >>= octets_leaf (string_kind utf8) own g.at) k o
    ≡ run (read_given_leaf (string_kind utf8) own s g) k o
string_leaf_is true own s g k o = utf8_leaf_is own s g k o
string_leaf_is false own s g k o = octets_leaf_is own s g k o
