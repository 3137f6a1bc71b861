-- Elements that are read by a type as data: what is put after what stood there.
use Rattle.std.specs.Prelude.{List, MatchResult, Option, Result, [], length, ℕ, ◌++◌, ◌-◌, ◌≡◌}
use Rattle.tlv_core.specs.Limits.{Limits}
use Rattle.tlv_core.specs.declared.fault.ReadError.{ReadError}
use Rattle.tlv_core.specs.declared.source.Source.{Ghosts}
use Rattle.x690.specs.DerTexts.{der, texts_of}
use Rattle.x690.specs.Points.{Enclosing}
use Rattle.x690.specs.ReadHeaders.{Ended}
use Rattle.x690.specs.Reading.{Reading}
use Rattle.x690.specs.Reads.{Said}
use Rattle.x690.specs.TypeTerms.{LeafType, TypeTerm}
use Rattle.x690.specs.Values.{Value}
use Rattle.ber_pull.specs.Hears.{heard_error}
use Rattle.ber_pull.specs.Standing.{Standing}
use Rattle.ber_pull.specs.View.{Answers}
use Rattle.ber_pull.specs.declared.pull.Pull.{Pull}
use Rattle.asn_elements.specs.Reading.{ended}
use Rattle.asn_fields.specs.FieldReadings.{but_default, read_due, read_optional, with_field}
use Rattle.asn_fields.specs.Fields.{next_of}
use Rattle.asn_fields.specs.Insides.{Inside}
use Rattle.asn_fields.specs.declared.next.Next.{Next}
use Rattle.asn_open_values.specs.OpenTexts.{StandBehind}
use Rattle.pkix_shapes.specs.Terms.{kind_of, tag_of}
use Rattle.asn_names.specs.declared.shaped.DefaultLeaf.{DefaultLeaf}
use Rattle.asn_names.specs.declared.shaped.Members.{Members}
use Rattle.asn_names.specs.declared.shaped.MembersEnd.{MembersEnd}

-- The texts of the members that the reading gives were put after what stood there, it is told where they end and how
-- many fewer they are than the least number, or the error is what it gives.
abbrev pub AnswersMembers : {R : Type 0} {s : Ghosts R} → Pull R s → Pull R s → Reading (Ended (List Value)) → Members
    → List ℕ → List ℕ → List ℕ → Result MembersEnd ReadError → Type 0
AnswersMembers old new p members before after starts result =
    MatchResult result
    (λ end.
    (values : List Value) × StandBehind members.in_set values before after starts
    × (end.missing ≡ members.least - length values) × Answers old new p (Said (ended values end.at)))
    (λ e. Answers old new p (heard_error e))

-- Wherever the container was opened: the text of the field that is due was put after what stood there, with what stands
-- after the field, or the error is what the reading gives.
abbrev pub AnswersDue : {R : Type 0} {s : Ghosts R} → Pull R s → Pull R s → Next → Next → TypeTerm → List ℕ → List ℕ
    → Result (Unit {0}) ReadError → Type 0
AnswersDue old new next next' type before after result =
    (earlier : List Value) (outer : Standing) (inside : Enclosing) → Inside outer inside old.state (next_of next)
    → MatchResult result
    (λ _.
    (value : Value) × (after ≡ before ++ der value)
    × Answers old new (read_due outer.limits type earlier inside (next_of next)) (Said (value, next_of next')))
    (λ e. Answers old new (read_due outer.limits type earlier inside (next_of next)) (heard_error e))

-- The same of a leaf that may be absent: nothing was put where it isn't there or is its default.
abbrev pub AnswersDefault : {R : Type 0} {s : Ghosts R} → Pull R s → Pull R s → Next → Next → DefaultLeaf → List ℕ
    → List ℕ → Result (Unit {0}) ReadError → Type 0
AnswersDefault old new next next' leaf before after result =
    (earlier : List Value) (outer : Standing) (inside : Enclosing) → Inside outer inside old.state (next_of next)
    → MatchResult result
    (λ _.
    (value : Option Value)
    × (after ≡ before ++ texts_of (with_field (but_default (tag_of leaf.own) leaf.default.now value) []))
    × Answers old new
    (read_optional outer.limits (LeafType (tag_of leaf.own) (kind_of leaf.contents)) earlier inside (next_of next))
    (Said (value, next_of next')))
    (λ e.
    Answers old new
    (read_optional outer.limits (LeafType (tag_of leaf.own) (kind_of leaf.contents)) earlier inside (next_of next))
    (heard_error e))

-- The same of all fields from here on.
abbrev pub AnswersFields : {R : Type 0} {s : Ghosts R} → Pull R s → Pull R s → Next
    → (Limits → Enclosing → Reading (List Value)) → List ℕ → List ℕ → Result (Unit {0}) ReadError → Type 0
AnswersFields old new next p before after result =
    (outer : Standing) (inside : Enclosing) → Inside outer inside old.state (next_of next)
    → MatchResult result
    (λ _.
    (values : List Value) × (after ≡ before ++ texts_of values)
    × Answers old new (p outer.limits inside) (Said values))
    (λ e. Answers old new (p outer.limits inside) (heard_error e))
