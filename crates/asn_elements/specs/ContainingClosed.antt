-- Types that don't look at the earlier fields of a container.
use Rattle.std.proofs.Common.{List, []}
use Rattle.std.specs.Prelude.{◌≡◌}
use Rattle.tlv_core.specs.Identifier.{Tag}
use Rattle.tlv_core.specs.Limits.{Limits}
use Rattle.tlv_core.specs.declared.reason.Reason.TheVariants.{WrongTag}
use Rattle.x690.specs.Contents.{OctetString}
use Rattle.x690.specs.DerTexts.{der}
use Rattle.x690.specs.Layouts.{same_tag}
use Rattle.x690.specs.Points.{Enclosing, fault, outermost}
use Rattle.x690.specs.ReadContents.{read_leaf}
use Rattle.x690.specs.ReadTypes.{IsClosed, apply_rule, due_element, from_inside, read_type}
use Rattle.x690.specs.Reading.{require, run, ◌>>=◌}
use Rattle.x690.specs.TypeTerms.{ContainingType, Rule, TypeTerm}
use Rattle.x690.specs.Values.{Leaf, Value, leaf_contents}

-- as functions of what stands there: a function is what it gives
pub reader_closed : (T : TypeTerm) → IsClosed T → (l : Limits) (earlier : List Value) (c : Enclosing)
    → read_type l T earlier c ≡ read_type l T [] c
reader_closed T closed l earlier c = λ i place tag constructed. closed l earlier c place tag constructed i

-- what an OCTET STRING contains, with a rule on that alone
pub containing_closed : (own : Tag) (rule : Rule) (T : TypeTerm) → IsClosed T
    → ((earlier : List Value) → rule earlier ≡ rule []) → IsClosed (ContainingType own rule T)
unfolding read_type
containing_closed own rule T closed alone l earlier c p tag constructed = λ i.
    require (same_tag own tag) (fault p WrongTag)
    (read_leaf l c OctetString p own constructed
    >>= λ value.
    from_inside p (run (due_element l outermost (reader_closed T closed l earlier outermost i)) 0 (leaf_contents value))
    >>= λ contained. apply_rule p (alone earlier i contained) (Leaf own (der contained)))
