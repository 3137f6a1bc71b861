-- Parts of requests stand in their DER texts.
use Rattle.std.proofs.Common.{◌≡◌, ◌∙◌, ◌++◌, ◌∷◌, List, [], ap, append-nil, append_assoc, drop, length, refl, slice_get, subst, suc, sym, true, zero, ℕ}
use Rattle.std.specs.Option.{option_map_or}
use Rattle.tlv_core.specs.Identifier.{Tag, identifier}
use Rattle.tlv_core.specs.Length.{shortest_length}
use Rattle.x690.specs.DerTexts.{der, der_element, der_texts}
use Rattle.x690.specs.Lists.{join}
use Rattle.x690.specs.Values.{FirstMember, Leaf, NoMembers, Sequence, SetOf, Value, Values, leaf_at, leaf_contents, members, sequence_members}
use Rattle.pk_documents.specs.RequestParts.{StandsIn, part_of, text_at}
use Rattle.pk_documents.specs.declared.request_part.Part.{Part}
use Rattle.pk_documents.specs.declared.request_part.Part.TheVariants.{Algorithm, Info, Key, Signature}

nothing_stands : (text : List ℕ) → StandsIn [] text
nothing_stands text = ([], text, refl)

-- What stands in a middle part stands in the whole.
stands_inside : (part mid text front back : List ℕ) → StandsIn part mid → text ≡ front ++ (mid ++ back)
    → StandsIn part text
stands_inside part mid text front back s is = (
  front ++ s.0,
  s.1 ++ back,
  is
      ∙ ap (λ m. front ++ (m ++ back)) s.2
      ∙ ap (λ m. front ++ m) (append_assoc s.0 (part ++ s.1) back ∙ ap (λ m. s.0 ++ m) (append_assoc part s.1 back))
      ∙ sym (append_assoc front s.0 (part ++ (s.1 ++ back))),
)

-- the contents of an element
contents_stand : (part contents : List ℕ) (tag : Tag) (b : _) → StandsIn part contents
    → StandsIn part (der_element tag b contents)
unfolding der_element
contents_stand part contents tag b s =
    stands_inside part contents _ (identifier tag b ++ shortest_length (length contents)) [] s
    (ap (λ c. identifier tag b ++ (shortest_length (length contents) ++ c)) (sym (append-nil contents))
    ∙ sym (append_assoc (identifier tag b) (shortest_length (length contents)) (contents ++ [])))

-- a part of a member, where that stands
member_stands : (f : Value → List ℕ) → ((v : Value) → StandsIn (f v) (der v)) → (i : ℕ) (values : Values)
    → StandsIn (option_map_or f (slice_get (members values) i) []) (join (der_texts values))
unfolding der
member_stands f stand i NoMembers = nothing_stands _
member_stands f stand zero (FirstMember v values) =
    stands_inside (f v) (der v) _ [] (join (der_texts values)) (stand v) refl
member_stands f stand (suc i) (FirstMember v values) =
    stands_inside _ (join (der_texts values)) _ (der v) [] (member_stands f stand i values)
    (ap (λ t. der v ++ t) (sym (append-nil (join (der_texts values)))))

text_stands : (path : List ℕ) (v : Value) → StandsIn (text_at path v) (der v)
unfolding der
text_stands [] v = ([], [], sym (append-nil (der v)))
text_stands (i ∷ path) (Leaf tag contents) = nothing_stands _
text_stands (i ∷ path) (SetOf tag values) = nothing_stands _
text_stands (i ∷ path) (Sequence tag values) =
    contents_stand _ (join (der_texts values)) tag true (member_stands (text_at path) (text_stands path) i values)

-- contents without their first octet
behind_first : (contents : List ℕ) → StandsIn (drop 1 contents) contents
behind_first [] = nothing_stands []
behind_first (x ∷ octets) = (x ∷ [], [], ap (λ o. x ∷ o) (sym (append-nil octets)))

octets_stand : (v : Value) → StandsIn (drop 1 (leaf_contents v)) (der v)
unfolding der
octets_stand (Leaf tag contents) = contents_stand _ contents tag _ (behind_first contents)
octets_stand (Sequence tag values) = nothing_stands _
octets_stand (SetOf tag values) = nothing_stands _

leaf_octets : (i : ℕ) (values : List Value)
    → option_map_or (λ v. drop 1 (leaf_contents v)) (slice_get values i) [] ≡ drop 1 (leaf_at (i ∷ []) values)
unfolding leaf_at
leaf_octets i [] = refl
leaf_octets zero (v ∷ values) = refl
leaf_octets (suc i) (v ∷ values) = leaf_octets i values

signature_stands : (v : Value) → StandsIn (drop 1 (leaf_at (2 ∷ []) (sequence_members v))) (der v)
unfolding der
signature_stands (Leaf tag contents) =
    subst (λ p. StandsIn p (der (Leaf tag contents))) (leaf_octets 2 []) (nothing_stands _)
signature_stands (SetOf tag values) =
    subst (λ p. StandsIn p (der (SetOf tag values))) (leaf_octets 2 []) (nothing_stands _)
signature_stands (Sequence tag values) =
    subst (λ p. StandsIn p (der (Sequence tag values))) (leaf_octets 2 (members values))
    (contents_stand _ (join (der_texts values)) tag true
    (member_stands (λ v. drop 1 (leaf_contents v)) octets_stand 2 values))

pub part_stands : (part : Part) (v : Value) → StandsIn (part_of part v) (der v)
part_stands Info v = text_stands (0 ∷ []) v
part_stands Algorithm v = text_stands (1 ∷ []) v
part_stands Key v = text_stands (0 ∷ 2 ∷ []) v
part_stands Signature v = signature_stands v
