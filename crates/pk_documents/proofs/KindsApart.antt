-- No octets are of two kinds: the tags of the elements that stand directly in the outermost SEQUENCE tell the kind.
use Rattle.std.proofs.Common.{Bool, List, [], ap, ap₂, arith, false, map, refl, subst, sym, true, ℕ, ◌&&◌, ◌++◌, ◌==◌, ◌∙◌, ◌∷◌, ◌≡◌}
use Rattle.std.proofs.lemmas.Bool.Decides.{nat_tests}
use Rattle.tlv_core.specs.Identifier.{Tag}
use Rattle.tlv_core.specs.Limits.{Limits}
use Rattle.x690.specs.Answers.{IsAnswer, Spelled, SpelledBy, answer}
use Rattle.x690.specs.Fitting.{Fits, FitsFields}
use Rattle.x690.specs.Layouts.{Constructed, Primitive, RawTree, member_trees, tree_tag}
use Rattle.x690.specs.Lists.{Each}
use Rattle.x690.specs.TypeTerms.{ChoiceType, ContainingType, Default, DefinedByType, EndOfFields, Fields, LeafType, OpenType, Optional, RefusedType, Required, Rule, RuledType, SequenceOfType, SequenceType, SetOfType, TypeTerm, fits_tag}
use Rattle.x690.specs.Values.{Value}
use Rattle.x690_laws.proofs.AnswersOfDocuments.{one_answer}
use Rattle.x690_laws.proofs.LayoutsApart.{tree_alone}
use Rattle.x690_laws.proofs.TextsSpell.{begins_fits}
use Rattle.pkix_definitions.specs.DocumentTypes.{AlgorithmIdentifier, AsymmetricKeyPackage, CertificationRequest, CertificationRequestInfo, ECPrivateKey, EncryptedPrivateKeyInfo, OneAsymmetricKey, SubjectPublicKeyInfo}
use Rattle.pk_documents.specs.Kinds.{KindsAreApart, type_of}
use Rattle.pk_documents.specs.declared.kind.Kind.{Kind}
use Rattle.pk_documents.specs.declared.kind.Kind.TheVariants.{Ec, Encrypted, Key, Package, Public, Request}

-- the number of the tag that elements of the type have, where they have one tag
abbrev number_of : TypeTerm → ℕ
number_of (LeafType own kind) = own.number
number_of OpenType = 0
number_of (SequenceOfType own least type) = own.number
number_of (SetOfType own least type) = own.number
number_of (SequenceType own fields) = own.number
number_of (ContainingType own rule type) = own.number
number_of (RefusedType own why) = own.number
number_of (RuledType rule type) = number_of type
number_of (DefinedByType path octets first second) = number_of first
number_of (ChoiceType first second) = 0

-- all elements of the type have that number
abbrev is_numbered : TypeTerm → Bool
is_numbered (LeafType own kind) = true
is_numbered OpenType = false
is_numbered (SequenceOfType own least type) = true
is_numbered (SetOfType own least type) = true
is_numbered (SequenceType own fields) = true
is_numbered (ContainingType own rule type) = true
is_numbered (RefusedType own why) = true
is_numbered (RuledType rule type) = is_numbered type
is_numbered (DefinedByType path octets first second) =
    is_numbered first && (is_numbered second && (number_of second == number_of first))
is_numbered (ChoiceType first second) = false

numbered : (type : TypeTerm) (tag : Tag) → is_numbered type ≡ true → fits_tag type tag ≡ true
    → tag.number ≡ number_of type
unfolding fits_tag
numbered (LeafType own kind) tag one fits = grind (arith, nat_tests)
numbered OpenType tag one fits = cc
numbered (SequenceOfType own least type) tag one fits = grind (arith, nat_tests)
numbered (SetOfType own least type) tag one fits = grind (arith, nat_tests)
numbered (SequenceType own fields) tag one fits = grind (arith, nat_tests)
numbered (ContainingType own rule type) tag one fits = grind (arith, nat_tests)
numbered (RefusedType own why) tag one fits = grind (arith, nat_tests)
numbered (RuledType rule type) tag one fits = numbered type tag one fits
numbered (DefinedByType path octets first second) tag one fits =
    let left = numbered first tag in let right = numbered second tag in grind (arith, nat_tests)
numbered (ChoiceType first second) tag one fits = cc

-- the numbers of the fields that are due in front of all that may be missing
abbrev due_numbers : Fields → List ℕ
due_numbers EndOfFields = []
due_numbers (Required type fields) = number_of type ∷ due_numbers fields
due_numbers (Optional type fields) = []
due_numbers (Default own octets type fields) = []

abbrev are_numbered : Fields → Bool
are_numbered EndOfFields = true
are_numbered (Required type fields) = is_numbered type && are_numbered fields
are_numbered (Optional type fields) = true
are_numbered (Default own octets type fields) = true

abbrev numbers : List RawTree → List ℕ
numbers trees = map (λ tree. (tree_tag tree).number) trees

abbrev Begins : List ℕ → List ℕ → Type 0
Begins first given = (more : List ℕ) × (given ≡ first ++ more)

due : (depth : ℕ) (fields : Fields) (earlier : List Value) (trees : List RawTree) (values : List Value)
    → are_numbered fields ≡ true → FitsFields depth fields earlier trees values
    → Begins (due_numbers fields) (numbers trees)
unfolding Fits
due depth EndOfFields earlier trees values one h = (numbers trees, refl)
due depth (Optional type fields) earlier trees values one h = (numbers trees, refl)
due depth (Default own octets type fields) earlier trees values one h = (numbers trees, refl)
due depth (Required type fields) earlier trees values one h =
    let both : (is_numbered type ≡ true) × (are_numbered fields ≡ true) =
    (grind (arith, nat_tests), grind (arith, nat_tests)) in
    let number = numbered type (tree_tag h.0) both.0 (begins_fits depth type earlier h.0 h.2 h.6) in
    let others = due depth fields (earlier ++ (h.2 ∷ [])) h.1 h.3 both.1 h.7 in
    (others.0, ap numbers h.4 ∙ ap₂ (λ first rest. first ∷ rest) number others.1)

abbrev numbers_inside : RawTree → List ℕ
numbers_inside (Primitive tag contents) = []
numbers_inside (Constructed tag trees) = numbers (member_trees trees)

inside : (depth : ℕ) (own : Tag) (fields : Fields) (tree : RawTree) (value : Value) → are_numbered fields ≡ true
    → Fits depth (SequenceType own fields) [] tree value → Begins (due_numbers fields) (numbers_inside tree)
unfolding Fits
inside depth own fields tree value one h =
    let members = due depth fields [] (member_trees h.0) _ one h.4 in
    (members.0, ap numbers_inside h.2 ∙ members.1)

without_rule : (depth : ℕ) (rule : Rule) (type : TypeTerm) (tree : RawTree) (value : Value)
    → Fits depth (RuledType rule type) [] tree value → Fits depth type [] tree value
unfolding Fits
without_rule depth rule type tree value h = h.1

abbrev begins_with : List ℕ → List ℕ → Bool
begins_with [] given = true
begins_with (number ∷ wanted) [] = false
begins_with (number ∷ wanted) (other ∷ given) = (number == other) && begins_with wanted given

-- What tells a kind: INTEGER is 2, BIT STRING 3, OCTET STRING 4, SEQUENCE 16.
abbrev first_numbers : List (List ℕ × Kind)
first_numbers =
    (2 ∷ 16 ∷ [], Key) ∷ (2 ∷ 4 ∷ [], Ec) ∷ (16 ∷ 16 ∷ 3 ∷ [], Request) ∷ (16 ∷ 3 ∷ [], Public)
    ∷ (16 ∷ 4 ∷ [], Encrypted) ∷ []

-- the kind of the first row that the numbers begin with; those of a package begin with none
abbrev told_by : List (List ℕ × Kind) → List ℕ → Kind
told_by [] given = Package
told_by (row ∷ rows) given = elim (begins_with row.0 given) [ true ↦ row.1 | false ↦ told_by rows given ]

abbrev told : RawTree → Kind
told tree = told_by first_numbers (numbers_inside tree)

abbrev Tells : Kind → Type 0
Tells kind = (depth : ℕ) (tree : RawTree) (value : Value) → Fits depth (type_of kind) [] tree value → told tree ≡ kind

key_told : Tells Key
unfolding OneAsymmetricKey AlgorithmIdentifier
key_told depth tree value h =
    ap (told_by first_numbers) (inside depth _ _ tree value refl (without_rule depth _ _ tree value h)).1

ec_told : Tells Ec
unfolding ECPrivateKey
ec_told depth tree value h =
    ap (told_by first_numbers) (inside depth _ _ tree value refl (without_rule depth _ _ tree value h)).1

request_told : Tells Request
unfolding CertificationRequest CertificationRequestInfo AlgorithmIdentifier
request_told depth tree value h = ap (told_by first_numbers) (inside depth _ _ tree value refl h).1

public_told : Tells Public
unfolding SubjectPublicKeyInfo AlgorithmIdentifier
public_told depth tree value h = ap (told_by first_numbers) (inside depth _ _ tree value refl h).1

encrypted_told : Tells Encrypted
unfolding EncryptedPrivateKeyInfo AlgorithmIdentifier
encrypted_told depth tree value h = ap (told_by first_numbers) (inside depth _ _ tree value refl h).1

key_number : (depth : ℕ) (tree : RawTree) (value : Value) → Fits depth OneAsymmetricKey [] tree value
    → (tree_tag tree).number ≡ 16
unfolding OneAsymmetricKey
key_number depth tree value h =
    numbered OneAsymmetricKey (tree_tag tree) refl (begins_fits depth OneAsymmetricKey [] tree value h)

keys_numbers : (depth : ℕ) (trees : List RawTree) (values : List Value)
    → Each (Fits depth OneAsymmetricKey []) trees values → numbers trees ≡ map (λ tree. 16) trees
keys_numbers depth [] values h = refl
keys_numbers depth (tree ∷ trees) [] h = absurd h
keys_numbers depth (tree ∷ trees) (value ∷ values) h =
    ap₂ (λ first rest. first ∷ rest) (key_number depth tree value h.0) (keys_numbers depth trees values h.1)

-- of one SEQUENCE, of two, and of more
sequences_told : (trees : List RawTree) → told_by first_numbers (map (λ tree. 16) trees) ≡ Package
sequences_told [] = refl
sequences_told (first ∷ []) = refl
sequences_told (first ∷ second ∷ []) = refl
sequences_told (first ∷ second ∷ third ∷ trees) = refl

package_told : Tells Package
unfolding Fits AsymmetricKeyPackage
package_told depth tree value h =
    ap told h.2
    ∙ ap (told_by first_numbers) (keys_numbers depth (member_trees h.0) _ h.5) ∙ sequences_told (member_trees h.0)

kind_told : (kind : Kind) → Tells kind
kind_told Key = key_told
kind_told Ec = ec_told
kind_told Request = request_told
kind_told Public = public_told
kind_told Encrypted = encrypted_told
kind_told Package = package_told

spelled : (kind : Kind) (limits : Limits) (octets text : List ℕ) (taken : ℕ)
    → answer limits (type_of kind) octets ≡ Spelled text taken → SpelledBy limits (type_of kind) octets text taken
spelled kind limits octets text taken e =
    subst (IsAnswer limits (type_of kind) octets) e (one_answer.is_answer limits (type_of kind) octets)

-- One tree stands at the start of the octets, and it tells one kind.
pub kinds_are_apart : KindsAreApart
kinds_are_apart kind kind' limits limits' octets text text' taken taken' e e' =
    let a = spelled kind limits octets text taken e in
    let b = spelled kind' limits' octets text' taken' e' in
    let one =
    tree_alone a.spells.tree b.spells.tree a.first b.first a.rest b.rest a.spells.laid_out b.spells.laid_out
    (sym a.is ∙ b.is) in
    sym (kind_told kind limits.depth a.spells.tree a.value a.spells.fits)
    ∙ ap told one.0
    ∙ kind_told kind' limits'.depth b.spells.tree b.value b.spells.fits
