-- The names of a list, one after another. What is left of it is known before a call and after it, where that is known
-- of the list.
use Rattle.std.specs.Prelude.{All, Bool, List, None, Option, Some, [], codes, cond, false, length, map, true, ℕ, ◌++◌, ◌==◌, ◌≡◌, ◌∷◌}
use Rattle.std.specs.Io.KnownBytes.{Consumes, IsAtEnd, Keeps}
use Rattle.commands.specs.declared.ended_names.EndedNames.{EndedNames}
use Rattle.commands.specs.declared.names.NamesFault.{NamesFault}
use Rattle.commands.specs.declared.names.NamesFault.TheVariants.{Memory, Read, TooLong, TooMany}
use Rattle.commands.specs.declared.names.Words.{Words}

-- Names came, in their order, and these are left.
abbrev pub TakesNames : Option (List (List ℕ)) → Option (List (List ℕ)) → List (List ℕ) → Type 0
TakesNames None new names = Unit {0}
TakesNames (Some old) None names = ⊥
TakesNames (Some old) (Some new) names = old ≡ names ++ new

abbrev pub NoneLeft : Option (List (List ℕ)) → Type 0
NoneLeft None = Unit {0}
NoneLeft (Some names) = names ≡ []

-- The next name came, or there is none.
abbrev pub TakesNext : Option (List (List ℕ)) → Option (List (List ℕ)) → Option (List ℕ) → Type 0
TakesNext old new None = NoneLeft old
TakesNext old new (Some name) = TakesNames old new (name ∷ [])

-- The list begins with these names; it has these names and no others.
abbrev pub BeginsWith : Option (List (List ℕ)) → List (List ℕ) → Type 0
BeginsWith None names = Unit {0}
BeginsWith (Some list) names = (more : List (List ℕ)) × (list ≡ names ++ more)

abbrev pub IsListOf : Option (List (List ℕ)) → List (List ℕ) → Type 0
IsListOf None names = Unit {0}
IsListOf (Some list) names = list ≡ names

-- The list stands as it does since its next name doesn't come: these names are left, and this is why.
abbrev pub HasStopped : {Names : Type 0} → (Names → Option (List (List ℕ))) → (Names → Names → NamesFault → Type 0)
    → Names → Option (List (List ℕ)) → NamesFault → Type 0
HasStopped {Names} left_of stops list left fault =
    (before : Names) × (left_of before ≡ left) × stops before list fault

-- the names after these octets of a name, each ended by an octet 0, the last one perhaps by the end
abbrev pub names_after : List ℕ → List ℕ → List (List ℕ)
names_after name [] = cond (length name == 0) [] (name ∷ [])
names_after name (octet ∷ octets) =
    cond (octet == 0) (name ∷ names_after [] octets) (names_after (name ++ octet ∷ []) octets)

abbrev pub known_names : List ℕ → Option (List ℕ) → Option (List (List ℕ))
known_names name None = None
known_names name (Some octets) = Some (names_after name octets)

-- The first of the octets came, or none at their end.
abbrev pub TakesOctet : Option (List ℕ) → Option (List ℕ) → Option ℕ → Type 0
TakesOctet old new None = IsAtEnd old × Keeps old new
TakesOctet old new (Some octet) = Consumes old new (octet ∷ [])

-- The next name of a list that is known of a source is longer than it may be: so many octets came, and none of them
-- ends it.
abbrev pub IsTooLong : Option (List ℕ) → Option (List ℕ) → Type 0
IsTooLong old new =
    (name : List ℕ) × Consumes old new name × (length name ≡ 65537) × All (λ octet. (octet == 0) ≡ false) name

-- Why the next name of such a list doesn't come: its source has failed, or the name is too long, or there is no memory.
abbrev pub StopsReading : Bool → Option (List ℕ) → Option (List ℕ) → NamesFault → Type 0
StopsReading failed old new Read = failed ≡ true
StopsReading failed old new TooLong = IsTooLong old new
StopsReading failed old new TooMany = ⊥
StopsReading failed old new Memory = Unit {0}

-- why no more names come, in words
abbrev pub fault_of : NamesFault → List ℕ
fault_of Read = codes "read failed"
fault_of TooLong = codes "a name is longer than 65536 octets"
fault_of TooMany = codes "more names than can be counted"
fault_of Memory = codes "out of memory"

-- the words that are left
abbrev pub words_of : Words → List (List ℕ)
words_of list = map (λ r. r.now) list.words.now

-- the source under a list
abbrev pub source_of : {R : Type 0} → EndedNames R → R
source_of list = list.src
