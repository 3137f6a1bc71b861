-- Members of an object as tokens of JSON (RFC 8259).
use Rattle.std.specs.Prelude.{Bool, List, None, Option, Some, [], cond, decimal, length, ℕ, ◌++◌, ◌==◌, ◌∷◌}
use Rattle.json.specs.Token.{Token, begin_array, begin_object, boolean, end_array, end_object, key, number, string}

-- an object of these members
abbrev pub object : List Token → List Token
object members = begin_object ∷ (members ++ end_object ∷ [])

-- a member that is an object
abbrev pub object_member : List ℕ → List Token → List Token
object_member name members = key name ∷ object members

-- a member that is a list
abbrev pub list_member : List ℕ → List Token → List Token
list_member name items = key name ∷ begin_array ∷ (items ++ end_array ∷ [])

-- a member that is a string
abbrev pub text_member : List ℕ → List ℕ → List Token
text_member name text = key name ∷ string text ∷ []

-- the same where there is something to say
abbrev pub said_member : List ℕ → List ℕ → List Token
said_member name text = cond (length text == 0) [] (text_member name text)

-- a member that is a number
abbrev pub number_member : List ℕ → ℕ → List Token
number_member name count = key name ∷ number (decimal count) ∷ []

-- a member that is true or false
abbrev pub boolean_member : List ℕ → Bool → List Token
boolean_member name value = key name ∷ boolean value ∷ []

-- what may be absent
abbrev pub optional : {A : Type 0} → (A → List Token) → Option A → List Token
optional member None = []
optional member (Some value) = member value

-- an item that is a list
abbrev pub list : List Token → List Token
list items = begin_array ∷ (items ++ end_array ∷ [])

-- an item that is a string
abbrev pub item : List ℕ → List Token
item text = string text ∷ []
