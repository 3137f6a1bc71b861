-- What two documents are to each other as tokens of JSON: one object, whose members are in this order.
use Rattle.std.specs.Prelude.{List, None, Option, Some, [], codes, flat_map, ℕ, ◌++◌}
use Rattle.json.specs.Token.{Token}
use Rattle.tlv_core.specs.declared.fault.Fault.{Fault}
use Rattle.reports.specs.Json.{inside_members}
use Rattle.reports.specs.JsonLists.{place_members}
use Rattle.reports.specs.JsonMembers.{list_member, number_member, object, object_member, text_member}
use Rattle.comparison.specs.DifferenceWords.{DifferenceWords}

-- the number of this form, the version of the program, the kind, and the answer
unfoldable pub head_members : List ℕ → List ℕ → ℕ → List ℕ → List Token
head_members version kind status verdict =
    number_member (codes "form") 1 ++ text_member (codes "version") version ++ text_member (codes "kind") kind
    ++ number_member (codes "status") status ++ text_member (codes "verdict") verdict

unfoldable pub fault_members : Option Fault → List Token
fault_members None = []
fault_members (Some fault) =
    object_member (codes "fault") (place_members fault.at fault.why ++ inside_members fault.inside)

-- a document by its name, and its fault, where it is refused
unfoldable pub called_member : List ℕ → List ℕ → Option Fault → List Token
called_member which name fault = object_member which (text_member (codes "file") name ++ fault_members fault)

-- a field and its value in each document, in the words of the text
unfoldable pub words_object : DifferenceWords → List Token
words_object words =
    object (text_member (codes "field") words.field ++ text_member (codes "first") words.first
    ++ text_member (codes "second") words.second)

-- what differs, and how many elements more
unfoldable pub difference_members : List DifferenceWords → ℕ → List Token
difference_members words more =
    list_member (codes "differences") (flat_map words_object words) ++ number_member (codes "more") more

unfoldable pub same_object : List ℕ → List ℕ → List ℕ → List ℕ → List Token
same_object version kind name other_name =
    object (head_members version kind 0 (codes "same") ++ called_member (codes "first") name None
    ++ called_member (codes "second") other_name None)

unfoldable pub refused_object : List ℕ → List ℕ → List ℕ → List ℕ → Option Fault → Option Fault → List Token
refused_object version kind name other_name fault other =
    object (head_members version kind 2 (codes "refused") ++ called_member (codes "first") name fault
    ++ called_member (codes "second") other_name other)

unfoldable pub another_object : List ℕ → List ℕ → List ℕ → List ℕ → List DifferenceWords → ℕ → List Token
another_object version kind name other_name words more =
    object (head_members version kind 1 (codes "another") ++ called_member (codes "first") name None
    ++ called_member (codes "second") other_name None ++ difference_members words more)
