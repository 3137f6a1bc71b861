-- Members of a container in DER, in octets at hand.
use Rattle.std.specs.Prelude.{List, [], map, ℕ, ◌≡◌}
use Rattle.x690.specs.DerTexts.{Ascends, der, texts_of}
use Rattle.x690.specs.Fitting.{Fits}
use Rattle.x690.specs.Layouts.{RawTree}
use Rattle.x690.specs.Lists.{Each}
use Rattle.x690.specs.TypeTerms.{TypeTerm}
use Rattle.x690.specs.Values.{Value}
use Rattle.asn_elements.specs.InDer.{LaidOutWithin}

-- The octets are the DER texts of these values of the type, one after another. No more than `left` containers are
-- nested in each other there; `limit` is the limit of nesting for what an OCTET STRING contains.
pub record MembersStand (limit left : ℕ) (type : TypeTerm) (values : List Value) (octets : List ℕ) : Type 0 where
  pub is : octets ≡ texts_of values
  pub trees : List RawTree
  pub laid_out : Each (LaidOutWithin left) trees (map der values)
  pub fits : Each (Fits limit type []) trees values

abbrev pub AreMembers : ℕ → ℕ → TypeTerm → List ℕ → Type 0
AreMembers limit left type octets = (values : List Value) × MembersStand limit left type values octets

-- and the texts stand in the order of SET OF
abbrev pub AreOrderedMembers : ℕ → ℕ → TypeTerm → List ℕ → Type 0
AreOrderedMembers limit left type octets =
    (values : List Value) × MembersStand limit left type values octets × Ascends (map der values)
