-- What a source over a buffered reader passes.
use Rattle.std.proofs.Common.{ℕ, Bool, true, false, List, ◌++◌, Option, None, Some, if◌then◌else◌, ap, sym, take, drop, ◌∙◌, append_assoc, take-append-drop}
use Rattle.std.specs.Io.KnownBytes.{Consumes, prepend_known}
use Rattle.tlv_core.specs.Sources.{told_by}

-- octets that are passed were told next
pub passed : (bare : Bool) (ahead : List ℕ) (behind : Option (List ℕ)) (count : ℕ)
    → Consumes (if bare then None else prepend_known ahead behind)
    (if bare then None else prepend_known (drop count ahead) behind) (take count ahead)
passed true ahead behind count = tt
passed false ahead None count = tt
passed false ahead (Some left) count =
    ap (λ l. l ++ left) (sym (take-append-drop count ahead)) ∙ append_assoc (take count ahead) (drop count ahead) left

-- also where none are told
pub passed_as_told : (telling : Bool) (old new : Option (List ℕ)) (octets : List ℕ) → Consumes old new octets
    → Consumes (told_by telling old) (told_by telling new) octets
passed_as_told true old new octets passed = passed
passed_as_told false old new octets passed = tt
