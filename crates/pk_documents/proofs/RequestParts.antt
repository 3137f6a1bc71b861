-- Parts of requests that are the same.
use Rattle.std.proofs.Common.{◌≡◌, ◌∷◌, List, [], ap, drop, refl, slice_get, suc, zero, ℕ}
use Rattle.std.specs.Option.{option_map_or}
use Rattle.x690.specs.Lists.{Each}
use Rattle.x690.specs.Values.{Same, Value, sequence_members}
use Rattle.x690_laws.proofs.ValuesOfTrees.{leaf_at_same, members_same}
use Rattle.x690_laws.proofs.TextsAsLayouts.{same_der}
use Rattle.pk_documents.specs.RequestParts.{part_of, text_at}
use Rattle.pk_documents.specs.declared.request_part.Part.{Part}
use Rattle.pk_documents.specs.declared.request_part.Part.TheVariants.{Algorithm, Info, Key, Signature}

at_same : (f : Value → List ℕ) → ((v w : Value) → Same v w → f v ≡ f w) → (i : ℕ) (vs ws : List Value) → Each Same vs ws
    → option_map_or f (slice_get vs i) [] ≡ option_map_or f (slice_get ws i) []
at_same f same i [] [] h = refl
at_same f same i [] (w ∷ ws) h = absurd h
at_same f same i (v ∷ vs) [] h = absurd h
at_same f same zero (v ∷ vs) (w ∷ ws) h = same v w h.0
at_same f same (suc i) (v ∷ vs) (w ∷ ws) h = at_same f same i vs ws h.1

text_at_same : (path : List ℕ) (v w : Value) → Same v w → text_at path v ≡ text_at path w
text_at_same [] v w h = same_der v w h
text_at_same (i ∷ path) v w h =
    at_same (text_at path) (text_at_same path) i (sequence_members v) (sequence_members w) (members_same v w h)

pub part_same : (part : Part) (v w : Value) → Same v w → part_of part v ≡ part_of part w
part_same Info v w h = text_at_same (0 ∷ []) v w h
part_same Algorithm v w h = text_at_same (1 ∷ []) v w h
part_same Key v w h = text_at_same (0 ∷ 2 ∷ []) v w h
part_same Signature v w h =
    ap (drop 1) (leaf_at_same (2 ∷ []) (sequence_members v) (sequence_members w) (members_same v w h))
