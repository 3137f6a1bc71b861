-- Members that are the same, in place.
use Rattle.std.proofs.Common.{◌≡◌, ◌++◌, List, [], ◌∷◌, ap₂, refl}
use Rattle.tlv_core.specs.Identifier.{Tag}
use Rattle.x690.specs.DerTexts.{texts_of}
use Rattle.x690.specs.Lists.{Each}
use Rattle.x690.specs.Values.{Same, SameInPlace, Sequence, Value, values_of}
use Rattle.x690_laws.proofs.TextsAsLayouts.{canonical}

pub each_last : (vs ws : List Value) (v w : Value) → Each Same vs ws → Same v w
    → Each Same (vs ++ v ∷ []) (ws ++ w ∷ [])
each_last [] [] v w h s = (s, tt)
each_last [] (y ∷ ws) v w h s = absurd h
each_last (x ∷ vs) [] v w h s = absurd h
each_last (x ∷ vs) (y ∷ ws) v w h s = (h.0, each_last vs ws v w h.1 s)

pub each_texts : (vs ws : List Value) → Each Same vs ws → texts_of vs ≡ texts_of ws
each_texts [] [] h = refl
each_texts [] (y ∷ ws) h = absurd h
each_texts (x ∷ vs) [] h = absurd h
each_texts (x ∷ vs) (y ∷ ws) h = ap₂ (λ a b. a ++ b) (canonical x y h.0) (each_texts vs ws h.1)

in_place : (vs ws : List Value) → Each Same vs ws → SameInPlace (values_of vs) (values_of ws)
unfolding Same
in_place [] [] h = tt
in_place [] (y ∷ ws) h = absurd h
in_place (x ∷ vs) [] h = absurd h
in_place (x ∷ vs) (y ∷ ws) h = (h.0, in_place vs ws h.1)

-- lists of such members are the same
pub same_lists : (own : Tag) (vs ws : List Value) → Each Same vs ws
    → Same (Sequence own (values_of vs)) (Sequence own (values_of ws))
unfolding Same
same_lists own vs ws h = (refl, in_place vs ws h)
