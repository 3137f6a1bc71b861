-- The texts of fields one after another.
use Rattle.std.proofs.Common.{◌≡◌, ◌∙◌, ◌+◌, ◌++◌, List, [], ◌∷◌, refl, sym, ap, length, append_assoc}
use Rattle.std.proofs.lemmas.List.{length-append}
use Rattle.x690.specs.DerTexts.{der, texts_of}
use Rattle.x690.specs.Values.{Value}

pub texts_both : (vs ws : List Value) → texts_of (vs ++ ws) ≡ texts_of vs ++ texts_of ws
texts_both [] ws = refl
texts_both (v ∷ vs) ws =
    ap (λ z. der v ++ z) (texts_both vs ws) ∙ sym (append_assoc (der v) (texts_of vs) (texts_of ws))

pub length_both : (vs ws : List Value) → length (texts_of (vs ++ ws)) ≡ length (texts_of vs) + length (texts_of ws)
length_both vs ws = ap length (texts_both vs ws) ∙ length-append (texts_of vs) (texts_of ws)
