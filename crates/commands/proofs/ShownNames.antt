-- Names that are UTF-8, and others.
use Rattle.std.proofs.Common.{◌≡◌, ap, cond, false, refl, sym, true, List, ℕ, Bool}
use Rattle.std.proofs.lemmas.Str.{IsUtf8-from_is_utf8, is_utf8-from_IsUtf8}
use Rattle.std.specs.Str.{IsUtf8, is_utf8}
use Rattle.commands.specs.Names.{file_name, file_text, quoted_octets, shown_name, shown_text}

not_text : (name : List ℕ) → (IsUtf8 name → ⊥) → is_utf8 name ≡ false
not_text name isnt = go (is_utf8 name) refl
  where
    go : (b : Bool) → is_utf8 name ≡ b → is_utf8 name ≡ false
    go true e = absurd (isnt (IsUtf8-from_is_utf8 name e))
    go false e = e

pub shown_of_text : (name : List ℕ) → IsUtf8 name → shown_text name ≡ shown_name name
shown_of_text name u = ap (λ b. cond b (shown_text name) (quoted_octets name)) (sym (is_utf8-from_IsUtf8 name u))

pub shown_of_octets : (name : List ℕ) → (IsUtf8 name → ⊥) → quoted_octets name ≡ shown_name name
shown_of_octets name isnt = ap (λ b. cond b (shown_text name) (quoted_octets name)) (sym (not_text name isnt))

pub file_of_text : (name : List ℕ) → IsUtf8 name → file_text name ≡ file_name name
file_of_text name u = ap (λ b. cond b (file_text name) (quoted_octets name)) (sym (is_utf8-from_IsUtf8 name u))

pub file_of_octets : (name : List ℕ) → (IsUtf8 name → ⊥) → quoted_octets name ≡ file_name name
file_of_octets name isnt = ap (λ b. cond b (file_text name) (quoted_octets name)) (sym (not_text name isnt))
