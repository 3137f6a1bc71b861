-- Readings that give the same on all octets, and what they are put together of.
use Rattle.std.proofs.Common.{Bool, List, false, refl, sym, true, ℕ, ◌∙◌, ◌≡◌}
use Rattle.tlv_core.specs.declared.fault.Fault.{Fault}
use Rattle.x690.specs.Reading.{Done, Halted, Outcome, Reading, Took, choose, require, run, ◌>>=◌}
use Rattle.x690.proofs.Runs.{bind_assoc, bind_same, halt_bind, run_bind}

abbrev pub Alike : {A : Type 0} → Reading A → Reading A → Type 0
Alike p q = (k : ℕ) (s : List ℕ) → run p k s ≡ run q k s

pub alike_both : {A : Type 0} (p q r : Reading A) → Alike p r → Alike q r → Alike p q
alike_both p q r x y k s = x k s ∙ sym (y k s)

pub alike_then : {A : Type 0} (p q r : Reading A) → Alike p q → Alike q r → Alike p r
alike_then p q r x y k s = x k s ∙ y k s

pub require_then : {A B : Type 0} (b : Bool) (g : Fault) (p : Reading A) (f : A → Reading B) (q : Reading B)
    → Alike (p >>= f) q → Alike (require b g p >>= f) (require b g q)
unfolding require ◌>>=◌
require_then true g p f q e k s = e k s
require_then false g p f q e k s = refl

pub choose_then : {A B : Type 0} (b : Bool) (p p' : Reading A) (f : A → Reading B) (q q' : Reading B)
    → Alike (p >>= f) q → Alike (p' >>= f) q' → Alike (choose b p p' >>= f) (choose b q q')
unfolding choose
choose_then true p p' f q q' e e' k s = e k s
choose_then false p p' f q q' e e' k s = e' k s

pub done_then : {A B : Type 0} (a : A) (f : A → Reading B) → Alike (Done a >>= f) (f a)
unfolding ◌>>=◌
done_then a f k s = refl

-- alike readings, before the same rest
pub bind_first : {A B : Type 0} (p q : Reading A) (f : A → Reading B) → Alike p q → Alike (p >>= f) (q >>= f)
bind_first {A} {B} p q f e k s = go (run q k s) refl
  where
    go : (o : Outcome A) → run q k s ≡ o → run (p >>= f) k s ≡ run (q >>= f) k s
    go (Took a j r) x = run_bind p f k s a j r (e k s ∙ x) ∙ sym (run_bind q f k s a j r x)
    go (Halted g) x = halt_bind p f k s g (e k s ∙ x) ∙ sym (halt_bind q f k s g x)

-- one reading after another, and then the rest
pub behind : {A B X Z : Type 0} (p : Reading A) (q : A → Reading B) (w : A → B → Reading X) (f : X → Reading Z)
    → Alike ((p >>= λ a. q a >>= λ b. w a b) >>= f) (p >>= λ a. q a >>= λ b. w a b >>= f)
behind p q w f k s =
    bind_assoc p (λ a. q a >>= λ b. w a b) f k s
    ∙ bind_same p (λ a. (q a >>= λ b. w a b) >>= f) (λ a. q a >>= λ b. w a b >>= f)
    (λ a j t. bind_assoc (q a) (λ b. w a b) f j t) k s

pub behind_same : {A B Z : Type 0} (p : Reading A) (q : Reading B) (w w' : A → B → Reading Z)
    → ((a : A) (b : B) → Alike (w a b) (w' a b)) → Alike (p >>= λ a. q >>= λ b. w a b) (p >>= λ a. q >>= λ b. w' a b)
behind_same p q w w' e k s =
    bind_same p (λ a. q >>= λ b. w a b) (λ a. q >>= λ b. w' a b)
    (λ a j t. bind_same q (λ b. w a b) (λ b. w' a b) (e a) j t) k s
