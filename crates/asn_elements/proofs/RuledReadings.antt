-- What is heard of a type with a rule on its value: of the type, and then of the rule.
use Rattle.std.proofs.Common.{Bool, List, None, Option, Some, subst, ℕ, ◌≡◌}
use Rattle.tlv_core.specs.Identifier.{Tag}
use Rattle.tlv_core.specs.Limits.{Limits}
use Rattle.tlv_core.specs.declared.fault.ReadError.{ReadError}
use Rattle.tlv_core.specs.declared.reason.Reason.{Reason}
use Rattle.x690.specs.Points.{Enclosing, fault}
use Rattle.x690.specs.ReadTypes.{apply_rule, read_type}
use Rattle.x690.specs.Reading.{Fail}
use Rattle.x690.specs.Reads.{Heard, Refused, Said}
use Rattle.x690.specs.TypeTerms.{Rule, RuledType, TypeTerm}
use Rattle.x690.specs.Values.{Value}
use Rattle.ber_pull.specs.Hears.{Hears, heard_error}
use Rattle.ber_pull.proofs.Hearing.{hears_done, hears_error, hears_fail, hears_then}

pub ruled : (l : Limits) (rule : Rule) (T : TypeTerm) (earlier : List Value) (c : Enclosing) (p : ℕ) (tag : Tag)
    (constructed : Bool) (value : Value) (h : Heard Value) (k j i : ℕ) (s t u : Option (List ℕ))
    → Hears (read_type l T earlier c p tag constructed) k s (Said value) j t
    → Hears (apply_rule p (rule earlier value) value) j t h i u
    → Hears (read_type l (RuledType rule T) earlier c p tag constructed) k s h i u
unfolding read_type
ruled l rule T earlier c p tag constructed value h k j i s t u x y =
    hears_then _ (λ v. apply_rule p (rule earlier v) v) value h k j i s t u x y

pub ruled_error : (l : Limits) (rule : Rule) (T : TypeTerm) (earlier : List Value) (c : Enclosing) (p : ℕ) (tag : Tag)
    (constructed : Bool) (e : ReadError) (k i : ℕ) (s u : Option (List ℕ))
    → Hears (read_type l T earlier c p tag constructed) k s (heard_error e) i u
    → Hears (read_type l (RuledType rule T) earlier c p tag constructed) k s (heard_error e) i u
unfolding read_type
ruled_error l rule T earlier c p tag constructed e k i s u x =
    hears_error _ (λ v. apply_rule p (rule earlier v) v) e k i s u x

pub rule_holds : (p : ℕ) (refused : Option Reason) (value : Value) (k : ℕ) (s : Option (List ℕ)) → refused ≡ None
    → Hears (apply_rule p refused value) k s (Said value) k s
unfolding apply_rule
rule_holds p None value k s e = hears_done value k s
rule_holds p (Some why) value k s e = cc

pub rule_refuses : (p : ℕ) (refused : Option Reason) (why : Reason) (value : Value) (k : ℕ) (s : Option (List ℕ))
    → refused ≡ Some why → Hears (apply_rule p refused value) k s (Refused (fault p why)) k s
unfolding apply_rule
rule_refuses p None why value k s e = cc
rule_refuses p (Some other) why value k s e =
    let is : other ≡ why = cc in
    subst (λ w. Hears {A = Value} (Fail (fault p other)) k s (Refused (fault p w)) k s) is
    (hears_fail Value (fault p other) k s)
