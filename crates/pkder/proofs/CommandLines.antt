-- What clap makes of the words, as tasks.
use Rattle.std.proofs.Common.{Global, String, ℕ, ◌≡◌, ◌∙◌, ◌⊎◌, ◌&&◌, Bool, List, [], ◌∷◌, None, Option, Some, Result, Ok, Err, ap, ap₂, cond, false, inl, inr, map, refl, subst, sym, true}
use Rattle.std.specs.Prelude.{IfSome, IsErr, MatchResult, option_map, slice_get, string_bytes, codes, unwrap_or}
use Rattle.std.proofs.lemmas.Option.{same_Some}
use Rattle.std.specs.Borrow.{Bor}
use Rattle.std.specs.List.{list_any}
use Rattle.std.specs.Option.{is_some, option_or}
use Rattle.clap.specs.Words.{App, FailsBy, HasMatchesOf, IsAmong, Kinds, Row, Text, all_of, fault_of, first_of, first_value, is_simple_and_free, matched_of, raw_values, rows_of, subcommand_of, subcommand_rows_of}
use Rattle.clap.specs.declared.error.kind.ErrorKind.{ErrorKind}
use Rattle.clap.specs.declared.error.kind.ErrorKind.TheVariants as errors
use Rattle.clap.specs.declared.parser.matches.ArgMatches.{ArgMatches}
use Rattle.clap.specs.declared.parser.matches.Found.{Found}
use Rattle.clap.proofs.WalkLemmas.{first_value-rows, raw_values-rows}
use Rattle.pkder.proofs.OneCommand.{MeansSame}
use Rattle.pkder.proofs.PlainTexts.{controls_plain}
use Rattle.pkder.specs.CommandLines.{Invokes, InvokesNothing, BadAction, BadInvocation, BadKindOf, BadKinds, BadNamedKind, BadOther, BadPart, BadPlaces, BadProfile, BadRefuse, IsFaultOf, IsPlainLine, MeansInvocation, MeansBy, MeansNothing, MeansTask, ReadsAction, ReadsKind, ReadsNamedKind, ReadsNotedProfile, ReadsPair, ReadsPlaces, ReadsProfile, ReadsRefuse, ShowsPlaces, ShowsOwn, ShowsWhy, advice_for_command, advised_line, are_of_same, asks_reasons, bad_value_line, both_kinds, command_advised, command_name, controls_line, has_control, is_each_of_list, is_for_tls, is_given, is_same, kinds_given, kinds_of, missing_line, no_kind_line, option_advised, other_taken, part_name, program, refuses, taken_kind, value_of}
use Rattle.pk_documents.specs.declared.kind.Kind.{Kind}
use Rattle.explain.specs.declared.profile.Profile.{Profile}
use Rattle.explain.specs.declared.received.RequestPart.{RequestPart}
use Rattle.explain.specs.declared.profile.Profile.TheVariants.{General, Tls}
use Rattle.pkder.specs.declared.refusal.BadValue.{BadValue}
use Rattle.pkder.specs.declared.line.LineFault.{LineFault}
use Rattle.pkder.specs.declared.line.LineFault.TheVariants as faults
use Rattle.pkder.specs.declared.line.Invocation.{Invocation}
use Rattle.pkder.specs.declared.line.Invocation.TheVariants.{Both, Each}
use Rattle.pkder.specs.declared.pair.Pair.{Pair}
use Rattle.commands.specs.declared.task.Action.{Action}
use Rattle.commands.specs.declared.task.Action.TheVariants.{Check, Explain, Normalise, Note, Show, Signed}
use Rattle.commands.specs.declared.task.Refuse.{Refuse}
use Rattle.commands.specs.declared.task.Refuse.TheVariants.{Must, Nothing}
use Rattle.commands.specs.declared.task.Task.{Task}

-- ---- the line

none_among : (kind : ErrorKind) (kinds : Kinds) → IsAmong kind kinds → kinds ≡ [] → ⊥
none_among kind [] h e = h
none_among kind (k ∷ ks) h e = cc

-- a line that clap takes
pub invocation : (app : App) (words : List Text) (m : ArgMatches) (r : Result Invocation LineFault)
    → asks_reasons words ≡ false → MeansSame words app → HasMatchesOf app words m
    → (is_simple_and_free app ≡ true → FailsBy (fault_of app words) (Ok m))
    → MatchResult r (MeansBy (subcommand_rows_of m)) (MeansNothing (subcommand_rows_of m))
    → MatchResult r (Invokes words) (InvokesNothing words)
invocation app words m r plain same matches kinds means =
    let none : fault_of program words ≡ [] = sym same.2 ∙ kinds same.1 in
    let met : subcommand_rows_of m ≡ subcommand_of program words = (matches same.0).1 ∙ same.3 in
    go r none met means
  where
    go : (r : Result Invocation LineFault) → fault_of program words ≡ []
        → subcommand_rows_of m ≡ subcommand_of program words
        → MatchResult r (MeansBy (subcommand_rows_of m)) (MeansNothing (subcommand_rows_of m))
        → MatchResult r (Invokes words) (InvokesNothing words)
    go (Ok invocation) none met h = (plain, none, subst (λ z. MeansBy z invocation) met h)
    go (Err (faults.Line text)) none met h = (
      plain,
      λ invocation a. h.0 invocation (subst (λ z. MeansBy z invocation) (sym met) a.2),
      inr (none, subst (λ z. ShowsWhy z (string_bytes text)) met h.1),
    )
    go (Err (faults.Help text)) none met h = absurd h
    go (Err faults.Memory) none met h = tt

among : (kind : ErrorKind) (app : App) (words : List Text) → MeansSame words app
    → (is_simple_and_free app ≡ true → (kind ≡ errors.OutOfMemory) ⊎ IsAmong kind (fault_of app words))
    → (kind ≡ errors.OutOfMemory → ⊥) → IsAmong kind (fault_of program words)
among kind app words same kinds other =
    elim (kinds same.1) [
      | inl memory ↦ absurd (other memory)
      | inr h ↦ subst (IsAmong kind) same.2 h
    ]

-- ---- what is shown of a line that clap refuses

plain_refusal : (kind : ErrorKind) (words : List Text) (line : Text) → ShowsOwn kind words line
    → list_any has_control words ≡ true → IsPlainLine line
plain_refusal kind words line shows has =
    let is : line ≡ controls_line words = go (list_any has_control words) _ has shows in
    subst IsPlainLine (sym is) (controls_plain words)
  where
    go : (c : Bool) (other : Option Text) → c ≡ true
        → IfSome (cond c (Some (controls_line words)) other) (λ due. line ≡ due) → line ≡ controls_line words
    go true other e h = h
    go false other e h = absurd cc

-- words of which some have control characters
pub shows_controls : (kind : ErrorKind) (words : List Text) (line : Text) → list_any has_control words ≡ true
    → line ≡ controls_line words → ShowsOwn kind words line
shows_controls kind words line has is = go (list_any has_control words) _ has
  where
    go : (c : Bool) (other : Option Text) → c ≡ true
        → IfSome (cond c (Some (controls_line words)) other) (λ due. line ≡ due)
    go true other e = is
    go false other e = absurd cc

-- words of which none has
pub shows_other : (kind : ErrorKind) (words : List Text) (line : Text) (due : Option Text)
    → list_any has_control words ≡ false
    → option_or (command_advised words) (option_or (option_advised words) (missing_line kind words)) ≡ due
    → IfSome due (λ d. line ≡ d) → ShowsOwn kind words line
shows_other kind words line due none is shows = go (list_any has_control words) _ none
  where
    go : (c : Bool) (own : Option Text) → c ≡ false
        → IfSome
        (cond c own
        (option_or (command_advised words) (option_or (option_advised words) (missing_line kind words))))
        (λ d. line ≡ d)
    go true own e = absurd cc
    go false own e = subst (λ o. IfSome o (λ d. line ≡ d)) (sym is) shows

-- what is advised of the second word
pub second_advised : (words : List (String Global)) (word : String Global) → slice_get words 1 ≡ Some word
    → command_advised (map (λ w. string_bytes w) words)
    ≡ option_map (advised_line (string_bytes word)) (advice_for_command (string_bytes word))
second_advised [] word e = absurd cc
second_advised (x ∷ []) word e = absurd cc
second_advised (x ∷ y ∷ ws) word e =
    ap (λ w. option_map (advised_line (string_bytes w)) (advice_for_command (string_bytes w))) (same_Some y word e)

-- one in the place of whose command something else is typed
pub shows_command : (kind : ErrorKind) (words : List Text) (line : Text) → list_any has_control words ≡ false
    → Some line ≡ command_advised words → ShowsOwn kind words line
shows_command kind words line none is =
    shows_other kind words line (Some line) none
    (ap (λ o. option_or o (option_or (option_advised words) (missing_line kind words))) (sym is)) refl

-- one of whose words is an option of another program
pub shows_option : (kind : ErrorKind) (words : List Text) (line : Text) → list_any has_control words ≡ false
    → None ≡ command_advised words → Some line ≡ option_advised words → ShowsOwn kind words line
shows_option kind words line none neither is =
    shows_other kind words line (Some line) none
    (ap (λ o. option_or o (option_or (option_advised words) (missing_line kind words))) (sym neither)
    ∙ ap (λ o. option_or o (missing_line kind words)) (sym is)) refl

-- any other one
pub shows_missing : (kind : ErrorKind) (words : List Text) (line : Text) → list_any has_control words ≡ false
    → None ≡ command_advised words → None ≡ option_advised words → IfSome (missing_line kind words) (λ d. line ≡ d)
    → ShowsOwn kind words line
shows_missing kind words line none first others shows =
    shows_other kind words line (missing_line kind words) none
    (ap (λ o. option_or o (option_or (option_advised words) (missing_line kind words))) (sym first)
    ∙ ap (λ o. option_or o (missing_line kind words)) (sym others)) shows

-- what is missing, where the command isn't `same`
pub missing_due : (words : List Text) (line : Text) → (are_of_same words ≡ false → line ≡ no_kind_line)
    → IfSome (missing_line errors.MissingRequiredArgument words) (λ d. line ≡ d)
missing_due words line own = go (are_of_same words) own
  where
    go : (b : Bool) → (b ≡ false → line ≡ no_kind_line)
        → IfSome (cond b None (Some no_kind_line)) (λ d. line ≡ d)
    go true h = tt
    go false h = h refl

-- an error for which no line is our own
pub missing_other : (kind : ErrorKind) (words : List Text) (P : Text → Type 0)
    → (kind ≡ errors.MissingRequiredArgument → ⊥) → IfSome (missing_line kind words) P
missing_other errors.MissingRequiredArgument words P other = absurd (other refl)
missing_other errors.InvalidValue words P other = tt
missing_other errors.UnknownArgument words P other = tt
missing_other errors.InvalidSubcommand words P other = tt
missing_other errors.NoEquals words P other = tt
missing_other errors.ValueValidation words P other = tt
missing_other errors.TooManyValues words P other = tt
missing_other errors.TooFewValues words P other = tt
missing_other errors.WrongNumberOfValues words P other = tt
missing_other errors.ArgumentConflict words P other = tt
missing_other errors.MissingSubcommand words P other = tt
missing_other errors.DisplayHelp words P other = tt
missing_other errors.DisplayHelpOnMissingArgumentOrSubcommand words P other = tt
missing_other errors.DisplayVersion words P other = tt
missing_other errors.Io words P other = tt
missing_other errors.Format words P other = tt
missing_other errors.OutOfMemory words P other = tt

-- a line that clap refuses
pub refused : (kind : ErrorKind) (app : App) (words : List Text) (f : LineFault)
    → asks_reasons words ≡ false → MeansSame words app
    → (is_simple_and_free app ≡ true → (kind ≡ errors.OutOfMemory) ⊎ IsAmong kind (fault_of app words))
    → IsFaultOf kind words f → InvokesNothing words f
refused kind app words (faults.Line text) plain same kinds other =
    let h = among kind app words same kinds other.0.0 in (
      plain,
      λ invocation a. none_among kind (fault_of program words) h a.1,
      inl (kind, h, other.0, other.1, plain_refusal kind words (string_bytes text) other.1),
    )
refused kind app words (faults.Help text) plain same kinds invocation =
    elim invocation [
      | inl h ↦
          inr (inl (subst (λ k. IsAmong k (fault_of program words)) h (among kind app words same kinds (λ m. cc))))
      | inr h ↦
          inr (inr (subst (λ k. IsAmong k (fault_of program words)) h (among kind app words same kinds (λ m. cc))))
    ]
refused kind app words faults.Memory plain same kinds memory = tt

-- ---- the options

-- the text of an option, where its value is one and where it has none
pub text_of_option : (o : Option (Bor Text)) (none : Bor Text) (f : Found) (id : Text) → none.now ≡ []
    → option_map (λ s. s.now) o ≡ first_value f id → (unwrap_or o none).now ≡ value_of id (rows_of f)
text_of_option None none f id empty is = empty ∙ ap (λ z. unwrap_or z []) (is ∙ first_value-rows f id)
text_of_option (Some s) none f id empty is = ap (λ z. unwrap_or z []) (is ∙ first_value-rows f id)

-- an error means no task
pub means_none : {T E : Type 0} (P : T → Type 0) (Q : Type 0) (r : Result T E) → IsErr r → Q → MatchResult r P (λ e. Q)
means_none P Q (Ok t) is q = absurd cc
means_none P Q (Err e) is q = q

-- the text of an option that may have none
pub option_text : (o : Option (Bor Text)) (f : Found) (id : Text) → option_map (λ s. s.now) o ≡ first_value f id
    → option_map (λ s. s.now) o ≡ first_of id (rows_of f)
option_text o f id is = is ∙ first_value-rows f id

-- it has one, or none
is_listed : (o : Option (Bor Text)) (first : Option Text) → option_map (λ s. s.now) o ≡ first
    → is_some first ≡ is_some o
is_listed None first is = ap is_some (sym is)
is_listed (Some text) first is = ap is_some (sym is)

-- whether documents one behind another are to be those of a list
module _ (each : Bool) (list : Option (Bor Text)) (rows : List Row) (given : each ≡ is_given (codes "each") rows)
    (listed : option_map (λ s. s.now) list ≡ first_of (codes "files0-from") rows) where
  pub each_of_list : each ≡ true → is_some list ≡ true → is_each_of_list rows ≡ true
  each_of_list is some = ap₂ ◌&&◌ (sym given ∙ is) (is_listed list _ listed ∙ some)

  pub each_without_list : each ≡ true → is_some list ≡ false → is_each_of_list rows ≡ false
  each_without_list is none = ap₂ ◌&&◌ (sym given ∙ is) (is_listed list _ listed ∙ none)

  pub not_each : each ≡ false → is_each_of_list rows ≡ false
  not_each not = ap (λ it. it && is_some (first_of (codes "files0-from") rows)) (sym given ∙ not)

-- the values of an option, none where it has none
pub texts_of_option : (o : Option (Bor (List (Bor Text)))) (f : Found) (id : Text)
    → option_map (λ s. map (λ v. v.now) s.now) o ≡ option_map raw_values (matched_of f id)
    → unwrap_or (option_map (λ s. map (λ v. v.now) s.now) o) [] ≡ unwrap_or (all_of id (rows_of f)) []
texts_of_option o f id is = ap (λ z. unwrap_or z []) (is ∙ raw_values-rows f id)

-- its options have a value that they can't have, and the line says which
pub shown_why : (sub : Option (Text × List Row)) (name : Text) (rows : List Row) (bad : BadValue) (line : Text)
    → sub ≡ Some (name, rows) → ((invocation : Invocation) → MeansInvocation name rows invocation → ⊥)
    → BadInvocation name rows bad
    → line ≡ bad_value_line bad
    → ((invocation : Invocation) → MeansBy sub invocation → ⊥) × ShowsWhy sub line
shown_why sub name rows bad line met none why is = (
  λ invocation m. none invocation (subst (λ z. MeansBy z invocation) met m),
  subst (λ z. ShowsWhy z line) (sym met) (bad, why, is),
)

-- ---- what a command does

no_places : (rows : List Row) (bad : BadValue) (places : ℕ) → BadPlaces rows bad → ReadsPlaces rows places → ⊥
no_places rows bad places b r = b.1 places r.0 r.1 r.2

no_part : (rows : List Row) (bad : BadValue) (part : RequestPart) → BadPart rows bad
    → value_of (codes "part") rows ≡ part_name part → ⊥
no_part rows bad part b r = b.1 part r

no_refuse : (rows : List Row) (bad : BadValue) (refuse : Refuse) → BadRefuse rows bad → ReadsRefuse rows refuse → ⊥
no_refuse rows bad refuse b r = cc (b.1, r)

no_profile : (rows : List Row) (bad : BadValue) (profile : Profile) → BadProfile rows bad → ReadsProfile rows profile
    → ⊥
no_profile rows bad profile b r = cc (b.1, r)

no_noted_profile : (rows : List Row) (bad : BadValue) (profile : Profile) → BadProfile rows bad
    → ReadsNotedProfile rows profile → ⊥
no_noted_profile rows bad profile b r = no_profile rows bad r.0 b r.1

-- where nothing is refused
pub nothing_refused : (refuse : Refuse) → refuses refuse ≡ false → refuse ≡ Nothing
nothing_refused Nothing e = refl
nothing_refused Must e = cc

-- where no profile is asked for
pub for_anything : (profile : Profile) → is_for_tls profile ≡ false → profile ≡ General
for_anything General e = refl
for_anything Tls e = cc

-- a command that says places and notes, and one of this name
shows_none : (name other : Text) → ShowsPlaces name → name ≡ other → (codes "check" ≡ other → ⊥)
    → (codes "explain" ≡ other → ⊥) → ⊥
shows_none name other t e check explain = elim t [ inl h ↦ check (sym h ∙ e) | inr h ↦ explain (sym h ∙ e) ]

bad_action : (name : Text) (rows : List Row) (bad : BadValue) (action : Action) → BadAction name rows bad
    → name ≡ command_name action → ReadsAction action rows → ⊥
bad_action name rows bad action (inr (inr (inr (inr h)))) e r = h.1 action e
bad_action name rows bad (Show json) (inl h) e r = cc
bad_action name rows bad (Check json quiet places) (inl h) e r = cc
bad_action name rows bad (Note noting) (inl h) e r = cc
bad_action name rows bad (Explain form) (inl h) e r = cc
bad_action name rows bad Normalise (inl h) e r = cc
bad_action name rows bad (Signed part) (inl h) e r = no_part rows bad part h.1 r
bad_action name rows bad (Show json) (inr (inl h)) e r = shows_none name _ h.0 e (λ z. cc) (λ z. cc)
bad_action name rows bad (Check json quiet places) (inr (inl h)) e r = no_places rows bad places h.1 r.2
bad_action name rows bad (Note noting) (inr (inl h)) e r = no_places rows bad noting.places h.1 r.0.2
bad_action name rows bad (Explain form) (inr (inl h)) e r = no_places rows bad form.places h.1 r.3
bad_action name rows bad Normalise (inr (inl h)) e r = shows_none name _ h.0 e (λ z. cc) (λ z. cc)
bad_action name rows bad (Signed part) (inr (inl h)) e r = shows_none name _ h.0 e (λ z. cc) (λ z. cc)
bad_action name rows bad (Show json) (inr (inr (inl h))) e r = cc
bad_action name rows bad (Check json quiet places) (inr (inr (inl h))) e r = no_refuse rows bad Nothing h.1 r.3
bad_action name rows bad (Note noting) (inr (inr (inl h))) e r = no_refuse rows bad noting.refuse h.1 r.0.3
bad_action name rows bad (Explain form) (inr (inr (inl h))) e r = cc
bad_action name rows bad Normalise (inr (inr (inl h))) e r = cc
bad_action name rows bad (Signed part) (inr (inr (inl h))) e r = cc
bad_action name rows bad (Show json) (inr (inr (inr (inl h)))) e r = shows_none name _ h.0 e (λ z. cc) (λ z. cc)
bad_action name rows bad (Check json quiet places) (inr (inr (inr (inl h)))) e r =
    no_noted_profile rows bad General h.1 r.4
bad_action name rows bad (Note noting) (inr (inr (inr (inl h)))) e r =
    no_noted_profile rows bad noting.profile h.1 r.0.4
bad_action name rows bad (Explain form) (inr (inr (inr (inl h)))) e r = no_profile rows bad form.profile h.1 r.4
bad_action name rows bad Normalise (inr (inr (inr (inl h)))) e r = shows_none name _ h.0 e (λ z. cc) (λ z. cc)
bad_action name rows bad (Signed part) (inr (inr (inr (inl h)))) e r = shows_none name _ h.0 e (λ z. cc) (λ z. cc)

-- a command whose action can't be read has no task
pub no_action : (name : Text) (rows : List Row) (bad : BadValue) (task : Task) → BadAction name rows bad
    → MeansTask name rows task → ⊥
no_action name rows bad task h m = bad_action name rows bad task.action h m.0 m.1

-- ---- the kind

no_named : (rows : List Row) (bad : BadValue) (action other : Action) (kind : Kind)
    → command_name action ≡ command_name other → BadNamedKind action rows bad → ReadsNamedKind other rows kind → ⊥
no_named rows bad (Signed part) (Signed written) kind e b r = b.1 (r.0 ∙ ap Some r.1)
no_named rows bad (Signed part) (Show json) kind e b r = cc
no_named rows bad (Signed part) (Check json quiet places) kind e b r = cc
no_named rows bad (Signed part) (Note noting) kind e b r = cc
no_named rows bad (Signed part) (Explain form) kind e b r = cc
no_named rows bad (Signed part) Normalise kind e b r = cc
no_named rows bad (Show json) other kind e b r = cc (b.1, r.0)
no_named rows bad (Check json quiet places) other kind e b r = cc (b.1, r.0)
no_named rows bad (Note noting) other kind e b r = cc (b.1, r.0)
no_named rows bad (Explain form) other kind e b r = cc (b.1, r.0)
no_named rows bad Normalise other kind e b r = cc (b.1, r.0)

no_kind_of : (rows : List Row) (bad : BadValue) (action other : Action) (kind : Option Kind)
    → command_name action ≡ command_name other → BadKindOf action rows bad → ReadsKind other rows kind → ⊥
no_kind_of rows bad action other None e (inl h) r = h.1.1 r.1
no_kind_of rows bad action other None e (inr h) r = cc (h.0, r.0)
no_kind_of rows bad action other (Some kind) e (inl h) r = cc (h.0, r.0)
no_kind_of rows bad action other (Some kind) e (inr h) r = no_named rows bad action other kind e h.1 r.1

-- a command whose kind can't be read has no task
pub no_kind : (name : Text) (rows : List Row) (bad : BadValue) (action : Action) (task : Task)
    → name ≡ command_name action → BadKindOf action rows bad → MeansTask name rows task → ⊥
no_kind name rows bad action task is h m = no_kind_of rows bad action task.action task.kind (sym is ∙ m.0) h m.2

-- ---- the kinds of two documents

-- the kinds that are given, where some are and where none is
pub kinds_some : (o : Option (Bor (List (Bor Text)))) (given : Bor (List (Bor Text))) (f : Found) → o ≡ Some given
    → option_map (λ s. map (λ v. v.now) s.now) o ≡ option_map raw_values (matched_of f (codes "kind"))
    → map (λ v. v.now) given.now ≡ kinds_given (rows_of f)
kinds_some o given f is h =
    sym (ap (λ z. unwrap_or (option_map (λ s. map (λ v. v.now) s.now) z) []) is) ∙ texts_of_option o f (codes "kind") h

pub kinds_none : (o : Option (Bor (List (Bor Text)))) (f : Found) → o ≡ None
    → option_map (λ s. map (λ v. v.now) s.now) o ≡ option_map raw_values (matched_of f (codes "kind"))
    → [] ≡ kinds_given (rows_of f)
kinds_none o f is h =
    sym (ap (λ z. unwrap_or (option_map (λ s. map (λ v. v.now) s.now) z) []) is) ∙ texts_of_option o f (codes "kind") h

both_first : (o p : Option Kind) (kinds : Kind × Kind) → o ≡ None → both_kinds o p ≡ Some kinds → ⊥
both_first None p kinds e h = cc
both_first (Some kind) p kinds e h = cc

both_second : (o p : Option Kind) (kinds : Kind × Kind) → p ≡ None → both_kinds o p ≡ Some kinds → ⊥
both_second None p kinds e h = cc
both_second (Some kind) None kinds e h = cc
both_second (Some kind) (Some other) kinds e h = cc

other_none : (key : Bool) (text : Text) (others : List Text) (bad : BadValue) → BadOther key text others bad
    → other_taken key text others ≡ None
other_none true text [] bad h = h.1
other_none true text (other ∷ others) bad h = refl
other_none false text others bad h = refl

-- kinds that are refused are none
pub no_kinds : (key : Bool) (texts : List Text) (bad : BadValue) (kinds : Kind × Kind) → BadKinds key texts bad
    → kinds_of key texts ≡ Some kinds → ⊥
no_kinds key [] bad kinds h e = both_first (taken_kind key []) _ kinds h.1 e
no_kinds key (text ∷ []) bad kinds h e = both_first (taken_kind key text) _ kinds h.1 e
no_kinds key (text ∷ other ∷ others) bad kinds (inl h) e = both_first (taken_kind key text) _ kinds h.1 e
no_kinds key (text ∷ other ∷ others) bad kinds (inr h) e =
    both_second (taken_kind key text) _ kinds (other_none key other others bad h.1) e

-- ---- the command `same`

not_same : (name : Text) (action : Action) → is_same name ≡ true → name ≡ command_name action → ⊥
not_same name (Show json) same is = let f : false ≡ true = sym (ap is_same is) ∙ same in cc
not_same name (Check json quiet places) same is = let f : false ≡ true = sym (ap is_same is) ∙ same in cc
not_same name (Note noting) same is = let f : false ≡ true = sym (ap is_same is) ∙ same in cc
not_same name (Explain form) same is = let f : false ≡ true = sym (ap is_same is) ∙ same in cc
not_same name Normalise same is = let f : false ≡ true = sym (ap is_same is) ∙ same in cc
not_same name (Signed part) same is = let f : false ≡ true = sym (ap is_same is) ∙ same in cc

-- it asks for nothing where no pair is read
pub no_pair : (name : Text) (rows : List Row) → is_same name ≡ true → ((pair : Pair) → ReadsPair rows pair → ⊥)
    → (invocation : Invocation) → MeansInvocation name rows invocation → ⊥
no_pair name rows same none (Each order) h = not_same name order.task.action same h.0.0
no_pair name rows same none (Both pair) h = none pair h.1
