-- The path of a field, as `certificationRequestInfo.subject[2][0].value`.
use Rattle.std.specs.Prelude.{List, [], codes, cond, decimal, length, ℕ, ◌++◌, ◌==◌, ◌∷◌}
use Rattle.asn_names.specs.declared.element.Step.{Step}
use Rattle.asn_names.specs.declared.element.Step.TheVariants.{Field, Member, Outermost, Outside, Segment}

-- the name of a field after the path to it, with a full stop between; what is under an explicit tag has no name
abbrev pub with_name : List ℕ → List ℕ → List ℕ
with_name path name =
    cond (length name == 0) path (path ++ (cond (length path == 0) [] (codes ".") ++ name))

-- One step further: a field by its name, a member by its number in brackets, a segment by its number in braces.
unfoldable pub with_step : List ℕ → Step → List ℕ
with_step path Outermost = path
with_step path (Field name) = with_name path name.now
with_step path (Member number) = path ++ (codes "[" ++ decimal number ++ codes "]")
with_step path (Segment number) = path ++ (codes "{" ++ decimal number ++ codes "}")
with_step path Outside = path

-- further by a path
abbrev pub with_steps : List ℕ → List Step → List ℕ
with_steps path [] = path
with_steps path (step ∷ steps) = with_steps (with_step path step) steps

-- a path, or the name of the outermost element's type where it is empty
abbrev pub with_root : List ℕ → List ℕ → List ℕ
with_root root path = path ++ cond (length path == 0) root []

-- The path of a path from the outermost element, which itself is called by the name of its type.
abbrev pub path_text : List ℕ → List Step → List ℕ
path_text root steps = with_root root (with_steps [] steps)
