-- The type of a kind's documents as data: which one it is, what in it is private, and what its fields are called.
use Rattle.std.specs.Prelude.{List, [], ℕ, ◌≡◌}
use Rattle.std.specs.Borrow.{Bor}
use Rattle.pkix_shapes.specs.Names as names
use Rattle.pkix_shapes.specs.Names.{names_in}
use Rattle.pkix_shapes.specs.Secrets as secrets
use Rattle.pkix_shapes.specs.Secrets.{private_paths}
use Rattle.pkix_shapes.specs.Terms.{bare, term_of}
use Rattle.pkix_shapes.specs.Paths.{Path}
use Rattle.pkix_shapes.specs.declared.shape.Shape.{Shape}
use Rattle.pk_documents.specs.Kinds.{type_of}
use Rattle.pk_documents.specs.declared.kind.Kind.{Kind}
use Rattle.pk_documents.specs.declared.kind.Kind.TheVariants.{Ec, Encrypted, Key, Package, Public, Request}

-- the paths to what is private in documents of the kind
abbrev pub private_of : Kind → List Path
private_of Key = secrets.of_key
private_of Ec = secrets.of_ec_key
private_of Request = secrets.of_request
private_of Public = []
private_of Encrypted = secrets.of_encrypted_key
private_of Package = secrets.of_package

-- the names of the fields in documents of the kind, by which a report says what is public
abbrev pub names_of : Kind → List (List ℕ)
names_of Key = names.in_key
names_of Ec = names.in_ec_key
names_of Request = names.in_request
names_of Public = names.in_public_key
names_of Encrypted = names.in_encrypted_key
names_of Package = names.in_key

pub record IsShapeOf (of : Kind) (root : Bor Shape) : Type 0 where
  pub type : term_of root.now ≡ bare (type_of of)
  pub private : private_paths root.now ≡ private_of of
  pub names : names_in root.now ≡ names_of of
