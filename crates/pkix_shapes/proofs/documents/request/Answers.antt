use Rattle.std.proofs.Common.{refl}
use Rattle.pkix_definitions.specs.DocumentTypes.{AlgorithmIdentifier as Algorithm, CertificationRequest as Request, CertificationRequestInfo as Info, Extension, Name, NameItem, RequestAttribute, SubjectPublicKeyInfo}
use Rattle.pkix_shapes.proofs.documents.request.Goals as goal

pub returns-clause-type_term : goal.returns-clause-type_term
unfolding Request Info Algorithm Name NameItem SubjectPublicKeyInfo RequestAttribute Extension
returns-clause-type_term c = refl
