use Rattle.pk_documents.specs.KindRows.{kind_numbered}
use Rattle.pk_documents.proofs.KindRows.{has_its_number, is_found_exactly}
use Rattle.pk_documents.proofs.kind.Kind.numbered.Goals as goal

pub returns-clause-number : goal.returns-clause-number
unfolding kind_numbered
returns-clause-number c = has_its_number c.first_numbered.result c.args.number c.first_numbered.ensures

pub returns-clause-exactly : goal.returns-clause-exactly
unfolding kind_numbered
returns-clause-exactly c = is_found_exactly c.first_numbered.result c.args.number c.first_numbered.ensures
