use Rattle.explain.proofs.Receiving.{received_of_requests}
use Rattle.explain.proofs.laws.received_is_info_where_it_is_in_der.Goals as goal

pub returns : goal.returns
returns c = received_of_requests
