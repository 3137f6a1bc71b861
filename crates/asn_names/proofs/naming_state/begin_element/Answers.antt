use Rattle.asn_names.specs.NamingSteps.{state_of}
use Rattle.asn_names.proofs.Beginnings.{began_placed}
use Rattle.asn_names.proofs.naming_state.begin_element.Goals as goal

pub returns-in-Some : goal.returns-in-Some
returns-in-Some c =
    began_placed c.args.document.now c.args.root c.args.beginning.now (state_of c.args.naming.now)
    c.take_place-taken.result c.in-Some.place _ c.begin_at.result (state_of c.begin_at.new.naming)
    c.take_place-taken.ensures.place c.in-Some.is c.take_place-taken.ensures.outer c.begin_at.ensures
