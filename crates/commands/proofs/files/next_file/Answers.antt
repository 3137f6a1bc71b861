use Rattle.std.proofs.Common.{◌≡◌, ◌+◌, ◌≤◌, arith, length, refl, subst, take}
use Rattle.std.specs.Option.{option_map}
use Rattle.std.specs.Io.KnownBytes.{Appends}
use Rattle.pk_documents.proofs.DocumentValues.{valued}
use Rattle.commands.specs.Files.{IsLeft, IsSaid}
use Rattle.commands.specs.NameLists.{HasStopped, TakesNext}
use Rattle.commands.proofs.Entries.{cut_short, goes_further, uncounted}
use Rattle.commands.proofs.files.next_file.Goals as goal

pub returns-in-Ok-write_octets-clause-known : goal.returns-in-Ok-write_octets-clause-known
returns-in-Ok-write_octets-clause-known g c =
    let known = g.O.Opener.known c.args.opener.now in
    let refuses = g.O.Opener.refuses c.args.opener.now in
    let leaves = IsLeft g.O.Document.Source.has_failed g.O.Document.Source.remaining in
    let contents = g.W.Target.contents in
    let left = g.N.Names.left c.args.names.now in
    let new = g.N.Names.left c.next_name.new.self in
    let stops = HasStopped g.N.Names.left g.N.Names.stops c.next_name.new.self in
    let said = c.in-Ok.said in
    let out : c.in-Some.out ≡ c.args.progress.out + length said.text.items =
    omega (arith, c.in-Some.ensures, c.len.ensures) in
    λ all list old went. goes_further valued known refuses leaves c.args.task.now list left stops old
    (contents c.args.dst.now) c.args.progress.tally c.args.progress.out all went
    new (contents c.write_octets.new.dst) c.in-Ok-Some.name.items said.text.items
    said.verdict
    (subst (λ name. IsSaid valued known refuses leaves c.args.task.now name said.verdict said.text.items)
    c.as_slice.ensures.value
    c.in-Ok.ensures)
    (subst (λ next. TakesNext left new
    (option_map (λ name. name.items) next)) c.in-Ok-Some.field-0-is c.in-Ok-Some.ensures.next)
    c.with.result c.in-Some.out c.with.ensures out
    (subst (Appends (contents c.args.dst.now) (contents c.write_octets.new.dst)) c.as_slice-2.ensures.value
    c.in-Ok-write_octets.ensures.1)

pub returns-in_default-checked_add-clause-known : goal.returns-in_default-checked_add-clause-known
returns-in_default-checked_add-clause-known g c =
    let known = g.O.Opener.known c.args.opener.now in
    let refuses = g.O.Opener.refuses c.args.opener.now in
    let leaves = IsLeft g.O.Document.Source.has_failed g.O.Document.Source.remaining in
    let contents = g.W.Target.contents in
    let left = g.N.Names.left c.args.names.now in
    let new = g.N.Names.left c.next_name.new.self in
    let stops = HasStopped g.N.Names.left g.N.Names.stops c.next_name.new.self in
    let said = c.in-Ok.said in
    λ all list old went. uncounted valued known refuses leaves c.args.task.now list left
    stops old (contents c.args.dst.now)
    c.args.progress.tally c.args.progress.out all went new
    (contents c.args.dst.now) c.in-Ok-Some.name.items said.text.items said.verdict
    (subst (λ name. IsSaid valued known refuses leaves c.args.task.now name said.verdict said.text.items)
    c.as_slice.ensures.value
    c.in-Ok.ensures)
    (subst (λ next. TakesNext left new
    (option_map (λ name. name.items) next)) c.in-Ok-Some.field-0-is c.in-Ok-Some.ensures.next)
    (omega (arith, c.in_default-checked_add.ensures, c.len.ensures))

pub returns-clause-known : goal.returns-clause-known
returns-clause-known g c =
    let known = g.O.Opener.known c.args.opener.now in
    let refuses = g.O.Opener.refuses c.args.opener.now in
    let leaves = IsLeft g.O.Document.Source.has_failed g.O.Document.Source.remaining in
    let contents = g.W.Target.contents in
    let left = g.N.Names.left c.args.names.now in
    let new = g.N.Names.left c.next_name.new.self in
    let stops = HasStopped g.N.Names.left g.N.Names.stops c.next_name.new.self in
    let said = c.in-Ok.said in
    let written = c.in-Err-write_octets.error.written in
    λ all list old went. cut_short valued known refuses leaves c.args.task.now list left stops old
    (contents c.args.dst.now) c.args.progress.tally c.args.progress.out all went
    new (contents c.write_octets.new.dst) c.in-Ok-Some.name.items said.text.items
    said.verdict
    (subst (λ name. IsSaid valued known refuses leaves c.args.task.now name said.verdict said.text.items)
    c.as_slice.ensures.value
    c.in-Ok.ensures)
    (subst (λ next. TakesNext left new
    (option_map (λ name. name.items) next)) c.in-Ok-Some.field-0-is c.in-Ok-Some.ensures.next)
    (c.args.progress.out + written) written refl
    (subst (λ text. written ≤ length text) c.as_slice-2.ensures.value c.in-Err-write_octets.ensures.0)
    (subst (λ text. Appends (contents c.args.dst.now) (contents c.write_octets.new.dst) (take written text))
    c.as_slice-2.ensures.value c.in-Err-write_octets.ensures.1)
