use Rattle.std.proofs.Common.{List, Some, arith, false, inr, length, refl, subst, sym, take, ℕ, ◌≡◌, ◌≤◌}
use Rattle.std.specs.Borrow.{Bor}
use Rattle.std.specs.Io.KnownBytes.{Appends}
use Rattle.pk_documents.proofs.DocumentValues.{valued}
use Rattle.commands.specs.Each.{IsPieceSaid, Piece}
use Rattle.commands.specs.Files.{IsLeft}
use Rattle.commands.proofs.EachSteps.{said_at_hand}
use Rattle.commands.proofs.each.say.Goals as goal

pub returns-in-Ok-write_octets-clause-says : goal.returns-in-Ok-write_octets-clause-says
returns-in-Ok-write_octets-clause-says g c =
    let contents = g.W.Target.contents in
    let octets = c.args.octets.now in
    let name = c.args.name.now in
    let said = c.in-Ok.said in
    let piece : Piece = record {
      octets = octets;
      entry = record { name = name; verdict = said.verdict; text = said.text.items };
    } in
    let is : IsPieceSaid valued c.args.task.now name piece = (
      refl,
      said_at_hand valued octets (IsLeft {Source = Bor (List ℕ)} (λ _. false) (λ it. Some it.now)) (λ failed _. failed ≡ false)
          c.args.task.now name said.verdict said.text.items (λ failed after left. sym left.1) c.in-Ok.ensures,
    ) in (
      piece,
      refl,
      is,
      record {
        written =
            subst (Appends (contents c.args.dst.now) (contents c.write_octets.new.dst)) c.as_slice.ensures.value
            c.in-Ok-write_octets.ensures.1;
        counted = omega (arith, c.in-Some.ensures, c.len.ensures);
        tallied = c.with.ensures;
      },
    )

pub returns-in_default-checked_add-clause-says : goal.returns-in_default-checked_add-clause-says
returns-in_default-checked_add-clause-says g c =
    let octets = c.args.octets.now in
    let name = c.args.name.now in
    let said = c.in-Ok.said in
    let piece : Piece = record {
      octets = octets;
      entry = record { name = name; verdict = said.verdict; text = said.text.items };
    } in
    let is : IsPieceSaid valued c.args.task.now name piece = (
      refl,
      said_at_hand valued octets (IsLeft {Source = Bor (List ℕ)} (λ _. false) (λ it. Some it.now)) (λ failed _. failed ≡ false)
          c.args.task.now name said.verdict said.text.items (λ failed after left. sym left.1) c.in-Ok.ensures,
    ) in
    inr (piece, refl, is, (refl, omega (arith, c.in_default-checked_add.ensures, c.len.ensures), refl))

pub returns-clause-says : goal.returns-clause-says
returns-clause-says g c =
    let contents = g.W.Target.contents in
    let octets = c.args.octets.now in
    let name = c.args.name.now in
    let said = c.in-Ok.said in
    let written = c.in-Err.error.written in
    let piece : Piece = record {
      octets = octets;
      entry = record { name = name; verdict = said.verdict; text = said.text.items };
    } in
    let is : IsPieceSaid valued c.args.task.now name piece = (
      refl,
      said_at_hand valued octets (IsLeft {Source = Bor (List ℕ)} (λ _. false) (λ it. Some it.now)) (λ failed _. failed ≡ false)
          c.args.task.now name said.verdict said.text.items (λ failed after left. sym left.1) c.in-Ok.ensures,
    ) in
    inr (
      piece,
      refl,
      is,
      (
        written,
        refl,
        subst (λ text. written ≤ length text) c.as_slice.ensures.value c.in-Err.ensures.0,
        subst (λ text. Appends (contents c.args.dst.now) (contents c.write_octets.new.dst) (take written text))
            c.as_slice.ensures.value c.in-Err.ensures.1,
      ),
    )
