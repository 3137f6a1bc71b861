use Rattle.std.proofs.Common.{◌∙◌, ap, drop, subst, sym}
use Rattle.x690.specs.DerTexts.{der}
use Rattle.x690.specs.Values.{leaf_at}
use Rattle.asn_documents.specs.WrittenValues.{WritesText}
use Rattle.asn_elements.specs.Leaves.{bit_string_of}
use Rattle.pkcs10.specs.Infos.{subject_key_of}
use Rattle.pkcs10.specs.Requests.{request_info_of, request_value_of, signature_of}
use Rattle.pkix_values.specs.PublicKeys.{public_key_value_of}
use Rattle.pk_documents.specs.RequestParts.{part_of}
use Rattle.pk_documents.proofs.request_part.write_part.Goals as goal

pub returns-in-Info : goal.returns-in-Info
returns-in-Info g c =
    subst (λ part.
    WritesText (part_of part (request_value_of c.args.request.now)) (g.W.Target.contents c.args.dst.now)
    (g.W.Target.contents c.write_signed_part.new.dst)
    (g.W.Target.has_failed c.write_signed_part.new.dst) c.write_signed_part.result)
    (sym c.in-Info.is) c.write_signed_part.ensures

pub returns-in-Key : goal.returns-in-Key
returns-in-Key g c =
    let key = c.key_info.ensures ∙ ap subject_key_of (c.deref-in-Key-2.ensures ∙ ap (λ info. info.fields) (c.info.ensures ∙ ap request_info_of c.deref-in-Key.ensures)) in
    let text = ap (λ it. der (public_key_value_of it)) key
    ∙ ap (λ part. part_of part (request_value_of c.args.request.now)) (sym c.in-Key.is) in
    subst (λ octets.
    WritesText octets (g.W.Target.contents c.args.dst.now) (g.W.Target.contents c.write_value-in-Key.new.dst)
    (g.W.Target.has_failed c.write_value-in-Key.new.dst) c.write_value-in-Key.result) text c.write_value-in-Key.ensures

pub returns-in-Signature : goal.returns-in-Signature
unfolding leaf_at
returns-in-Signature g c =
    let bits = c.octets.ensures.octets ∙ ap (λ it. drop 1 (bit_string_of it)) (c.signature.ensures ∙ ap signature_of c.deref-in-Signature.ensures) in
    let text =
    bits ∙ ap (λ part. part_of part (request_value_of c.args.request.now)) (sym c.in-Signature.is) in
    subst (λ octets.
    WritesText octets (g.W.Target.contents c.args.dst.now) (g.W.Target.contents c.write_octets.new.dst)
    (g.W.Target.has_failed c.write_octets.new.dst) c.write_octets.result) text c.write_octets.ensures
