use Rattle.std.proofs.Common.{Ok, map, take}
use Rattle.tlv_core.specs.Sinks.{Puts}
use Rattle.x690.specs.DerTexts.{texts_of}
use Rattle.asn_lists.proofs.row.put_texts.Given as goal

abbrev pub invariant-loop-item : goal.invariant-loop-item
invariant-loop-item g l = Puts (texts_of (take l.item-index (map g.T.DerText.value l.items))) l.fn.sink l.sink (Ok tt)
