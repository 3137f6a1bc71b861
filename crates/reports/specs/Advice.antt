-- What each reason means, what often causes it, and what to do.
use Rattle.std.specs.Prelude.{List, codes, ℕ, ◌++◌}
use Rattle.tlv_core.specs.declared.reason.Reason.{Reason}
use Rattle.tlv_core.specs.declared.reason.Reason.TheVariants.{Truncated, TooLong, BadTag, PastEnd, BadEnd, TooDeep, WrongTag, Extra, LeftOut, WrongForm, BadLength, Missing, BadInteger, BadBoolean, BadNull, BadBits, BadOid, BadText, EmptySet, Version, Parameters, Inner, Curve, KeyLength, VersionRule, TextTooLong, Trailing}
use Rattle.reports.specs.declared.advice.Advice.{Advice}

pub record Words : Type 0 where
  pub means : List ℕ
  pub likely : List ℕ
  pub act : List ℕ

abbrev pub words_of : Advice → Words
words_of it = record { means = it.means.now; likely = it.likely.now; act = it.act.now }

-- the words of the manual's table; P is the place that is shown with the reason
abbrev pub advice_of : Reason → Words
advice_of Truncated =
    record {
      means = codes "the input ends before the document does; P is how many octets there are";
      likely = codes "a transfer that broke off, an outer length that is too large, an empty file (P is 0)";
      act = codes "compare the size with the sender's, fetch it again";
    }
advice_of TooLong =
    record {
      means = codes "the document is longer than --octets, or says so";
      likely = codes "a damaged length, something that isn't ASN.1; seldom a long document";
      act = codes "if wc -c says that it is so long, raise --octets";
    }
advice_of BadTag =
    record {
      means = codes "no element has such an identifier";
      likely = codes "a damaged octet, something that isn't ASN.1, a tag number of 2^28 or more";
      act = codes "refuse it";
    }
advice_of PastEnd =
    record {
      means = codes "the element at P ends after the one that it is in";
      likely = codes "a length that is damaged, here or around it; a field edited by hand";
      act = codes "look at the lengths before P; refuse it";
    }
advice_of BadEnd =
    record {
      means = codes "an octet 00 where an element should begin";
      likely = codes "padding with zeros, a wrong length before P";
      act = codes "refuse it";
    }
advice_of TooDeep =
    record {
      means = codes "elements are nested deeper than --depth";
      likely = codes "an attack; a strange attribute";
      act = codes "up to --depth 64, if you know the file";
    }
advice_of WrongTag =
    record {
      means = codes "another type stands at P than is due there";
      likely = codes "at 0 PEM or text, at 2 to 13 another kind of document; else a damaged octet, a curve "
          ++ codes "that is written out, an attribute's value without its SET";
      act = codes "see the manual's table of other kinds and formats";
    }
advice_of Extra =
    record {
      means = codes "an element after the last field";
      likely = codes "a container's length that is too large, two values in one, a writer's own additions";
      act = codes "look at the container; refuse it";
    }
advice_of LeftOut =
    record {
      means = codes "where any type may stand, one that pkder doesn't read: EXTERNAL, REAL, EMBEDDED PDV, "
          ++ codes "RELATIVE-OID, TIME and later ones";
      likely = codes "a rare attribute, a damaged octet";
      act = codes "pkder can't judge it";
    }
advice_of WrongForm =
    record {
      means = codes "a SEQUENCE, SET or explicit tag that is primitive, or a number, BOOLEAN, NULL or "
          ++ codes "object identifier that is constructed";
      likely = codes "a damaged identifier, a fault of the writer";
      act = codes "refuse it";
    }
advice_of BadLength =
    record {
      means = codes "a length FF, or an indefinite one of something primitive";
      likely = codes "a damaged length, a fault of the writer";
      act = codes "refuse it";
    }
advice_of Missing =
    record {
      means = codes "an element ends where a field is still due";
      likely = codes "a length that is too small, an empty SEQUENCE, a field left out";
      act = codes "refuse it";
    }
advice_of BadInteger =
    record {
      means = codes "a number of no octets, or with a needless 00 or FF at its front";
      likely = codes "a writer that pads numbers to one size, seen in RSA keys";
      act = codes "BER forbids it too: have the key written anew";
    }
advice_of BadBoolean =
    record {
      means = codes "a BOOLEAN that hasn't just one octet";
      likely = codes "a damaged length";
      act = codes "refuse it";
    }
advice_of BadNull =
    record {
      means = codes "a NULL that has octets";
      likely = codes "a damaged length";
      act = codes "refuse it";
    }
advice_of BadBits =
    record {
      means = codes "a BIT STRING without its first octet, with more than 7 unused bits, or with unused "
          ++ codes "bits before its end";
      likely = codes "a key or signature written as an OCTET STRING is (wolfSSL's [1] of keys)";
      act = codes "a fault of the writer; refuse it";
    }
advice_of BadOid =
    record {
      means = codes "an object identifier that is empty, breaks off, pads a number in front, or has a "
          ++ codes "number of 2^128 or more in it";
      likely = codes "a damaged octet; a forged identifier";
      act = codes "refuse it";
    }
advice_of BadText =
    record {
      means = codes "a UTF8String that isn't UTF-8";
      likely = codes "a name in Latin-1, with a letter that isn't ASCII";
      act = codes "a new request, its text in UTF-8 (openssl req -utf8)";
    }
advice_of EmptySet =
    record {
      means = codes "a SET of no members that has to have one";
      likely = codes "an attribute without a value, an empty relative name";
      act = codes "a new request";
    }
advice_of Version =
    record {
      means = codes "a version that the kind doesn't have";
      likely = codes "under ec a PKCS #8 or PKCS #1 file, under key a PKCS #12 file; under request a "
          ++ codes "certificate of version 1; a request that is numbered 1 or more";
      act = codes "see the manual's table of other kinds and formats; version 1 of a request is written "
          ++ codes "as 0";
    }
advice_of Parameters =
    record {
      means = codes "an algorithm with parameters that it may not have, or an EC key without a named curve";
      likely = codes "NULL beside Ed25519, a curve that is written out";
      act = codes "have a key written anew, as the manual says under Getting the octets; of a request a "
          ++ codes "new one, by another program: its signature is over its key's parameters, too";
    }
advice_of Inner =
    record {
      means = codes "what is inside privateKey isn't the key that the algorithm asks for; the place and "
          ++ codes "reason inside follow";
      likely = codes "an octet after it, a key wrapped once too often or too little (TooLong inside is "
          ++ codes "often a bare seed); or any fault of this table";
      act = codes "read the reason inside";
    }
advice_of Curve =
    record {
      means = codes "a PKCS #8 key names two curves that differ";
      likely = codes "a forged or badly edited key, of which tools read one curve or the other";
      act = codes "never use it";
    }
advice_of KeyLength =
    record {
      means = codes "the key hasn't the length of its curve";
      likely = codes "zeros dropped in front (of P-521 keys every second one has some), an octet 00 added "
          ++ codes "in front (certtool), Ed25519's private and public key in one; inside, that the key "
          ++ codes "there names another curve than the container, which is judged later";
      act = codes "first see that both curves are one (openssl asn1parse); have it written anew, and "
          ++ codes "compare the public keys";
    }
advice_of VersionRule =
    record {
      means = codes "PKCS #8 of version 0 with a public key, or of version 1 without one; of RSA keys the "
          ++ codes "same with further primes";
      likely = codes "a writer that doesn't know RFC 5958";
      act = codes "have it written anew";
    }
advice_of TextTooLong =
    record {
      means = codes "the document is within --octets and its DER text isn't";
      likely = codes "an indefinite length just below the limit";
      act = codes "raise --octets";
    }
advice_of Trailing =
    record {
      means = codes "the document ends at P, and more follows";
      likely = codes "a line feed of an editor, two files in one, padding";
      act = codes "look at what follows, by xxd -s P FILE, before you cut it off";
    }
