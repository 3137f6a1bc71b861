-- What is remarked on the algorithms of keys and signatures.
use Rattle.std.specs.Prelude.{Bool, List, None, Option, Some, [], codes, cond, false, not, option_and_then, true, ◌&&◌, ◌||◌, ℕ, ◌∷◌}
use Rattle.std.specs.Borrow.{Bor}
use Rattle.x690.specs.Lists.{one_of, same_octets}
use Rattle.pkix_shapes.specs.declared.identifiers.Identifier.{Identifier}
use Rattle.explain.specs.NotedKeys.{arcs_in}
use Rattle.explain.specs.Public.{is_field}
use Rattle.explain.specs.Remarks.{remark_if}
use Rattle.reports.specs.declared.report.AlgorithmRemark.TheVariants.{AnotherKey, Md5, NoNull, OldDigest, Sha1}
use Rattle.reports.specs.declared.report.Line.{Line}
use Rattle.reports.specs.declared.report.Remark.{Remark}
use Rattle.reports.specs.declared.report.Remark.TheVariants.{Algorithm}
use Rattle.reports.specs.declared.report.Value.{Value}
use Rattle.reports.specs.declared.report.Value.TheVariants.{Null}

-- rsaEncryption
abbrev pub rsa : List ℕ
rsa = codes "1.2.840.113549.1.1.1"

-- id-ecPublicKey
abbrev pub ec : List ℕ
ec = codes "1.2.840.10045.2.1"

-- of RSA, ECDSA and DSA (NIST SP 800-131A)
abbrev pub sha1_signatures : List (List ℕ)
sha1_signatures =
    codes "1.2.840.113549.1.1.5" ∷ codes "1.2.840.10045.4.1" ∷ codes "1.2.840.10040.4.3" ∷ []

-- RSA with MD2 and MD4
abbrev pub old_signatures : List (List ℕ)
old_signatures = codes "1.2.840.113549.1.1.2" ∷ codes "1.2.840.113549.1.1.3" ∷ []

-- RSA with MD2, MD4, MD5, SHA-1 (RFC 8017 appendix A.2.4)
abbrev pub first_rsa_signatures : List (List ℕ)
first_rsa_signatures =
    codes "1.2.840.113549.1.1.2" ∷ codes "1.2.840.113549.1.1.3" ∷ codes "1.2.840.113549.1.1.4"
    ∷ codes "1.2.840.113549.1.1.5" ∷ []

-- RSA with SHA-256, 384, 512, 224 (RFC 8017 appendix A.2.4)
abbrev pub sha2_rsa_signatures : List (List ℕ)
sha2_rsa_signatures =
    codes "1.2.840.113549.1.1.11" ∷ codes "1.2.840.113549.1.1.12" ∷ codes "1.2.840.113549.1.1.13"
    ∷ codes "1.2.840.113549.1.1.14" ∷ []

-- RSASSA-PSS (RFC 8017 appendix A.2.3), and RSA with SHA-512/224 and SHA-512/256 (appendix A.2.4)
abbrev pub later_rsa_signatures : List (List ℕ)
later_rsa_signatures =
    codes "1.2.840.113549.1.1.10" ∷ codes "1.2.840.113549.1.1.15" ∷ codes "1.2.840.113549.1.1.16" ∷ []

-- ECDSA with SHA-1 (RFC 3279 section 2.2.3), with the digest of the key or the parameters (X9.62), and with SHA-224,
-- 256, 384, 512 (RFC 5758 section 3.2)
abbrev pub ecdsa_signatures : List (List ℕ)
ecdsa_signatures =
    codes "1.2.840.10045.4.1" ∷ codes "1.2.840.10045.4.2" ∷ codes "1.2.840.10045.4.3" ∷ codes "1.2.840.10045.4.3.1"
    ∷ codes "1.2.840.10045.4.3.2" ∷ codes "1.2.840.10045.4.3.3" ∷ codes "1.2.840.10045.4.3.4" ∷ []

-- Ed25519, Ed448 (RFC 8410 section 3); ML-DSA-44, 65, 87 (RFC 9881 section 2)
abbrev pub lone_schemes : List (List ℕ)
lone_schemes =
    codes "1.3.101.112" ∷ codes "1.3.101.113" ∷ codes "2.16.840.1.101.3.4.3.17" ∷ codes "2.16.840.1.101.3.4.3.18"
    ∷ codes "2.16.840.1.101.3.4.3.19" ∷ []

-- SLH-DSA with SHA2: 128s, 128f, 192s, 192f, 256s, 256f (RFC 9909 section 3)
abbrev pub slh_dsa_sha2 : List (List ℕ)
slh_dsa_sha2 =
    codes "2.16.840.1.101.3.4.3.20" ∷ codes "2.16.840.1.101.3.4.3.21" ∷ codes "2.16.840.1.101.3.4.3.22"
    ∷ codes "2.16.840.1.101.3.4.3.23" ∷ codes "2.16.840.1.101.3.4.3.24" ∷ codes "2.16.840.1.101.3.4.3.25" ∷ []

-- the same with SHAKE
abbrev pub slh_dsa_shake : List (List ℕ)
slh_dsa_shake =
    codes "2.16.840.1.101.3.4.3.26" ∷ codes "2.16.840.1.101.3.4.3.27" ∷ codes "2.16.840.1.101.3.4.3.28"
    ∷ codes "2.16.840.1.101.3.4.3.29" ∷ codes "2.16.840.1.101.3.4.3.30" ∷ codes "2.16.840.1.101.3.4.3.31" ∷ []

-- One identifier is that of the key and of its signatures.
abbrev pub signs_as_itself : List ℕ → Bool
signs_as_itself arcs = one_of arcs lone_schemes || (one_of arcs slh_dsa_sha2 || one_of arcs slh_dsa_shake)

-- The family of a key that signs, by the arcs of one of its algorithms: rsaEncryption and id-RSASSA-PSS (RFC 8017
-- appendix A.2.3) are of one family. A key that only agrees on other keys is of none.
abbrev pub key_family : List ℕ → Option (List ℕ)
key_family arcs =
    cond (same_octets arcs rsa || same_octets arcs (codes "1.2.840.113549.1.1.10")) (Some rsa)
    (cond (same_octets arcs ec || signs_as_itself arcs) (Some arcs) None)

-- the family of the key that makes a signature
abbrev pub signature_family : List ℕ → Option (List ℕ)
signature_family arcs =
    cond
    (one_of arcs first_rsa_signatures || (one_of arcs sha2_rsa_signatures || one_of arcs later_rsa_signatures))
    (Some rsa)
    (cond (one_of arcs ecdsa_signatures) (Some ec) (cond (signs_as_itself arcs) (Some arcs) None))

-- two are there, and differ
abbrev pub are_apart : Option (List ℕ) → Option (List ℕ) → Bool
are_apart None other = false
are_apart (Some one) None = false
are_apart (Some one) (Some other) = not (same_octets one other)

-- A signature is of another family than the key, where both are of a known one.
abbrev pub is_of_another : Option (Bor Identifier) → List ℕ → Bool
is_of_another None arcs = false
is_of_another (Some key) arcs = are_apart (key_family key.now.arcs.now) (signature_family arcs)

-- Signatures with SHA-1 (NIST SP 800-131A), with MD5 (RFC 6151 section 2), and with MD2 and MD4, which are older.
abbrev pub remark_on_digest : List ℕ → Option Remark
remark_on_digest arcs =
    cond (one_of arcs sha1_signatures) (Some (Algorithm Sha1))
    (cond (same_octets arcs (codes "1.2.840.113549.1.1.4")) (Some (Algorithm Md5))
    (remark_if (one_of arcs old_signatures) (Algorithm OldDigest)))

-- A request is signed with its own key (RFC 2986 section 3).
abbrev pub remark_on_signature : Option (Bor Identifier) → List ℕ → Option Remark
remark_on_signature key arcs = cond (is_of_another key arcs) (Some (Algorithm AnotherKey)) (remark_on_digest arcs)

abbrev pub says_null : Value → Bool
says_null Null = true
says_null _ = false

abbrev pub is_null : Option Line → Bool
is_null None = false
is_null (Some line) = says_null line.value

abbrev pub lacks_null : List ℕ → Option Line → Bool
lacks_null arcs parameters = same_octets arcs rsa && not (is_null parameters)

-- the element around an algorithm is that of a signature
abbrev pub is_of_signature : Option Line → Bool
is_of_signature None = false
is_of_signature (Some line) = is_field line.step (codes "signatureAlgorithm")

-- rsaEncryption has NULL as parameters (RFC 8017 appendix A.1, RFC 3279 section 2.3.1).
abbrev pub remark_on_arcs : Option (Bor Identifier) → Option Line → Option Line → List ℕ → Option Remark
remark_on_arcs key around parameters arcs =
    cond (lacks_null arcs parameters) (Some (Algorithm NoNull))
    (cond (is_of_signature around) (remark_on_signature key arcs) None)

-- What is remarked on an algorithm with these parameters, after the algorithm of this key, by the element around it.
abbrev pub remark_on_scheme : Option (Bor Identifier) → Option Line → Option Line → Value → Option Remark
remark_on_scheme key around parameters value =
    option_and_then (remark_on_arcs key around parameters) (arcs_in value)
