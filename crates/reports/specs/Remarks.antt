-- Remarks by their codes and levels, and in words those on keys, names, values of attributes, extensions and algorithms.
use Rattle.std.specs.Prelude.{List, [], codes, decimal, ℕ, ◌++◌}
use Rattle.reports.specs.Words.{place_said, sized}
use Rattle.reports.specs.declared.report.AlgorithmRemark.{AlgorithmRemark}
use Rattle.reports.specs.declared.report.AlgorithmRemark.TheVariants as algorithms
use Rattle.reports.specs.declared.report.ExtensionRemark.{ExtensionRemark}
use Rattle.reports.specs.declared.report.ExtensionRemark.TheVariants as extensions
use Rattle.reports.specs.declared.report.AttributeRemark.{AttributeRemark}
use Rattle.reports.specs.declared.report.AttributeRemark.TheVariants as attributes
use Rattle.reports.specs.declared.report.KeyRemark.{KeyRemark}
use Rattle.reports.specs.declared.report.KeyRemark.TheVariants as keys
use Rattle.reports.specs.declared.report.NameRemark.{NameRemark}
use Rattle.reports.specs.declared.report.NameRemark.TheVariants as names
use Rattle.reports.specs.declared.report.Remark.{Remark}
use Rattle.reports.specs.declared.report.Remark.TheVariants as remarks
use Rattle.reports.specs.declared.report.TlsRemark.{TlsRemark}
use Rattle.reports.specs.declared.report.TlsRemark.TheVariants as tls

abbrev pub key_code : KeyRemark → List ℕ
key_code keys.NotDer = codes "key_inside"
key_code (keys.Refused at why) = codes "key_inside"
key_code keys.NegativeModulus = codes "rsa_negative"
key_code keys.EvenModulus = codes "rsa_even"
key_code (keys.ShortModulus bits) = codes "rsa_size"
key_code keys.Exponent = codes "rsa_exponent"
key_code (keys.SmallCurve bits) = codes "curve"

abbrev pub name_code : NameRemark → List ℕ
name_code (names.AddressLength octets) = codes "san_ip_length"
name_code names.DnsSyntax = codes "san_dns_syntax"
name_code names.Wildcard = codes "san_wildcard"
name_code names.PrintableString = codes "printable_string"
name_code names.Hidden = codes "control_in_name"
name_code names.MailSyntax = codes "san_mail_syntax"
name_code names.UriSyntax = codes "san_uri_syntax"
name_code names.AddressAsDns = codes "san_ip_as_dns"
name_code names.Twice = codes "san_twice"

abbrev pub attribute_code : AttributeRemark → List ℕ
attribute_code attributes.Country = codes "country"
attribute_code attributes.EmailType = codes "email_type"
attribute_code attributes.OtherType = codes "name_type"
attribute_code (attributes.Long characters most) = codes "name_long"
attribute_code attributes.Blank = codes "name_blank"

abbrev pub extension_code : ExtensionRemark → List ℕ
extension_code extensions.NoUsage = codes "ku_none"
extension_code extensions.SignWithoutCa = codes "certsign_without_ca"
extension_code extensions.PathWithoutCa = codes "pathlen_without_ca"
extension_code extensions.OldRequest = codes "old_extension_request"
extension_code extensions.EmptySubject = codes "empty_subject"
extension_code extensions.NoAttributes = codes "no_attributes"

abbrev pub algorithm_code : AlgorithmRemark → List ℕ
algorithm_code algorithms.Sha1 = codes "sha1"
algorithm_code algorithms.Md5 = codes "md5"
algorithm_code algorithms.OldDigest = codes "md5"
algorithm_code algorithms.NoNull = codes "rsa_no_null"
algorithm_code algorithms.AnotherKey = codes "algorithm_of_another_key"

abbrev pub tls_code : TlsRemark → List ℕ
tls_code (tls.ModulusBits bits) = codes "rsa_size"
tls_code tls.Exponent = codes "rsa_exponent"
tls_code tls.Curve = codes "curve"
tls_code tls.KeyAlgorithm = codes "key_algorithm"
tls_code tls.CommonName = codes "cn_not_in_san"
tls_code tls.InternalName = codes "san_internal"
tls_code tls.ReservedAddress = codes "san_internal"
tls_code tls.AnyUsage = codes "eku_any"
tls_code tls.NamesNotCritical = codes "san_not_critical"

-- what a program knows a remark by
abbrev pub remark_code : Remark → List ℕ
remark_code (remarks.PointSize octets) = codes "point_size"
remark_code remarks.PointBits = codes "point_bits"
remark_code (remarks.PointHybrid octet) = codes "point_hybrid"
remark_code remarks.NoNamedCurve = codes "no_named_curve"
remark_code remarks.ExtensionTwice = codes "extension_twice"
remark_code remarks.AttributeTwice = codes "attribute_twice"
remark_code (remarks.SeveralValues count) = codes "several_values"
remark_code (remarks.KeySize octets due) = codes "key_size"
remark_code remarks.NeedlessParameters = codes "needless_parameters"
remark_code (remarks.ExtensionNotDer name) = codes "extension_not_der"
remark_code (remarks.ExtensionZeroBits name) = codes "extension_not_der"
remark_code (remarks.ExtensionRefused name at why) = codes "extension_not_der"
remark_code (remarks.Key remark) = key_code remark
remark_code (remarks.Name remark) = name_code remark
remark_code (remarks.Extension remark) = extension_code remark
remark_code (remarks.Algorithm remark) = algorithm_code remark
remark_code (remarks.Attribute remark) = attribute_code remark
remark_code (remarks.Tls remark) = tls_code remark

-- NIST SP 800-131A advises on lengths of keys.
abbrev pub key_level : KeyRemark → List ℕ
key_level keys.NotDer = codes "must"
key_level (keys.Refused at why) = codes "must"
key_level keys.NegativeModulus = codes "must"
key_level keys.EvenModulus = codes "must"
key_level (keys.ShortModulus bits) = codes "should"
key_level keys.Exponent = codes "must"
key_level (keys.SmallCurve bits) = codes "should"

-- RFC 9525 is of who looks a name up in a certificate, not of who writes it; no standard forbids an address among DNS
-- names, or a name twice.
abbrev pub name_level : NameRemark → List ℕ
name_level (names.AddressLength octets) = codes "must"
name_level names.DnsSyntax = codes "must"
name_level names.Wildcard = codes "should"
name_level names.PrintableString = codes "must"
name_level names.Hidden = codes "must"
name_level names.MailSyntax = codes "must"
name_level names.UriSyntax = codes "must"
name_level names.AddressAsDns = codes "should"
name_level names.Twice = codes "should"

-- A value that is blank has its type all the same.
abbrev pub attribute_level : AttributeRemark → List ℕ
attribute_level attributes.Country = codes "must"
attribute_level attributes.EmailType = codes "must"
attribute_level attributes.OtherType = codes "must"
attribute_level (attributes.Long characters most) = codes "must"
attribute_level attributes.Blank = codes "should"

-- Only the attribute extensionRequest has a standard, and a subject may be empty for other names (RFC 5280 section
-- 4.1.2.6), which an issuer may add. Requests without attributes are in use, and many readers take them.
abbrev pub extension_level : ExtensionRemark → List ℕ
extension_level extensions.NoUsage = codes "must"
extension_level extensions.SignWithoutCa = codes "must"
extension_level extensions.PathWithoutCa = codes "must"
extension_level extensions.OldRequest = codes "should"
extension_level extensions.EmptySubject = codes "should"
extension_level extensions.NoAttributes = codes "should"

-- NIST SP 800-131A and RFC 6151 advise on digests.
abbrev pub algorithm_level : AlgorithmRemark → List ℕ
algorithm_level algorithms.Sha1 = codes "should"
algorithm_level algorithms.Md5 = codes "should"
algorithm_level algorithms.OldDigest = codes "should"
algorithm_level algorithms.NoNull = codes "must"
algorithm_level algorithms.AnotherKey = codes "must"

-- Of exponents the Baseline Requirements demand an odd one from 3 on, and advise on larger ones (section 6.1.6).
abbrev pub tls_level : TlsRemark → List ℕ
tls_level (tls.ModulusBits bits) = codes "must"
tls_level tls.Exponent = codes "should"
tls_level tls.Curve = codes "must"
tls_level tls.KeyAlgorithm = codes "must"
tls_level tls.CommonName = codes "must"
tls_level tls.InternalName = codes "must"
tls_level tls.ReservedAddress = codes "must"
tls_level tls.AnyUsage = codes "must"
tls_level tls.NamesNotCritical = codes "must"

-- whether the standard says MUST, or advises
abbrev pub remark_level : Remark → List ℕ
remark_level (remarks.PointSize octets) = codes "must"
remark_level remarks.PointBits = codes "must"
remark_level (remarks.PointHybrid octet) = codes "must"
remark_level remarks.NoNamedCurve = codes "must"
remark_level remarks.ExtensionTwice = codes "must"
remark_level remarks.AttributeTwice = codes "must"
remark_level (remarks.SeveralValues count) = codes "must"
remark_level (remarks.KeySize octets due) = codes "must"
remark_level remarks.NeedlessParameters = codes "must"
remark_level (remarks.ExtensionNotDer name) = codes "must"
remark_level (remarks.ExtensionZeroBits name) = codes "must"
remark_level (remarks.ExtensionRefused name at why) = codes "must"
remark_level (remarks.Key remark) = key_level remark
remark_level (remarks.Name remark) = name_level remark
remark_level (remarks.Extension remark) = extension_level remark
remark_level (remarks.Algorithm remark) = algorithm_level remark
remark_level (remarks.Attribute remark) = attribute_level remark
remark_level (remarks.Tls remark) = tls_level remark

-- what is said of a key
unfoldable pub key_remark_said : KeyRemark → List ℕ
key_remark_said keys.NotDer = codes "the RSA key isn't in DER inside (RFC 3279 section 2.3.1)"
key_remark_said (keys.Refused at why) =
    codes "the public key isn't an RSAPublicKey inside: fault at " ++ place_said at why
    ++ codes ", counted from the first octet of its value (RFC 3279 section 2.3.1)"
key_remark_said keys.NegativeModulus = codes "a modulus below 0 (RFC 8017 section 3.1)"
key_remark_said keys.EvenModulus = codes "an even modulus, which is no product of odd primes (RFC 8017 section 3.1)"
key_remark_said (keys.ShortModulus bits) =
    codes "a modulus of " ++ decimal bits ++ codes " bits, where NIST SP 800-131A has 2048 at least"
key_remark_said keys.Exponent = codes "a public exponent that isn't an odd number from 3 on (RFC 8017 section 3.1)"
key_remark_said (keys.SmallCurve bits) =
    codes "a curve of " ++ decimal bits ++ codes " bits, where NIST SP 800-131A has 224 at least"

-- what is said of a name, up to the numbers that it has
unfoldable pub name_words : NameRemark → List ℕ
name_words (names.AddressLength octets) = codes "an IP address of "
name_words names.DnsSyntax = codes "a DNS name that isn't in the preferred name syntax (RFC 5280 section 4.2.1.6)"
name_words names.Wildcard = codes "a wildcard that isn't the whole first label (RFC 9525 section 6.3)"
name_words names.PrintableString = codes "a PrintableString with a character that isn't one of its own (X.680 41.4)"
name_words names.Hidden = codes "a character that controls or formats text, which a reader doesn't see"
name_words names.MailSyntax = codes "an rfc822Name that isn't a mailbox (RFC 5280 section 4.2.1.6)"
name_words names.UriSyntax = codes "a URI without a scheme, or with nothing after it (RFC 5280 section 4.2.1.6)"
name_words names.AddressAsDns =
    codes "an IPv4 address as a DNS name, where iPAddress is for these (RFC 5280 section 4.2.1.6)"
name_words names.Twice = codes "a name that stands there before"

unfoldable pub name_numbers : NameRemark → List ℕ
name_numbers (names.AddressLength octets) =
    sized octets ++ codes ", where it has 4 or 16 (RFC 5280 section 4.2.1.6)"
name_numbers names.DnsSyntax = []
name_numbers names.Wildcard = []
name_numbers names.PrintableString = []
name_numbers names.Hidden = []
name_numbers names.MailSyntax = []
name_numbers names.UriSyntax = []
name_numbers names.AddressAsDns = []
name_numbers names.Twice = []

-- what is said of a name
unfoldable pub name_remark_said : NameRemark → List ℕ
name_remark_said remark = name_words remark ++ name_numbers remark

-- what is said of the value of an attribute, up to the numbers that it has
unfoldable pub attribute_words : AttributeRemark → List ℕ
attribute_words attributes.Country =
    codes "a countryName that isn't a PrintableString of two characters (RFC 5280 appendix A.1)"
attribute_words attributes.EmailType = codes "an emailAddress that isn't an IA5String (RFC 5280 appendix A.1)"
attribute_words attributes.OtherType = codes "a value of another type than its attribute has (RFC 5280 appendix A.1)"
attribute_words (attributes.Long characters most) = codes "a value of "
attribute_words attributes.Blank = codes "a value in which a reader sees nothing"

unfoldable pub attribute_numbers : AttributeRemark → List ℕ
attribute_numbers attributes.Country = []
attribute_numbers attributes.EmailType = []
attribute_numbers attributes.OtherType = []
attribute_numbers (attributes.Long characters most) =
    decimal characters ++ (codes " characters, where its attribute has " ++ (decimal most
    ++ codes " at most (RFC 5280 appendix A.1)"))
attribute_numbers attributes.Blank = []

-- what is said of the value of an attribute
unfoldable pub attribute_remark_said : AttributeRemark → List ℕ
attribute_remark_said remark = attribute_words remark ++ attribute_numbers remark

-- what is said of what extensions say, or lack
unfoldable pub extension_remark_said : ExtensionRemark → List ℕ
extension_remark_said extensions.NoUsage = codes "a keyUsage of which no bit is 1 (RFC 5280 section 4.2.1.3)"
extension_remark_said extensions.SignWithoutCa =
    codes "keyCertSign, where no basicConstraints has cA TRUE (RFC 5280 section 4.2.1.3)"
extension_remark_said extensions.PathWithoutCa =
    codes "pathLenConstraint, where no basicConstraints has cA TRUE (RFC 5280 section 4.2.1.9)"
extension_remark_said extensions.OldRequest =
    codes "Microsoft's attribute in place of extensionRequest (RFC 2985 section 5.4.2)"
extension_remark_said extensions.EmptySubject =
    codes "a subject without an attribute, and no subjectAltName (RFC 5280 section 4.1.2.6)"
extension_remark_said extensions.NoAttributes =
    codes "no field attributes, which a request has even where it is empty (RFC 2986 section 4.1)"

-- what is said of an algorithm
unfoldable pub algorithm_remark_said : AlgorithmRemark → List ℕ
algorithm_remark_said algorithms.Sha1 = codes "a signature with SHA-1 (NIST SP 800-131A)"
algorithm_remark_said algorithms.Md5 = codes "a signature with MD5 (RFC 6151 section 2)"
algorithm_remark_said algorithms.OldDigest = codes "a signature with MD2 or MD4, which are older than MD5"
algorithm_remark_said algorithms.NoNull =
    codes "rsaEncryption without NULL as its parameters (RFC 8017 appendix A.1, RFC 3279 section 2.3.1)"
algorithm_remark_said algorithms.AnotherKey =
    codes "a signature that the key in the request can't make (RFC 2986 section 3)"

-- what is said for TLS servers, up to the numbers that it has
unfoldable pub tls_words : TlsRemark → List ℕ
tls_words (tls.ModulusBits bits) = codes "a modulus of "
tls_words tls.Exponent =
    codes "a public exponent that isn't from 65537 up to 2^256 - 1 (Baseline Requirements section 6.1.6)"
tls_words tls.Curve = codes "a curve that isn't P-256, P-384 or P-521 (Baseline Requirements section 6.1.5)"
tls_words tls.KeyAlgorithm =
    codes "a key that is neither rsaEncryption nor id-ecPublicKey (Baseline Requirements section 7.1.3.1)"
tls_words tls.CommonName =
    codes "a commonName that isn't one of the names in subjectAltName (Baseline Requirements section 7.1.4.3)"
tls_words tls.InternalName =
    codes "a DNS name of one label, or under one that isn't in the public DNS "
    ++ codes "(Baseline Requirements section 7.1.2.7.12)"
tls_words tls.ReservedAddress =
    codes "an IP address that isn't one of the Internet's (Baseline Requirements section 7.1.2.7.12)"
tls_words tls.AnyUsage = codes "the usage anyExtendedKeyUsage (Baseline Requirements section 7.1.2.7.10)"
tls_words tls.NamesNotCritical =
    codes "a subjectAltName that isn't critical beside an empty subject (RFC 5280 section 4.2.1.6)"

unfoldable pub tls_numbers : TlsRemark → List ℕ
tls_numbers (tls.ModulusBits bits) =
    decimal bits
    ++ codes " bits, where 2048 at least are due and 8 divide them (Baseline Requirements section 6.1.5)"
tls_numbers tls.Exponent = []
tls_numbers tls.Curve = []
tls_numbers tls.KeyAlgorithm = []
tls_numbers tls.CommonName = []
tls_numbers tls.InternalName = []
tls_numbers tls.ReservedAddress = []
tls_numbers tls.AnyUsage = []
tls_numbers tls.NamesNotCritical = []

-- what is said of what the certificate of a TLS server may not have
unfoldable pub tls_remark_said : TlsRemark → List ℕ
tls_remark_said remark = tls_words remark ++ tls_numbers remark
