use Rattle.std.proofs.Common.{codes, decimal, string_bytes, ◌++◌}
use Rattle.reports.specs.Remarks.{key_remark_said}
use Rattle.reports.specs.Words.{place_said}
use Rattle.reports.proofs.Appends.{past, put}
use Rattle.reports.proofs.remarks.push_key_remark.Goals as goal

pub returns-in_ok-push_reason-in-Refused : goal.returns-in_ok-push_reason-in-Refused
unfolding key_remark_said
returns-in_ok-push_reason-in-Refused c =
    let it = c.push_str-in-Refused-2 in
    let new = string_bytes it.new.self in
    let with_first = string_bytes c.push_str-in-Refused.new.self in
    let first = codes "the public key isn't an RSAPublicKey inside: fault at " in
    let place = place_said c.in-Refused.at c.in-Refused.why in
    let last = codes ", counted from the first octet of its value (RFC 3279 section 2.3.1)" in
    rw c.in-Refused.is
    (past it.result new with_first (string_bytes c.args.text.now) first (place ++ last)
    c.in_ok-push_str-in-Refused.ensures.bytes
    (past it.result new (string_bytes c.push_reason.new.text) with_first place last
    c.in_ok-push_reason-in-Refused.ensures
    (put it.result new (string_bytes c.push_reason.new.text) last it.ensures.bytes)))

pub returns-in-NegativeModulus : goal.returns-in-NegativeModulus
unfolding key_remark_said
returns-in-NegativeModulus c =
    let it = c.push_str-in-NegativeModulus in
    rw c.in-NegativeModulus.is
    (put it.result (string_bytes it.new.self) (string_bytes c.args.text.now)
    (codes "a modulus below 0 (RFC 8017 section 3.1)")
    it.ensures.bytes)

pub returns-in-EvenModulus : goal.returns-in-EvenModulus
unfolding key_remark_said
returns-in-EvenModulus c =
    let it = c.push_str-in-EvenModulus in
    rw c.in-EvenModulus.is
    (put it.result (string_bytes it.new.self) (string_bytes c.args.text.now)
    (codes "an even modulus, which is no product of odd primes (RFC 8017 section 3.1)")
    it.ensures.bytes)

pub returns-in_ok-push_number-in-ShortModulus : goal.returns-in_ok-push_number-in-ShortModulus
unfolding key_remark_said
returns-in_ok-push_number-in-ShortModulus c =
    let it = c.push_str-in-ShortModulus-2 in
    let new = string_bytes it.new.self in
    let with_first = string_bytes c.push_str-in-ShortModulus.new.self in
    let last = codes " bits, where NIST SP 800-131A has 2048 at least" in
    rw c.in-ShortModulus.is
    (past it.result new with_first (string_bytes c.args.text.now) (codes "a modulus of ")
    (decimal c.in-ShortModulus.bits ++ last) c.in_ok-push_str-in-ShortModulus.ensures.bytes
    (past it.result new (string_bytes c.push_number.new.text) with_first (decimal c.in-ShortModulus.bits) last
    c.in_ok-push_number-in-ShortModulus.ensures
    (put it.result new (string_bytes c.push_number.new.text) last it.ensures.bytes)))

pub returns-in-Exponent : goal.returns-in-Exponent
unfolding key_remark_said
returns-in-Exponent c =
    let it = c.push_str-in-Exponent in
    rw c.in-Exponent.is
    (put it.result (string_bytes it.new.self) (string_bytes c.args.text.now)
    (codes "a public exponent that isn't an odd number from 3 on (RFC 8017 section 3.1)")
    it.ensures.bytes)
