use Rattle.std.proofs.Common.{◌≡◌, true, false, ◌++◌, get_or, drop, sym, ap, ap₂, ◌∙◌}
use Rattle.ber_pull.proofs.Joining.{joins_bits, joins_octets}
use Rattle.ber_pull.proofs.string.Joined.add.Goals as goal
use Rattle.ber_pull.proofs.string.Joined.add.Goals.{then-self, else-self}

pub returns-clause-more : goal.returns-clause-more
returns-clause-more c = λ s j. elim c.if-self.branch [
  | then-self w ↦
      let kind : c.append.new.self.is_bits ≡ true =
      c.append.ensures.kind ∙ ap (λ v. v.is_bits) w.self-is ∙ w.if-self.true in
      let unused : c.append.new.self.unused ≡ w.remove-self.result =
      c.append.ensures.unused ∙ ap (λ v. v.unused) w.self-is in
      let first : c.append.new.self.unused ≡ get_or c.args.contents.items 0 c.append.new.self.unused =
      unused ∙ w.remove-self.ensures.value ∙ ap (λ d. get_or c.args.contents.items 0 d) (sym unused) in
      let more : c.append.new.self.octets.items ≡ c.args.self.now.octets.items ++ drop 1 c.args.contents.items =
      c.in_ok-append.ensures.more
      ∙ ap₂ (λ a b. a ++ b) (ap (λ v. v.octets.items) w.self-is)
      (ap (λ v. v.items) w.contents-is ∙ w.remove-self.ensures.items) in
      joins_bits c.args.self.now c.append.new.self c.args.contents.items s w.if-self.true kind
      (c.requires w.if-self.true) first more j
  | else-self w ↦
      let kind : c.append.new.self.is_bits ≡ false =
      c.append.ensures.kind ∙ ap (λ v. v.is_bits) w.self-is ∙ w.if-self.false in
      let unused : c.append.new.self.unused ≡ c.args.self.now.unused =
      c.append.ensures.unused ∙ ap (λ v. v.unused) w.self-is in
      let more : c.append.new.self.octets.items ≡ c.args.self.now.octets.items ++ c.args.contents.items =
      c.in_ok-append.ensures.more
      ∙ ap₂ (λ a b. a ++ b) (ap (λ v. v.octets.items) w.self-is) (ap (λ v. v.items) w.contents-is) in
      joins_octets c.args.self.now c.append.new.self c.args.contents.items s w.if-self.false kind unused more j
]
